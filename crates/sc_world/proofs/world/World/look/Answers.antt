use Rattle.std.proofs.Common.{◌≤◌, sym, subst, length}
use Rattle.std.proofs.lemmas.Result.{on_ok_weaker, on_err_weaker}
use Rattle.sc_world.specs.World.{WorldState}
use Rattle.sc_world.proofs.WorldSteps.{sight_of, look_answered, look_happens, look_refused}
use Rattle.sc_world.proofs.world.World.look.Goals as goal

pub see_from-requires-clause-seen : goal.see_from-requires-clause-seen
see_from-requires-clause-seen c =
    let there = subst (λ (w : WorldState). c.args.finder ≤ length w.published) (sym c.self.view_is) c.requires.there in
    let sight = sight_of c.self.inside.lists.items c.self.inside.prover.seen c.seen.result.now c.args.finder c.len-from.result c.as_slice-versions.result.now c.index.result.now c.index-seen-index.result
    c.self.invariant.prefixes c.requires.some there c.index.ensures c.as_slice-versions.ensures c.seen.ensures c.index-seen-index.is c.len-from.ensures in
    sight.first

pub invariant_of-self : goal.invariant_of-self
invariant_of-self c =
    let there = subst (λ (w : WorldState). c.args.finder ≤ length w.published) (sym c.self.view_is) c.requires.there in
    let sight = sight_of c.self.inside.lists.items c.self.inside.prover.seen c.seen.result.now c.args.finder c.len-from.result c.as_slice-versions.result.now c.index.result.now c.index-seen-index.result
    c.self.invariant.prefixes c.requires.some there c.index.ensures c.as_slice-versions.ensures c.seen.ensures c.index-seen-index.is c.len-from.ensures in
    look_answered c.see_from.result c.self.inside.lists.items c.self.inside.prover c.see_from.new.prover c.args.finder c.len-from.result c.as_slice-versions.result.now sight
    c.see_from.ensures.all c.see_from.ensures.some c.self.invariant

pub returns-clause-happens : goal.returns-clause-happens
returns-clause-happens c =
    let there = subst (λ (w : WorldState). c.args.finder ≤ length w.published) (sym c.self.view_is) c.requires.there in
    let sight = sight_of c.self.inside.lists.items c.self.inside.prover.seen c.seen.result.now c.args.finder c.len-from.result c.as_slice-versions.result.now c.index.result.now c.index-seen-index.result
    c.self.invariant.prefixes c.requires.some there c.index.ensures c.as_slice-versions.ensures c.seen.ensures c.index-seen-index.is c.len-from.ensures in
    on_ok_weaker c.see_from.result
    (look_happens c.self.inside.lists.items c.self.inside.prover c.see_from.new.prover c.args.finder c.as_slice-versions.result.now c.args.self.now c.self.view_is sight.there) c.see_from.ensures.all

pub returns-clause-refused : goal.returns-clause-refused
returns-clause-refused c =
    let there = subst (λ (w : WorldState). c.args.finder ≤ length w.published) (sym c.self.view_is) c.requires.there in
    let sight = sight_of c.self.inside.lists.items c.self.inside.prover.seen c.seen.result.now c.args.finder c.len-from.result c.as_slice-versions.result.now c.index.result.now c.index-seen-index.result
    c.self.invariant.prefixes c.requires.some there c.index.ensures c.as_slice-versions.ensures c.seen.ensures c.index-seen-index.is c.len-from.ensures in
    on_err_weaker c.see_from.result
    (λ some. look_refused c.self.inside.lists.items c.self.inside.prover c.see_from.new.prover c.args.finder c.len-from.result some.0 c.as_slice-versions.result.now sight.there sight.first some.1 some.2 some.3 c.args.self.now c.self.view_is)
    c.see_from.ensures.some
