use Rattle.std.proofs.Common.{◌≡◌, sym, ap, subst, ◌≤◌, ◌<◌, ◌^◌, List, length, arith}
use Rattle.std.specs.Prelude.{IsSomeAnd}
use Rattle.std.proofs.lemmas.List.{with_items_is}
use Rattle.sc_term.specs.Numbering.{numbered}
use Rattle.sc_interp.specs.Versions.{ClaimedStructure}
use Rattle.sc_core_rules.specs.Selection.{Seen}
use Rattle.sc_core_laws.specs.TrueRows.{IsFrontOf}
use Rattle.sc_world.specs.World.{WorldState, IsWorld}
use Rattle.sc_world.proofs.WorldFronts.{same_front}
use Rattle.sc_world.proofs.WorldSteps.{either_way, list_at, front_by, said_of, some_is, publish_world, publish_grows}
use Rattle.sc_world.proofs.world.World.publish.Goals.{in-Ok, in-Err}
use Rattle.sc_world.proofs.world.World.publish.Goals as goal

pub invariant_of-self : goal.invariant_of-self
invariant_of-self c =
    let published : Seen = c.self.inside.lists.items in
    let there = subst (λ (w : WorldState). c.args.finder ≤ length w.published) (sym c.self.view_is) c.requires.there in
    let list = list_at published c.args.finder c.index.result.now c.requires.some there c.index.ensures in
    let few : length c.index.result.now < 2 ^ 31 = said_of (λ (vs : List ClaimedStructure). length vs < 2 ^ 31) published c.args.finder c.index.result.now list
    (subst (λ (w : WorldState). IsSomeAnd (numbered w.published c.args.finder) (λ (vs : List ClaimedStructure). length vs < 2 ^ 31)) (sym c.self.view_is) c.requires.few) in
    subst (λ (lists : Seen). IsWorld lists c.self.inside.prover)
    (sym (with_items_is c.self.inside.lists c.push_copy.new.lists (omega (arith, c.push_copy.auto.lists, c.as_mut_slice.ensures.len))))
    (either_way (λ (lists : Seen). IsWorld lists c.self.inside.prover) c.push_copy.result published c.as_mut_slice.result.now c.push_copy.new.lists c.args.finder c.args.version
    c.push_copy.ensures.joined c.push_copy.ensures.refused c.as_mut_slice.ensures.value
    (publish_world published c.self.inside.prover c.args.finder c.index.result.now c.args.version list few c.self.invariant) c.self.invariant)

pub returns-clause-place : goal.returns-clause-place
returns-clause-place c =
    let published : Seen = c.self.inside.lists.items in
    let there = subst (λ (w : WorldState). c.args.finder ≤ length w.published) (sym c.self.view_is) c.requires.there in
    let list = list_at published c.args.finder c.index.result.now c.requires.some there c.index.ensures in
    let place = subst (λ (w : WorldState). IsSomeAnd (numbered w.published c.args.finder) (λ (vs : List ClaimedStructure). c.len-place.result ≡ length vs)) c.self.view_is
    (some_is (λ (vs : List ClaimedStructure). c.len-place.result ≡ length vs) (numbered published c.args.finder) c.index.result.now list c.len-place.ensures) in
    elim c.match-push_copy.branch [
      | in-Ok w ↦ rw w.result-is place
      | in-Err w ↦ rw w.result-is tt
    ]

pub returns-clause-grows : goal.returns-clause-grows
returns-clause-grows c =
    let published : Seen = c.self.inside.lists.items in
    let there = subst (λ (w : WorldState). c.args.finder ≤ length w.published) (sym c.self.view_is) c.requires.there in
    let list = list_at published c.args.finder c.index.result.now c.requires.some there c.index.ensures in
    front_by _ published c.args.self.now.published (ap (λ (w : WorldState). w.published) c.self.view_is)
    (subst (λ (lists : Seen). IsFrontOf lists published)
    (sym (with_items_is c.self.inside.lists c.push_copy.new.lists (omega (arith, c.push_copy.auto.lists, c.as_mut_slice.ensures.len))))
    (either_way (λ (lists : Seen). IsFrontOf lists published) c.push_copy.result published c.as_mut_slice.result.now c.push_copy.new.lists c.args.finder c.args.version
    c.push_copy.ensures.joined c.push_copy.ensures.refused c.as_mut_slice.ensures.value
    (publish_grows published c.self.inside.prover c.args.finder c.index.result.now c.args.version list) (same_front published)))
