use Rattle.std.proofs.Common.{ap, subst, List, [], length, arith}
use Rattle.sc_term.specs.declared.Literal.{Literal}
use Rattle.sc_term.specs.Clause.{width}
use Rattle.sc_core_rules.specs.declared.site.Pick.{Pick}
use Rattle.sc_core_rules.specs.Hyperresolution.{hyper_numbers}
use Rattle.sc_resolve.specs.Extending.{Extends}
use Rattle.sc_resolve.proofs.KeptLaws.{kept_width, kept_length}
use Rattle.sc_hyper.specs.Choosing.{Completes}
use Rattle.sc_hyper.proofs.ChoosingLaws.{unify_none, chosen_none}
use Rattle.sc_hyper.proofs.HyperLaws.{with_nucleus, no_nucleus}
use Rattle.sc_hyper.proofs.hyper.add_with_nucleus.Goals as goal

pub negative_literals-requires : goal.negative_literals-requires
negative_literals-requires c = kept_length c.args.nucleus.now.clause c.requires.kept

pub returns-then-is_empty : goal.returns-then-is_empty
returns-then-is_empty c =
    no_nucleus c.args.given c.args.candidates.now c.args.limit c.args.nucleus.now c.in_ok-found.found.numbers c.in_ok-found.found.literals c.in_ok-found.ensures.are
    (c.is_empty.ensures.0 c.if-is_empty.true) c.args.sites.now

pub width-requires : goal.width-requires
width-requires c = omega (arith, kept_width c.args.nucleus.now.clause c.requires.kept)

pub choose-requires-clause-unify : goal.choose-requires-clause-unify
choose-requires-clause-unify c = unify_none c.new-2.result c.new-2.ensures

pub choose-requires-clause-few : goal.choose-requires-clause-few
choose-requires-clause-few c =
    omega (arith, ap (λ (ls : List Literal). length ls) c.as_slice.ensures, c.in_ok-found.ensures.few, kept_length c.args.nucleus.now.clause c.requires.kept)

pub choose-requires-clause-low : goal.choose-requires-clause-low
choose-requires-clause-low c = omega (arith, kept_width c.args.nucleus.now.clause c.requires.kept, c.width.ensures, ap (λ (ps : List Pick). length ps) c.new.ensures)

pub returns : goal.returns
returns c =
    let low = width c.args.nucleus.now.clause in
    let ls = c.in_ok-found.found.literals in
    let all = c.args.candidates.now in
    let chosen = chosen_none all low c.as_slice.result.now (record { picks = c.new.result; pairs = c.new-2.result; low = c.width.result }) c.new.ensures c.new-2.ensures c.width.ensures in
    with_nucleus c.args.given all c.args.limit c.args.nucleus.now c.in_ok-found.found.numbers ls c.in_ok-found.ensures.are
    (λ e. let bad = c.is_empty.ensures.1 e in cc) c.args.sites.now c.choose.new.sites
    (subst (λ (ks : List Literal). Extends hyper_numbers (Completes c.args.nucleus.now.number c.args.given all low ks []) c.args.limit c.args.sites.now c.choose.new.sites) c.as_slice.ensures
    (c.in_ok-choose.ensures low [] chosen))
