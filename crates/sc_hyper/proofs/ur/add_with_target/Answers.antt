use Rattle.std.proofs.Common.{◌∙◌, ◌-◌, ap, subst, List, [], length, map, ◌++◌, arith}
use Rattle.sc_term.specs.declared.Literal.{Literal}
use Rattle.sc_term.specs.Clause.{width}
use Rattle.sc_core_rules.specs.declared.site.Pick.{Pick}
use Rattle.sc_core_rules.specs.declared.site.HyperSite.{HyperSite}
use Rattle.sc_core_rules.specs.declared.site.UrSite.{UrSite}
use Rattle.sc_core_rules.specs.Hyperresolution.{hyper_numbers}
use Rattle.sc_resolve.specs.Extending.{Extends}
use Rattle.sc_resolve.proofs.KeptLaws.{kept_width, kept_length}
use Rattle.sc_hyper.specs.Choosing.{Completes}
use Rattle.sc_hyper.specs.Ur.{ur_of}
use Rattle.sc_hyper.proofs.ChoosingLaws.{unify_none, chosen_none}
use Rattle.sc_hyper.proofs.UrLaws.{with_target}
use Rattle.sc_hyper.proofs.ur.add_with_target.Goals as goal

pub other_literals-requires : goal.other_literals-requires
other_literals-requires c = kept_length c.args.nucleus.now.clause c.requires.kept

pub width-requires : goal.width-requires
width-requires c = omega (arith, kept_width c.args.nucleus.now.clause c.requires.kept)

pub choose-requires-clause-unify : goal.choose-requires-clause-unify
choose-requires-clause-unify c = unify_none c.new-2.result c.new-2.ensures

pub choose-requires-clause-few : goal.choose-requires-clause-few
choose-requires-clause-few c =
    omega (arith, ap (λ (ls : List Literal). length ls) c.as_slice.ensures, c.in_ok-found.ensures.few, kept_length c.args.nucleus.now.clause c.requires.kept)

pub choose-requires-clause-low : goal.choose-requires-clause-low
choose-requires-clause-low c = omega (arith, kept_width c.args.nucleus.now.clause c.requires.kept, c.width.ensures, ap (λ (ps : List Pick). length ps) c.new.ensures)

pub returns : goal.returns
returns c =
    let low = width c.args.nucleus.now.clause in
    let ls = c.in_ok-found.found.literals in
    let all = c.args.units.now in
    let chosen = chosen_none all low c.as_slice.result.now (record { picks = c.new.result; pairs = c.new-2.result; low = c.width.result }) c.new.ensures c.new-2.ensures c.width.ensures in
    with_target c.args.given all c.requires.first c.args.nucleus.now c.args.target c.args.limit c.in_ok-found.found.numbers ls c.in_ok-found.ensures.are c.args.sites.now c.append.new.self c.choose.new.sites (omega arith)
    (subst (λ (ks : List Literal). Extends hyper_numbers (Completes c.args.nucleus.now.number c.args.given all low ks []) (c.args.limit - length c.args.sites.now) [] c.choose.new.sites) c.as_slice.ensures
    (subst (λ n. Extends hyper_numbers (Completes c.args.nucleus.now.number c.args.given all low c.as_slice.result.now []) (c.args.limit - n) [] c.choose.new.sites) c.len.ensures
    (subst (λ (ws : List HyperSite). Extends hyper_numbers (Completes c.args.nucleus.now.number c.args.given all low c.as_slice.result.now []) (c.args.limit - c.len.result) ws c.choose.new.sites) c.new-whole.ensures
    (c.in_ok-choose.ensures low [] chosen))))
    (c.in_ok-append.ensures ∙ ap (λ (us : List UrSite). c.args.sites.now ++ us) c.in_ok-more.ensures ∙ ap (λ (ws : List HyperSite). c.args.sites.now ++ map (ur_of c.args.target) ws) c.as_slice-2.ensures)
