use Rattle.std.proofs.Common.{◌∙◌, sym, ap, subst, length, List, map, sum, ◌≤◌, slice_get, arith}
use Rattle.std.proofs.lemmas.Result.{on_ok_weaker}
use Rattle.sc_term.specs.declared.Literal.{Literal}
use Rattle.sc_term.specs.declared.Clause.{Clause}
use Rattle.sc_term.specs.Clause.{literal_weight}
use Rattle.sc_term.specs.JointInstance.{shift}
use Rattle.sc_resolve.specs.Extending.{Extends, Below}
use Rattle.sc_resolve.proofs.KeptLaws.{kept_width, kept_length}
use Rattle.sc_para.specs.Spots.{pair_numbers}
use Rattle.sc_para.specs.Pairs.{IsWithLiteral}
use Rattle.sc_para.proofs.PairSites.{pair_sites, no_pair_sites, shifted_within, spot_of}
use Rattle.sc_para.proofs.pairs.add_with_pair.Goals as goal

pub returns-then-not-has_equation : goal.returns-then-not-has_equation
returns-then-not-has_equation c =
    no_pair_sites c.args.from.now c.args.into.now c.args.limit c.args.sites.now
    (λ k s t h. c.has_equation.ensures c.if-not-has_equation.true k s t (ap (λ (ls : List Literal). slice_get ls k) c.as_slice-sources.ensures ∙ h))

pub width-requires : goal.width-requires
width-requires c = omega (arith, kept_width c.args.from.now.clause c.requires.from)

pub shift-requires : goal.shift-requires
shift-requires c = omega (arith, kept_width c.args.from.now.clause c.requires.from, kept_width c.args.into.now.clause c.requires.into)

pub add_with_sources-requires-clause-few : goal.add_with_sources-requires-clause-few
add_with_sources-requires-clause-few c = omega (arith, kept_length c.args.from.now.clause c.requires.from, ap (λ (ls : List Literal). length ls) c.as_slice-sources.ensures)

pub add_with_sources-requires-clause-light : goal.add_with_sources-requires-clause-light
add_with_sources-requires-clause-light c =
    let within = shifted_within c.width.result c.args.into.now.clause c.requires.into.within in
    subst (λ (ls : List Literal). sum (map literal_weight ls) ≤ 10000) (sym (c.as_slice.ensures ∙ ap (λ (d : Clause). d.literals) c.in_ok-apart.ensures)) within.light

pub returns : goal.returns
returns c =
    let from = c.args.from.now in
    let into = c.args.into.now in
    on_ok_weaker c.add_with_sources.result
    (λ h. pair_sites from into c.args.limit c.args.sites.now c.add_with_sources.new.sites
    (subst (λ (ls : List Literal). Extends pair_numbers (Below (IsWithLiteral (spot_of from into) from.clause.literals ls) (length from.clause.literals)) c.args.limit c.args.sites.now c.add_with_sources.new.sites)
    (c.as_slice.ensures ∙ ap (λ (d : Clause). d.literals) c.in_ok-apart.ensures ∙ ap (λ n. (shift n into.clause).literals) c.width.ensures)
    (subst (λ (ls : List Literal). Extends pair_numbers (Below (IsWithLiteral (spot_of from into) ls c.as_slice.result.now) (length ls)) c.args.limit c.args.sites.now c.add_with_sources.new.sites)
    c.as_slice-sources.ensures h)))
    c.add_with_sources.ensures
