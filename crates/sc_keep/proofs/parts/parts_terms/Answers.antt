use Rattle.std.proofs.Common.{◌∙◌, sym, ap, subst, List, ◌∷◌, []}
use Rattle.std.specs.Prelude.{MatchOption}
use Rattle.sc_term.specs.declared.Clause.{Clause}
use Rattle.sc_term.specs.declared.Pair.{Pair}
use Rattle.sc_keep.specs.Parts.{HasNoParts, HasParts}
use Rattle.sc_keep.proofs.PartLaws.{units_pair}
use Rattle.sc_keep.proofs.parts.parts_terms.Goals as goal

pub returns-in-Some-Some : goal.returns-in-Some-Some
returns-in-Some-Some c =
    let own = c.args.n.now ∷ c.args.m.now ∷ [] in
    subst (λ (pairs : List Pair). MatchOption c.in_ok-terms_of_pair-in-Some-Some.field-0 (HasNoParts own pairs) (λ terms. HasParts own pairs terms))
    (units_pair c.args.n.now c.args.m.now c.in_ok-renamed.renamed c.as_slice.result.now c.as_slice-2.result.now c.index-as_slice-0.result c.index-as_slice-1.result c.in-Some-Some.l.now c.in-Some-Some.r.now
    c.in_ok-renamed.ensures.apart c.as_slice.ensures c.as_slice-2.ensures
    (sym (ap (λ (x : Clause). x.literals) c.index-as_slice-0.is) ∙ c.in-Some-Some.ensures.found) (sym (ap (λ (x : Clause). x.literals) c.index-as_slice-1.is) ∙ c.in-Some-Some.ensures'.found))
    (c.in_ok-terms_of_pair-in-Some-Some.ensures own c.in_ok-renamed.ensures.apart)
