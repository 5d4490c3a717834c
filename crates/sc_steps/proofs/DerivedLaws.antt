-- Derived clauses that grow by one.
use Rattle.std.proofs.Common.{◌≡◌, ◌∙◌, sym, ap, subst, ◌+◌, ◌-◌, ◌≤◌, List, [], ◌∷◌, ◌++◌, append_assoc, length, map, take, arith, inl, inr, length-append}
use Rattle.std.proofs.lemmas.List.{length-map, map-append, take-append-le}
use Rattle.std.proofs.Math.Seq.{take-length}
use Rattle.sc_term.specs.declared.Clause.{Clause}
use Rattle.sc_steps.specs.declared.derivations.derivation.Derived.{Derived}
use Rattle.sc_steps.specs.Derivation.{all_clauses, IsDerivedFrom, AreDerived}
use Rattle.sc_steps.proofs.LineLaws.{number_in_front_or_end, number_within}

-- without derived clauses there is nothing to ask
pub none_derived : (inputs : List Clause) → AreDerived inputs []
none_derived inputs n d at = let within = number_within [] (n - length inputs) d at in absurd (omega (arith, within.0, within.1))

-- one more, from all that have a number
pub one_more_derived : (inputs : List Clause) (derived : List Derived) (d : Derived) → AreDerived inputs derived → IsDerivedFrom (all_clauses inputs derived) d
    → AreDerived inputs (derived ++ d ∷ [])
one_more_derived inputs derived d fine from n e at = elim (number_in_front_or_end derived d (n - length inputs) e at) [
  | inl old ↦
      let within = number_within derived (n - length inputs) e old in
      let near : n - 1 ≤ length before = omega (arith, within.1, long) in
      subst (λ cs. IsDerivedFrom cs e) (sym (ap (take (n - 1)) grown ∙ take-append-le (n - 1) before (d.clause ∷ []) near)) (fine n e old)
  | inr new ↦
      let place : n - 1 ≡ length before = omega (arith, new.0, long) in
      let front : take (n - 1) (all_clauses inputs (derived ++ d ∷ [])) ≡ before =
      ap (take (n - 1)) grown ∙ take-append-le (n - 1) before (d.clause ∷ []) (omega (arith, place)) ∙ ap (λ k. take k before) place ∙ take-length before in
      subst (IsDerivedFrom (take (n - 1) (all_clauses inputs (derived ++ d ∷ [])))) new.1 (subst (λ cs. IsDerivedFrom cs d) (sym front) from)
]
  where
    before : List Clause
    before = all_clauses inputs derived

    long : length before ≡ length inputs + length derived
    long = omega (arith, length-append inputs (map (λ (d : Derived). d.clause) derived), length-map derived (λ (d : Derived). d.clause))

    grown : all_clauses inputs (derived ++ d ∷ []) ≡ before ++ d.clause ∷ []
    grown = ap (λ cs. inputs ++ cs) (map-append (λ (d : Derived). d.clause) derived (d ∷ [])) ∙ sym (append_assoc inputs (map (λ (d : Derived). d.clause) derived) (d.clause ∷ []))
