-- Clauses by their numbers.
use Rattle.std.proofs.Common.{◌≡◌, ◌≢◌, ◌∙◌, sym, ap, ℕ, ◌+◌, ◌<◌, List, [], ◌∷◌, ◌++◌, length, take, Some, slice_get, get_or, arith}
use Rattle.std.specs.List.{All, AllPairs, Contains}
use Rattle.std.proofs.lemmas.List.Elements.{All-contains}
use Rattle.std.proofs.lemmas.Option.{slice_get-get_or}
use Rattle.sc_term.specs.declared.Numbered.{Numbered}
use Rattle.sc_core_rules.specs.Hyperresolution.{AreNamed}
use Rattle.sc_resolve.specs.Kept.{IsKept}
use Rattle.sc_hyper.specs.Making.{AreOneByNumber}
use Rattle.sc_hyper.proofs.ListPieces.{take_next, take_all, zip_at, zip_right, zip_long, all_so, one_of_number, differ_so}

abbrev IsOf : List Numbered → ℕ → Numbered → Type 0
IsOf usable n p = (p.number ≡ n) × Contains usable p

module _ (usable : List Numbered) (ns : List ℕ) (ps : List Numbered) (h : AreNamed usable ns ps) where
  listed : (k : ℕ) (p : Numbered) → slice_get ps k ≡ Some p → Contains usable p
  listed k p at = (zip_right (IsOf usable) ns ps h k p at).2.1

  pub named_kept : All (λ p. IsKept p.clause) usable → All (λ p. IsKept p.clause) ps
  named_kept kept = all_so (λ (p : Numbered). IsKept p.clause) ps (λ k p at. All-contains (λ (q : Numbered). IsKept q.clause) usable p kept (listed k p at))

  pub not_named : (k n : ℕ) → slice_get ns k ≡ Some n → All (λ p. p.number ≢ n) usable → ⊥
  not_named k n at none =
      let found = zip_at (IsOf usable) ns ps h k n at in
      All-contains (λ (p : Numbered). p.number ≢ n) usable found.0 none found.2.1 found.2.0

  pub named_whole : (k : ℕ) (found : List Numbered) → found ≡ take k ps → k ≡ length ns → found ≡ ps
  named_whole k found e long = e ∙ take_all ps k (omega (arith, long, zip_long (IsOf usable) ns ps h))

  module _ (differ : AllPairs (λ p q. p.number ≢ q.number) usable) where
    pub named_one : AreOneByNumber ps
    named_one = λ j k d less within same.
        one_of_number (λ (p : Numbered). p.number) usable (differ_so (λ (p : Numbered). p.number) usable differ) (get_or ps j d) (get_or ps k d) (there j d (omega arith)) (there k d within) same
      where
        there : (j : ℕ) (d : Numbered) → j < length ps → Contains usable (get_or ps j d)
        there j d less = listed j (get_or ps j d) (slice_get-get_or ps j d less)

    -- the next clause of these numbers is the one of its number
    pub named_next : (k n : ℕ) (q : Numbered) (found : List Numbered) → slice_get ns k ≡ Some n → q.number ≡ n → Contains usable q → found ≡ take k ps → found ++ q ∷ [] ≡ take (k + 1) ps
    named_next k n q found at number there e =
        let one = zip_at (IsOf usable) ns ps h k n at in
        let same : one.0 ≡ q = one_of_number (λ (p : Numbered). p.number) usable (differ_so (λ (p : Numbered). p.number) usable differ) one.0 q one.2.1 there (one.2.0 ∙ sym number) in
        ap (λ (xs : List Numbered). xs ++ q ∷ []) e ∙ sym (take_next ps k q (one.1 ∙ ap (λ (r : Numbered). Some r) same))
