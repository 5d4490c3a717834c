-- A list of terms and a substitution say the same of finitely many literals.
use Rattle.std.proofs.Common.{◌≡◌, ◌∙◌, sym, ap, ℕ, zero, suc, ◌+◌, ◌<◌, ◌↔◌, max, List, [], ◌∷◌, map, length, slice_get, Contains, Some, arith}
use Rattle.std.proofs.lemmas.Option.{slice_get-get_or, get_or_from_slice_get}
use Rattle.std.proofs.lemmas.List.Elements.{All-from_recursion, recursion_from_All}
use Rattle.std.specs.List.{AllByRecursion, fold}
use Rattle.sc_term.specs.declared.Literal.{Literal}
use Rattle.sc_term.specs.declared.Term.{Term, Var}
use Rattle.sc_term.specs.Term.{joined, largest, value_of}
use Rattle.sc_term.specs.Clause.{literal_instance}
use Rattle.sc_term.specs.Substitution.{Substitution, literal_under}
use Rattle.sc_term.proofs.SubstitutionLaws.{all_split, literal_laws, literal_variables}
use Rattle.sc_unify.proofs.TermFacts.{all_so}
use Rattle.sc_unify.proofs.Rows.{at_least}
use Rattle.sc_subsume.specs.Search.{GoesInto, Hits, Reaches, IsOpen}

-- the terms of the variables from the first on
listed : Substitution → ℕ → ℕ → List Term
listed s first zero = []
listed s first (suc n) = s first ∷ listed s (first + 1) n

listed-at : (s : Substitution) (first n k : ℕ) → k < n → slice_get (listed s first n) k ≡ Some (s (first + k))
unfolding listed
listed-at s first zero k less = absurd (omega arith)
listed-at s first (suc n) zero less = ap (λ j. Some (s j)) (let e : first ≡ first + 0 = omega arith in e)
listed-at s first (suc n) (suc k) less =
    listed-at s (first + 1) n k (omega arith) ∙ ap (λ j. Some (s j)) (let e : first + 1 + k ≡ first + suc k = omega arith in e)

-- a number above each of the list
within : (a : ℕ) (ns : List ℕ) → AllByRecursion (λ n. n < fold max a ns + 1) ns
within a [] = tt
within a (n ∷ ns) = (omega (arith, at_least (max a n) ns), within (max a n) ns)

abbrev all_variables : List Literal → List ℕ
all_variables c = joined (map literal_variables c)

abbrev terms_for : Substitution → List Literal → List Term
terms_for s c = listed s 0 (largest (all_variables c) + 1)

agrees : (s : Substitution) (c : List Literal) → AllByRecursion (λ n. value_of (terms_for s c) n ≡ s n) (all_variables c)
agrees s c = all_so (λ n. n < largest (all_variables c) + 1) (λ n. value_of (terms_for s c) n ≡ s n)
    (λ n less. get_or_from_slice_get (terms_for s c) n (s n) (Var n) (listed-at s 0 (largest (all_variables c) + 1) n less ∙ ap (λ j. Some (s j)) (let e : 0 + n ≡ n = omega arith in e)))
    (all_variables c) (within 0 (all_variables c))

module _ (d : List Literal) where
  abbrev Found : Substitution → Literal → Type 0
  Found s l = (k : ℕ) × Hits s l d k

  contained : (s : Substitution) (terms : List Term) (c : List Literal) → AllByRecursion (λ n. value_of terms n ≡ s n) (all_variables c) → AllByRecursion (Found s) c
      → AllByRecursion (λ l. Contains d (literal_instance terms l)) c
  contained s terms [] same h = tt
  contained s terms (l ∷ ls) same h =
      let both = all_split (λ n. value_of terms n ≡ s n) (literal_variables l) (all_variables ls) same in
      let one : literal_instance terms l ≡ literal_under s l = (literal_laws l).agree (value_of terms) s both.0 in
      let at : slice_get d h.0.0 ≡ Some (literal_instance terms l) = h.0.1 ∙ ap (λ m. Some m) (sym one) in
      ((h.0.0, found_within d h.0.0 (literal_instance terms l) at, get_or_from_slice_get d h.0.0 (literal_instance terms l) (literal_instance terms l) at), contained s terms ls both.1 h.1)
    where
      found_within : (d : List Literal) (k : ℕ) (m : Literal) → slice_get d k ≡ Some m → k < length d
      found_within [] k m e = cc
      found_within (x ∷ xs) zero m e = omega arith
      found_within (x ∷ xs) (suc k) m e = omega (arith, found_within xs k m e)

  found : (s : Substitution) (l : Literal) → Contains d (literal_under s l) → Found s l
  found s l h = (h.0, slice_get-get_or d h.0 (literal_under s l) h.1 ∙ ap (λ m. Some m) h.2)

  pub begin : (s : Substitution) (c : List Literal) → AllByRecursion (Found s) c → Reaches s c d 0
  begin s [] h = tt
  begin s (l ∷ ls) h = ((h.0.0, (omega arith), h.0.1), h.1)

  pub finish : (s : Substitution) (c : List Literal) → Reaches s c d 0 → AllByRecursion (Found s) c
  finish s [] h = tt
  finish s (l ∷ ls) h = ((h.0.0, h.0.2), h.1)

  pub goes_or_open : (c : List Literal) → GoesInto c d ↔ IsOpen c d [] 0 0
  goes_or_open c = (
    λ h. (
      value_of h.0,
      tt,
      begin (value_of h.0) c (all_so (λ l. Contains d (literal_instance h.0 l)) (Found (value_of h.0)) (found (value_of h.0)) c
          (recursion_from_All (λ l. Contains d (literal_instance h.0 l)) c h.1)),
    ),
    λ h. (
      terms_for h.0 c,
      All-from_recursion (λ l. Contains d (literal_instance (terms_for h.0 c) l)) c
          (contained h.0 (terms_for h.0 c) c (agrees h.0 c) (finish h.0 c h.2)),
    ),
  )
