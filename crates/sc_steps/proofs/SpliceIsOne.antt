-- The splice of a clause is one list of lines.
use Rattle.std.proofs.Common.{◌≡◌, ◌∙◌, sym, ap, subst, refl, ℕ, ◌-◌, ◌<◌, List, [], ◌∷◌, length, Some, arith, inl, inr}
use Rattle.std.specs.List.{AllPairs, Contains}
use Rattle.sc_term.specs.declared.Clause.{Clause}
use Rattle.sc_term.specs.declared.Line.{Line}
use Rattle.sc_term.specs.declared.Step.TheVariants.{Input}
use Rattle.sc_term.specs.Numbering.{numbered}
use Rattle.sc_steps.specs.declared.derivations.derivation.Derived.{Derived}
use Rattle.sc_steps.specs.Derivation.{derived_at, IsInputAt}
use Rattle.sc_steps.specs.Splice.{AreNeeded, named_by, input_line, join_clauses, IsSplice, is_input, is_clause, is_derived}
use Rattle.sc_steps.proofs.ListLaws.{some_and, at_number}
use Rattle.sc_steps.proofs.LineLaws.{number_within}
use Rattle.sc_steps.proofs.SpliceLaws.{head_least, tail_rises, first_in, one_more_in, in_cons}

-- rising lists with the same members are the same
one_rising : (xs ys : List ℕ) → AllPairs (λ a b. a < b) xs → AllPairs (λ a b. a < b) ys → ((n : ℕ) → Contains xs n → Contains ys n)
    → ((n : ℕ) → Contains ys n → Contains xs n) → xs ≡ ys
one_rising [] [] r s to from = refl
one_rising [] (y ∷ ys) r s to from = absurd (omega (arith, (from y (first_in y ys)).1))
one_rising (x ∷ xs) [] r s to from = absurd (omega (arith, (to x (first_in x xs)).1))
one_rising (x ∷ xs) (y ∷ ys) r s to from =
    λ j. same j ∷ one_rising xs ys (tail_rises x xs r) (tail_rises y ys s) there back j
  where
    same : x ≡ y
    same = elim (in_cons y ys x (to x (first_in x xs))) [
      | inl e ↦ sym e
      | inr later ↦ elim (in_cons x xs y (from y (first_in y ys))) [
        | inl e ↦ e
        | inr other ↦ absurd (omega (arith, head_least y ys s x later, head_least x xs r y other))
      ]
    ]

    there : (n : ℕ) → Contains xs n → Contains ys n
    there n at = elim (in_cons y ys n (to n (one_more_in x xs n at))) [
      | inl e ↦ absurd (omega (arith, e, same, head_least x xs r n at))
      | inr rest ↦ rest
    ]

    back : (n : ℕ) → Contains ys n → Contains xs n
    back n at = elim (in_cons x xs n (from n (one_more_in y ys n at))) [
      | inl e ↦ absurd (omega (arith, e, same, head_least y ys s n at))
      | inr rest ↦ rest
    ]

-- the needed clauses are one list
pub needed_are_one : (inputs : List Clause) (derived : List Derived) (goal : ℕ) (xs ys : List ℕ) → AreNeeded inputs derived goal xs
    → AreNeeded inputs derived goal ys → xs ≡ ys
needed_are_one inputs derived goal xs ys x y =
    one_rising xs ys x.rising y.rising (λ n at. (y.needed n).1 ((x.needed n).0 at)) (λ n at. (x.needed n).1 ((y.needed n).0 at))

-- a line names one clause
names_one : (lines : List Line) (m n k : ℕ) → IsInputAt lines m k → IsInputAt lines n k → m ≡ n
names_one lines m n k first second =
    let a = some_and (numbered lines k) (λ (l : Line). l.step ≡ Input m) first in
    let b = some_and (numbered lines k) (λ (l : Line). l.step ≡ Input n) second in
    let is : Some a.0 ≡ Some b.0 = sym a.1 ∙ b.1 in
    let one : a.0 ≡ b.0 = cc in
    let steps : Some m ≡ Some n = ap named_by (sym a.2 ∙ ap (λ (l : Line). l.step) one ∙ b.2) in
    cc

module _ (inputs : List Clause) (derived : List Derived) where
  -- no number is that of an input clause and of a derived one
  not_both : (n : ℕ) (c : Clause) (d : Derived) → numbered inputs n ≡ Some c → ¬ (derived_at inputs derived n ≡ Some d)
  not_both n c d e at = let within = number_within inputs n c e in omega (arith, within.1, (at_number derived (n - length inputs) d at).0)

  of_input : (goal : ℕ) (c : Clause) (lines : List Line) → numbered inputs goal ≡ Some c → IsSplice inputs derived goal lines → input_line goal c ∷ [] ≡ lines
  of_input goal c lines e (is_input n d f) =
      let is : Some c ≡ Some d = sym e ∙ f in
      let same : c ≡ d = cc in
      ap (λ x. input_line n x ∷ []) same
  of_input goal c lines e (is_clause n m more d at input rest) = absurd (not_both n c d e at)
  of_input goal c lines e (is_derived n ns d at other all) = absurd (not_both n c d e at)

  of_derived : (goal : ℕ) (ns : List ℕ) (d : Derived) (lines : List Line) → derived_at inputs derived goal ≡ Some d
      → ((m : ℕ) → ¬ IsInputAt d.lines m (length d.lines)) → AreNeeded inputs derived goal ns → IsSplice inputs derived goal lines
      → (join_clauses inputs derived ns).lines ≡ lines
  of_derived goal ns d lines at other all (is_input n c e) = absurd (not_both n c d e at)
  of_derived goal ns d lines at other all (is_clause n m more one place input rest) =
      let is : Some one ≡ Some d = sym place ∙ at in
      let same : one ≡ d = cc in
      absurd (other m (subst (λ (x : Derived). IsInputAt x.lines m (length x.lines)) same input))
  of_derived goal ns d lines at other all (is_derived n ms one place others them) =
      ap (λ xs. (join_clauses inputs derived xs).lines) (needed_are_one inputs derived n ns ms all them)

  of_clause : (goal m : ℕ) (d : Derived) (more lines : List Line) → derived_at inputs derived goal ≡ Some d → IsInputAt d.lines m (length d.lines)
      → ((others : List Line) → IsSplice inputs derived m others → more ≡ others) → IsSplice inputs derived goal lines → more ≡ lines
  of_clause goal m d more lines at input rest (is_input n c e) = absurd (not_both n c d e at)
  of_clause goal m d more lines at input rest (is_clause n k others one place second last) =
      let is : Some one ≡ Some d = sym place ∙ at in
      let same : one ≡ d = cc in
      let number : k ≡ m = names_one d.lines k m (length d.lines) (subst (λ (x : Derived). IsInputAt x.lines k (length x.lines)) same second) input in
      rest others (subst (λ x. IsSplice inputs derived x others) number last)
  of_clause goal m d more lines at input rest (is_derived n ms one place others them) =
      let is : Some d ≡ Some one = sym at ∙ place in
      let same : d ≡ one = cc in
      absurd (others m (subst (λ (x : Derived). IsInputAt x.lines m (length x.lines)) same input))

  pub splice_is_one : (goal : ℕ) (first second : List Line) → IsSplice inputs derived goal first → IsSplice inputs derived goal second → first ≡ second
  splice_is_one goal first second (is_input n c e) is = of_input n c second e is
  splice_is_one goal first second (is_clause n m more d at input rest) is = of_clause n m d more second at input (λ others. splice_is_one m more others rest) is
  splice_is_one goal first second (is_derived n ns d at other all) is = of_derived n ns d second at other all is
