-- Worked: the proof that is put together for that run.
use Rattle.std.proofs.Common.{◌≡◌, sym, subst, refl, ℕ, ◌<◌, ◌⊎◌, inl, inr, List, [], ◌∷◌, arith, true, false, Bool, ◌||◌, nat_eq, length}
use Rattle.std.specs.Prelude.{IsSomeAnd}
use Rattle.std.specs.List.{Contains, AllPairs}
use Rattle.std.proofs.lemmas.Bool.{eqb-true}
use Rattle.std.proofs.lemmas.List.Kept.{AllPairs-cons}
use Rattle.sc_term.specs.declared.Line.{Line}
use Rattle.sc_term.specs.declared.Step.TheVariants.{Input, Instance, Resolve}
use Rattle.sc_steps.specs.declared.derivations.derivation.Derived.{Derived}
use Rattle.sc_steps.specs.Derivation.{derived_at, IsInputAt}
use Rattle.sc_steps.specs.Splice.{IsNeeded, goal_itself, named, AreNeeded, join_clauses, IsSplice, is_derived}
use Rattle.sc_term.proofs.ContainsLaws.{first_or_later}
use Rattle.sc_core_rules.proofs.Enumerations.{all_of_four, pairs_of_four, in_three}
use Rattle.sc_core_rules.proofs.DerivationCases.{no_input}
use Rattle.sc_core_rules.proofs.BinaryExample.{a, one, given, three, part, conclusion, lines_four}
use Rattle.sc_core_rules.proofs.SyllogismExample.{problem}
use Rattle.sc_core_rules.proofs.SyllogismRun.{new_book, false_clause, lines_three}

abbrev derived : List Derived
derived = new_book.derived

-- the six lines
abbrev proof : List Line
proof =
    record { step = Input 1; clause = one.clause }
    ∷ record { step = Input 2; clause = given.clause }
    ∷ record { step = Input 3; clause = three.clause }
    ∷ record { step = Instance 2 (a ∷ []); clause = part }
    ∷ record { step = Resolve 4 1 1 1; clause = conclusion }
    ∷ record { step = Resolve 5 1 3 1; clause = record { literals = [] } } ∷ []

abbrev all_numbers : List ℕ
all_numbers = 1 ∷ 2 ∷ 3 ∷ 4 ∷ 5 ∷ []

joined_so : (join_clauses problem.inputs derived all_numbers).lines ≡ proof
joined_so = refl

-- ---- the needed clauses

rising : AllPairs (λ m n. m < n) all_numbers
rising = AllPairs-cons (λ m n. m < n) 1 (2 ∷ 3 ∷ 4 ∷ 5 ∷ []) (all_of_four (λ n. 1 < n) 2 3 4 5 (omega arith) (omega arith) (omega arith) (omega arith))
    (pairs_of_four (λ m n. m < n) 2 3 4 5 (omega arith) (omega arith) (omega arith) (omega arith) (omega arith) (omega arith))

need_four : IsNeeded problem.inputs derived 5 4
need_four = named 5 4 1 goal_itself refl

five_cases : (n : ℕ) → Contains all_numbers n → (1 ≡ n) ⊎ (2 ≡ n) ⊎ ((3 ≡ n) ⊎ (4 ≡ n) ⊎ (5 ≡ n))
five_cases n h = first (first_or_later n 1 (2 ∷ 3 ∷ 4 ∷ 5 ∷ []) h)
  where
    second : (2 ≡ n) ⊎ Contains (3 ∷ 4 ∷ 5 ∷ []) n → (1 ≡ n) ⊎ (2 ≡ n) ⊎ ((3 ≡ n) ⊎ (4 ≡ n) ⊎ (5 ≡ n))
    second (inl e) = inr (inl e)
    second (inr k) = inr (inr (in_three 3 4 5 n k))

    first : (1 ≡ n) ⊎ Contains (2 ∷ 3 ∷ 4 ∷ 5 ∷ []) n → (1 ≡ n) ⊎ (2 ≡ n) ⊎ ((3 ≡ n) ⊎ (4 ≡ n) ⊎ (5 ≡ n))
    first (inl e) = inl e
    first (inr k) = second (first_or_later n 2 (3 ∷ 4 ∷ 5 ∷ []) k)

needed : (n : ℕ) → Contains all_numbers n → IsNeeded problem.inputs derived 5 n
needed n h = by (five_cases n h)
  where
    by : (1 ≡ n) ⊎ (2 ≡ n) ⊎ ((3 ≡ n) ⊎ (4 ≡ n) ⊎ (5 ≡ n)) → IsNeeded problem.inputs derived 5 n
    by (inl e) = subst (IsNeeded problem.inputs derived 5) e (named 4 1 3 need_four refl)
    by (inr (inl e)) = subst (IsNeeded problem.inputs derived 5) e (named 4 2 1 need_four refl)
    by (inr (inr (inl e))) = subst (IsNeeded problem.inputs derived 5) e (named 5 3 2 goal_itself refl)
    by (inr (inr (inr (inl e)))) = subst (IsNeeded problem.inputs derived 5) e need_four
    by (inr (inr (inr (inr e)))) = subst (IsNeeded problem.inputs derived 5) e goal_itself

-- the derivation of clause 4 names 1 and 2, and that of clause 5 names 3 and 4
two_named : (b c : Bool) → b ≡ false → c ≡ false → (b || (false || (c || (false || false)))) ≡ false
two_named b c e f = (λ i. e i || (false || (f i || (false || false))))

by_four : (m k : ℕ) → IsInputAt lines_four m k → Contains all_numbers m
by_four m k h = by (nat_eq m 2) (nat_eq m 1) refl refl
  where
    by : (b c : Bool) → nat_eq m 2 ≡ b → nat_eq m 1 ≡ c → Contains all_numbers m
    by true c e f = (1, omega arith, sym (eqb-true m 2 e))
    by false true e f = (0, omega arith, sym (eqb-true m 1 f))
    by false false e f = absurd (no_input lines_four m (two_named (nat_eq m 2) (nat_eq m 1) e f) k h)

by_five : (m k : ℕ) → IsInputAt lines_three m k → Contains all_numbers m
by_five m k h = by (nat_eq m 4) (nat_eq m 3) refl refl
  where
    by : (b c : Bool) → nat_eq m 4 ≡ b → nat_eq m 3 ≡ c → Contains all_numbers m
    by true c e f = (3, omega arith, sym (eqb-true m 4 e))
    by false true e f = (2, omega arith, sym (eqb-true m 3 f))
    by false false e f = absurd (no_input lines_three m (λ i. e i || (f i || (false || false))) k h)

named_by_one : (n m k : ℕ) → Contains all_numbers n → IsSomeAnd (derived_at problem.inputs derived n) (λ d. IsInputAt d.lines m k) → Contains all_numbers m
named_by_one n m k h is = by (five_cases n h)
  where
    at : (j : ℕ) → j ≡ n → IsSomeAnd (derived_at problem.inputs derived j) (λ d. IsInputAt d.lines m k)
    at j e = subst (λ (n : ℕ). IsSomeAnd (derived_at problem.inputs derived n) (λ d. IsInputAt d.lines m k)) (sym e) is

    by : (1 ≡ n) ⊎ (2 ≡ n) ⊎ ((3 ≡ n) ⊎ (4 ≡ n) ⊎ (5 ≡ n)) → Contains all_numbers m
    by (inl e) = absurd (at 1 e)
    by (inr (inl e)) = absurd (at 2 e)
    by (inr (inr (inl e))) = absurd (at 3 e)
    by (inr (inr (inr (inl e)))) = by_four m k (at 4 e)
    by (inr (inr (inr (inr e)))) = by_five m k (at 5 e)

no_other : (n : ℕ) → IsNeeded problem.inputs derived 5 n → Contains all_numbers n
no_other n goal_itself = (4, omega arith, refl)
no_other n (named p m k needed h) = named_by_one p m k (no_other p needed) h

are_needed : AreNeeded problem.inputs derived 5 all_numbers
are_needed = record { rising = rising; needed = λ n. (needed n, no_other n) }

no_input_last : (m : ℕ) → ¬ IsInputAt lines_three m (length lines_three)
no_input_last m e = cc

-- the proof of clause 5 is these six lines
pub printed : IsSplice problem.inputs new_book.derived 5 proof
printed = subst (IsSplice problem.inputs derived 5) joined_so (is_derived 5 all_numbers false_clause refl no_input_last are_needed)
