-- A clause that may be marked has no more variables than the register.
use Rattle.std.proofs.Common.{ap, ℕ, ◌≤◌, List, [], ◌∷◌, length, length-append, map, sum, Bool, true, false, if◌then◌else◌, arith, nat_eq}
use Rattle.std.specs.List.{AllByRecursion, list_any}
use Rattle.std.proofs.lemmas.List.Sums.{sum_by-cons}
use Rattle.sc_term.specs.declared.Term.{Term}
use Rattle.sc_term.specs.declared.Literal.{Literal}
use Rattle.sc_term.specs.declared.Clause.{Clause}
use Rattle.sc_term.specs.Term.{joined, term_weight, term_variables, weight_step}
use Rattle.sc_term.specs.Clause.{literal_weight, weight, width, variables, firsts_after, IsCanonical, IsWithinLimits}
use Rattle.sc_term.proofs.TermLaws.{term_ind, fold-Var, weight-App}
use Rattle.sc_term.proofs.TermSteps.{variables-Var, variables-App}
use Rattle.sc_term.proofs.SubstitutionLaws.{all_of, literal_variables}
use Rattle.sc_interp.proofs.Width.{canonical_width}

short_row : {X : Type 0} (f : X → List ℕ) (w : X → ℕ) (xs : List X) → AllByRecursion (λ x. length (f x) ≤ w x) xs → length (joined (map f xs)) ≤ sum (map w xs)
short_row f w [] h = omega arith
short_row f w (x ∷ xs) h = omega (arith, length-append (f x) (joined (map f xs)), h.0, short_row f w xs h.1, sum_by-cons (λ n. n) (w x) (map w xs))

short_term : (t : Term) → length (term_variables t) ≤ term_weight t
short_term t = term_ind (λ t. length (term_variables t) ≤ term_weight t)
    (λ n. omega (arith, ap (λ (l : List ℕ). length l) (variables-Var n), fold-Var ℕ weight_step n))
    (λ f xs h. omega (arith, ap (λ (l : List ℕ). length l) (variables-App f xs), weight-App f xs, short_row term_variables term_weight xs h)) t

short_literal : (l : Literal) → length (literal_variables l) ≤ literal_weight l
short_literal l = omega (arith, short_row term_variables term_weight l.args (all_of (λ t. length (term_variables t) ≤ term_weight t) short_term l.args))

short_clause : (c : Clause) → length (variables c) ≤ weight c
short_clause c = short_row literal_variables literal_weight c.literals (all_of (λ l. length (literal_variables l) ≤ literal_weight l) short_literal c.literals)

fewer_firsts : (seen ns : List ℕ) → length (firsts_after seen ns) ≤ length ns
fewer_firsts seen [] = omega arith
fewer_firsts seen (n ∷ ns) = by (list_any (nat_eq n) seen) (fewer_firsts seen ns) (fewer_firsts (n ∷ seen) ns)
  where
    by : (b : Bool) → length (firsts_after seen ns) ≤ length ns → length (firsts_after (n ∷ seen) ns) ≤ length ns
        → length (if b then firsts_after seen ns else n ∷ firsts_after (n ∷ seen) ns) ≤ length (n ∷ ns)
    by true h k = omega arith
    by false h k = omega arith

pub narrow : (c : Clause) → IsCanonical c → IsWithinLimits c → width c ≤ 10000
narrow c canonical within = omega (arith, canonical_width c canonical, fewer_firsts [] (variables c), short_clause c, within.light)
