-- How often variables occur.
use Rattle.std.proofs.Common.{◌≡◌, ◌∙◌, sym, ap, subst, refl, ℕ, zero, suc, ◌+◌, ◌-◌, ◌^◌, ◌<◌, ◌≤◌, ◌⊎◌, inl, inr, List, [], ◌∷◌, map, take, length, get_or, sum, min, Bool, true, false, nat_eq, count_by, cond, arith, length-append}
use Rattle.std.specs.List.{AllByRecursion}
use Rattle.std.proofs.lemmas.Bool.{eqb-true}
use Rattle.std.proofs.lemmas.List.Sums.{sum_by-append, sum_by-cons, count_by-le-length}
use Rattle.sc_term.specs.declared.Term.{Term}
use Rattle.sc_term.specs.Term.{joined, term_weight, term_variables, weight_step}
use Rattle.sc_term.proofs.TermLaws.{term_ind, fold-Var, weight-App}
use Rattle.sc_term.proofs.TermSteps.{variables-Var, variables-App}
use Rattle.sc_term.proofs.SubstitutionLaws.{all_split}
use Rattle.sc_unify.proofs.MatchingLaws.{variables-more}
use Rattle.sc_demod.specs.Counting.{OccursNoMore}

pub occurring-more : (v : ℕ) (xs : List Term) (i : ℕ) (x : Term) → i < length xs → x ≡ get_or xs i x
    → count_by (nat_eq v) (joined (map term_variables (take (i + 1) xs))) ≡ count_by (nat_eq v) (joined (map term_variables (take i xs))) + count_by (nat_eq v) (term_variables x)
occurring-more v xs i x less at =
    ap (count_by (nat_eq v)) (sym (variables-more xs i x less at)) ∙ sum_by-append (λ m. cond (nat_eq v m) 1 0) (joined (map term_variables (take i xs))) (term_variables x)

-- ---- counts below the weight

row_light : (xs : List Term) → AllByRecursion (λ t. length (term_variables t) ≤ term_weight t) xs → length (joined (map term_variables xs)) ≤ sum (map term_weight xs)
row_light [] h = omega arith
row_light (x ∷ xs) h =
    omega (arith, length-append (term_variables x) (joined (map term_variables xs)), sum_by-cons (λ n. n) (term_weight x) (map term_weight xs), h.0, row_light xs h.1)

variables_light : (t : Term) → length (term_variables t) ≤ term_weight t
variables_light t = term_ind (λ t. length (term_variables t) ≤ term_weight t)
    (λ n. omega (arith, ap length (variables-Var n), fold-Var ℕ weight_step n))
    (λ f xs h. omega (arith, ap length (variables-App f xs), weight-App f xs, row_light xs h))
    t

pub occurs_few : (t : Term) (v : ℕ) → term_weight t < 2 ^ 32 → min (count_by (nat_eq v) (term_variables t)) (2 ^ 32 - 1) ≡ count_by (nat_eq v) (term_variables t)
occurs_few t v light = omega (arith, count_by-le-length (nat_eq v) (term_variables t), variables_light t)

-- ---- all variables

held_or_absent : (P : ℕ → Type 0) (ns : List ℕ) (v : ℕ) → AllByRecursion P ns → P v ⊎ (count_by (nat_eq v) ns ≡ 0)
held_or_absent P [] v h = inr (omega arith)
held_or_absent P (n ∷ ns) v h = by (nat_eq v n) refl (held_or_absent P ns v h.1)
  where
    by : (b : Bool) → nat_eq v n ≡ b → P v ⊎ (count_by (nat_eq v) ns ≡ 0) → P v ⊎ (count_by (nat_eq v) (n ∷ ns) ≡ 0)
    by true e rest = inl (subst P (sym (eqb-true v n e)) h.0)
    by false e (inl p) = inl p
    by false e (inr none) = inr (sum_by-cons (λ m. cond (nat_eq v m) 1 0) n ns ∙ ap (λ b. cond b 1 0 + count_by (nat_eq v) ns) e ∙ omega (arith, none))

pub each_variable : (right left : Term) → AllByRecursion (OccursNoMore right left) (term_variables right) → (v : ℕ) → OccursNoMore right left v
each_variable right left h v = by (held_or_absent (OccursNoMore right left) (term_variables right) v h)
  where
    by : OccursNoMore right left v ⊎ (count_by (nat_eq v) (term_variables right) ≡ 0) → OccursNoMore right left v
    by (inl p) = p
    by (inr none) = omega (arith, none)

-- what holds of the variables of a row holds of those of each term
pub holds_at : (P : ℕ → Type 0) (xs : List Term) (i : ℕ) (x : Term) → i < length xs → x ≡ get_or xs i x → AllByRecursion P (joined (map term_variables xs)) → AllByRecursion P (term_variables x)
holds_at P [] i x less at h = absurd (omega (arith, less))
holds_at P (y ∷ ys) zero x less at h = subst (λ z. AllByRecursion P (term_variables z)) (sym at) (all_split P (term_variables y) (joined (map term_variables ys)) h).0
holds_at P (y ∷ ys) (suc i) x less at h = holds_at P ys i x (omega (arith, less)) at (all_split P (term_variables y) (joined (map term_variables ys)) h).1
