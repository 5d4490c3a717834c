-- What a problem keeps of its demodulators is what the search asks of one.
use Rattle.std.proofs.Common.{◌≡◌, ◌∙◌, sym, ap, subst, refl, ℕ, zero, suc, ◌==◌, List, [], ◌∷◌, Bool, true, false, not, ◌&&◌, ◌||◌, nat_eq, Some, None, Option, slice_get, arith, ◌⊎◌, inl, inr}
use Rattle.std.proofs.lemmas.Bool.{eqb-true, eqb-false}
use Rattle.std.specs.Prelude.{zip}
use Rattle.std.specs.List.{Contains, AllByRecursion, list_any, list_all}
use Rattle.sc_term.specs.declared.SymId.{SymId}
use Rattle.sc_term.specs.declared.Term.{Term, Var}
use Rattle.sc_term.specs.declared.Literal.{Literal}
use Rattle.sc_term.specs.declared.Clause.{Clause}
use Rattle.sc_term.specs.Term.{term_variables}
use Rattle.sc_term.specs.Refuted.{equals}
use Rattle.sc_term.proofs.TermLaws.{term_ind, fold-Var, fold-App}
use Rattle.sc_input_rules.specs.declared.settings.Home.{Home}
use Rattle.sc_input_rules.specs.declared.settings.Home.TheVariants.{Demodulators}
use Rattle.sc_input_rules.specs.WellFormed.{variable_step, is_variable_term, are_rewriting_sides, is_rewriting, IsRewriting, FitsHome}
use Rattle.sc_core_rules.specs.Paramodulation.{IsCompound}
use Rattle.sc_core_rules.specs.Rewriting.{IsDemodulator}
use Rattle.sc_term.proofs.ContainsLaws.{later, first_or_later}

-- ---- tests

both_true : (a b : Bool) → (a && b) ≡ true → (a ≡ true) × (b ≡ true)
both_true true b h = (refl, h)
both_true false b h = let bad : false ≡ true = h in cc

not_both_ways : (b : Bool) → b ≡ true → ¬ (not b ≡ true)
not_both_ways true e h = let bad : false ≡ true = h in cc
not_both_ways false e h = let bad : false ≡ true = e in cc

compound : (t : Term) → not (is_variable_term t) ≡ true → IsCompound t
compound t = term_ind (λ t. not (is_variable_term t) ≡ true → IsCompound t) (λ n h. absurd (not_both_ways (is_variable_term (Var n)) (fold-Var Bool variable_step n) h)) (λ f xs all h. (f, xs, refl)) t

any_contains : (v : ℕ) (ns : List ℕ) → list_any (nat_eq v) ns ≡ true → Contains ns v
any_contains v [] h = let bad : false ≡ true = h in cc
any_contains v (n ∷ ns) h = by (nat_eq v n) refl (λ k. any_contains v ns k) h
  where
    by : (b : Bool) → nat_eq v n ≡ b → (list_any (nat_eq v) ns ≡ true → Contains ns v) → list_any (nat_eq v) (n ∷ ns) ≡ true → Contains (n ∷ ns) v
    by true e below k = (0, omega arith, sym (eqb-true v n e))
    by false e below k = later v n ns (below (sym (ap (λ (b : Bool). b || list_any (nat_eq v) ns) e) ∙ k))

all_any : (ms ns : List ℕ) → list_all (λ n. list_any (nat_eq n) ms) ns ≡ true → (v : ℕ) → Contains ns v → Contains ms v
all_any ms [] h v there = absurd (omega (arith, there.1))
all_any ms (n ∷ ns) h v (zero, within, e) = subst (Contains ms) e (any_contains n ms (both_true (list_any (nat_eq n) ms) (list_all (λ n. list_any (nat_eq n) ms) ns) h).0)
all_any ms (n ∷ ns) h v (suc k, within, e) = all_any ms ns (both_true (list_any (nat_eq n) ms) (list_all (λ n. list_any (nat_eq n) ms) ns) h).1 v (k, omega (arith, within), e)

-- ---- one clause

symbol_zero : (f : SymId) → (f.0 == 0) ≡ true → f ≡ equals
symbol_zero f h = let e : f.0 ≡ 0 = eqb-true f.0 0 h in λ i. record { 0 = e i }

of_two : (positive : Bool) (f : SymId) (left right : Term) → positive ≡ true → (f.0 == 0) ≡ true → are_rewriting_sides (left ∷ right ∷ []) ≡ true → (c : Clause)
    → c.literals ≡ record { positive = positive; pred = f; args = left ∷ right ∷ [] } ∷ [] → IsDemodulator c
of_two positive f left right sign name sides c e =
    let tests = both_true (not (is_variable_term left)) (list_all (λ n. list_any (nat_eq n) (term_variables left)) (term_variables right)) sides in
    record {
      left = left;
      right = right;
      equates = e ∙ (λ i. record { positive = sign i; pred = symbol_zero f name i; args = left ∷ right ∷ [] } ∷ []);
      compound = compound left tests.0;
      no_other = all_any (term_variables left) (term_variables right) tests.1;
    }

three_true : (a b c : Bool) → (a && b && c) ≡ true → (a ≡ true) × (b ≡ true) × (c ≡ true)
three_true a b c h = let two = both_true (a && b) c h in let one = both_true a b two.0 in (one.0, one.1, two.1)

false_not : ¬ (false ≡ true)
false_not h = cc

of_literal : (l : Literal) (args : List Term) → l.args ≡ args → l.positive ≡ true → (l.pred.0 == 0) ≡ true → are_rewriting_sides args ≡ true → (c : Clause) → c.literals ≡ l ∷ [] → IsDemodulator c
of_literal l [] a sign name sides c e = absurd (false_not sides)
of_literal l (s ∷ []) a sign name sides c e = absurd (false_not sides)
of_literal l (s ∷ t ∷ []) a sign name sides c e = of_two l.positive l.pred s t sign name sides c (e ∙ (λ i. record { positive = l.positive; pred = l.pred; args = a i } ∷ []))
of_literal l (s ∷ t ∷ u ∷ us) a sign name sides c e = absurd (false_not sides)

of_literals : (ls : List Literal) → is_rewriting ls ≡ true → (c : Clause) → c.literals ≡ ls → IsDemodulator c
of_literals [] h c e = absurd (false_not h)
of_literals (l ∷ []) h c e = let tests = three_true l.positive (l.pred.0 == 0) (are_rewriting_sides l.args) h in of_literal l l.args refl tests.0 tests.1 tests.2 c e
of_literals (l ∷ m ∷ ls) h c e = absurd (false_not h)

-- the test that every problem keeps of its demodulators says what a demodulator is
pub rewriting_is_demodulator : (c : Clause) → IsRewriting c → IsDemodulator c
rewriting_is_demodulator c h = of_literals c.literals h c refl

-- ---- and the other way

contains_any : (v : ℕ) (ns : List ℕ) → Contains ns v → list_any (nat_eq v) ns ≡ true
contains_any v [] h = absurd (omega (arith, h.1))
contains_any v (n ∷ ns) h = by (nat_eq v n) refl (λ k. contains_any v ns k) (first_or_later v n ns h)
  where
    by : (b : Bool) → nat_eq v n ≡ b → (Contains ns v → list_any (nat_eq v) ns ≡ true) → (n ≡ v) ⊎ Contains ns v → list_any (nat_eq v) (n ∷ ns) ≡ true
    by true e below k = ap (λ (b : Bool). b || list_any (nat_eq v) ns) e
    by false e below (inl f) = absurd (eqb-false v n e (sym f))
    by false e below (inr k) = ap (λ (b : Bool). b || list_any (nat_eq v) ns) e ∙ below k

all_contained : (ms ns : List ℕ) → ((v : ℕ) → Contains ns v → Contains ms v) → list_all (λ n. list_any (nat_eq n) ms) ns ≡ true
all_contained ms [] h = refl
all_contained ms (n ∷ ns) h =
    let first : list_any (nat_eq n) ms ≡ true = contains_any n ms (h n (0, omega arith, refl)) in
    ap (λ (b : Bool). b && list_all (λ n. list_any (nat_eq n) ms) ns) first ∙ all_contained ms ns (λ v k. h v (later v n ns k))

no_variable : (t : Term) → IsCompound t → not (is_variable_term t) ≡ true
no_variable t h = ap (λ (u : Term). not (is_variable_term u)) h.2 ∙ ap not (fold-App Bool variable_step h.0 h.1)

pub demodulator_is_rewriting : (c : Clause) → IsDemodulator c → IsRewriting c
demodulator_is_rewriting c h =
    ap is_rewriting h.equates
    ∙ ap (λ (b : Bool). b && list_all (λ n. list_any (nat_eq n) (term_variables h.left)) (term_variables h.right)) (no_variable h.left h.compound)
    ∙ all_contained (term_variables h.left) (term_variables h.right) h.no_other

-- ---- the clauses of a problem

zip_there : (homes : List Home) (clauses : List Clause) (k : ℕ) (home : Home) (c : Clause) → AllByRecursion FitsHome (zip homes clauses)
    → slice_get homes k ≡ Some home → slice_get clauses k ≡ Some c → FitsHome (home, c)
zip_there [] clauses k home c all h i = absurd (nothing h)
  where
    nothing : ¬ (◌≡◌ {A = Option Home} None (Some home))
    nothing h = cc
zip_there (x ∷ xs) [] k home c all h i = absurd (nothing i)
  where
    nothing : ¬ (◌≡◌ {A = Option Clause} None (Some c))
    nothing h = cc
zip_there (x ∷ xs) (y ∷ ys) zero home c all h i =
    let first : x ≡ home = let e : Some x ≡ Some home = h in cc in
    let second : y ≡ c = let e : Some y ≡ Some c = i in cc in
    subst (λ (p : Home). FitsHome (p, c)) first (subst (λ (d : Clause). FitsHome (x, d)) second all.0)
zip_there (x ∷ xs) (y ∷ ys) (suc k) home c all h i = zip_there xs ys k home c all.1 h i

-- a clause of the list demodulators is a demodulator
pub home_of_demodulators : (homes : List Home) (clauses : List Clause) (k : ℕ) (c : Clause) → AllByRecursion FitsHome (zip homes clauses)
    → slice_get homes k ≡ Some Demodulators → slice_get clauses k ≡ Some c → IsDemodulator c
home_of_demodulators homes clauses k c all h i = rewriting_is_demodulator c (zip_there homes clauses k Demodulators c all h i)
