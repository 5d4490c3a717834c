-- Each binding leaves fewer variables free, and why a variable never equals a larger term that has it.
use Rattle.std.proofs.Common.{◌≡◌, ◌≢◌, ◌∙◌, sym, ap, subst, refl, ℕ, zero, suc, ◌+◌, ◌<◌, ◌≤◌, Bool, true, false, ◌||◌, nat_eq, if◌then◌else◌, List, [], ◌∷◌, ◌++◌, map, sum, Option, None, Some, MatchOption, is_some, arith}
use Rattle.std.specs.List.{AllByRecursion, list_any}
use Rattle.std.proofs.lemmas.Bool.{eqb-true, eqb-false, eq-eqb}
use Rattle.std.proofs.lemmas.List.Folds.{list_any-append}
use Rattle.std.proofs.lemmas.List.Sums.{sum_by-cons}
use Rattle.sc_term.specs.declared.SymId.{SymId}
use Rattle.sc_term.specs.declared.Term.{Term, Var}
use Rattle.sc_term.specs.declared.Term.TheVariants.{App}
use Rattle.sc_term.specs.Term.{joined, term_under, term_variables, term_weight}
use Rattle.sc_term.proofs.TermLaws.{term_ind, weight-App}
use Rattle.sc_term.proofs.TermSteps.{under-Var, under-App, variables-Var, variables-App}
use Rattle.sc_term.specs.Substitution.{Substitution}
use Rattle.sc_unify.specs.declared.bound.Binding.{Binding}
use Rattle.sc_unify.specs.Bindings.{lookup, finished, AreSolved, Respects, IsWalked, occurs_in}
use Rattle.sc_unify.proofs.TermFacts.{same_or_not}
use Rattle.sc_unify.proofs.Bindings.{lookup-more}
use Rattle.sc_unify.proofs.Costs.{under-free}
use Rattle.sc_unify.proofs.Equations.{settled}

-- ---- free variables

abbrev one_if_free : Option Term → ℕ
one_if_free None = 1
one_if_free (Some t) = 0

-- how many variables below the bound are free
unfoldable pub unbound : ℕ → List Binding → ℕ
unbound zero bs = 0
unbound (suc k) bs = one_if_free (lookup bs k) + unbound k bs

one_less : (bs : List Binding) (b : Binding) (n : ℕ) → one_if_free (lookup (bs ++ b ∷ []) n) ≤ one_if_free (lookup bs n)
one_less bs b n = by (lookup bs n) (lookup-more bs b n)
  where
    at_most : (o : Option Term) → one_if_free o ≤ 1
    at_most None = omega arith
    at_most (Some t) = omega arith

    by : (o : Option Term) → MatchOption o (lookup (bs ++ b ∷ []) n ≡ (if nat_eq b.variable n then Some b.term else None)) (λ t. lookup (bs ++ b ∷ []) n ≡ Some t)
        → one_if_free (lookup (bs ++ b ∷ []) n) ≤ one_if_free o
    by None e = at_most (lookup (bs ++ b ∷ []) n)
    by (Some t) e = omega (arith, ap one_if_free e)

unbound-less : (k : ℕ) (bs : List Binding) (b : Binding) → unbound k (bs ++ b ∷ []) ≤ unbound k bs
unfolding unbound
unbound-less zero bs b = omega arith
unbound-less (suc k) bs b = omega (arith, one_less bs b k, unbound-less k bs b)

pub unbound-more : (k : ℕ) (bs : List Binding) (b : Binding) → b.variable < k → lookup bs b.variable ≡ None → unbound k (bs ++ b ∷ []) < unbound k bs
unfolding unbound
unbound-more zero bs b h free = absurd (omega arith)
unbound-more (suc k) bs b h free = same_or_not b.variable k here (λ ne differ. later ne (λ less. unbound-more k bs b less free))
  where
    now : lookup (bs ++ b ∷ []) b.variable ≡ Some b.term
    now = subst (λ o. MatchOption o (lookup (bs ++ b ∷ []) b.variable ≡ (if nat_eq b.variable b.variable then Some b.term else None)) (λ t. lookup (bs ++ b ∷ []) b.variable ≡ Some t)) free (lookup-more bs b b.variable)
        ∙ ap (λ q. if q then Some b.term else None) (eq-eqb b.variable b.variable refl)

    here : b.variable ≡ k → unbound (suc k) (bs ++ b ∷ []) < unbound (suc k) bs
    here is =
        let before = ap one_if_free (ap (lookup bs) (sym is) ∙ free) in
        let after = ap one_if_free (ap (lookup (bs ++ b ∷ [])) (sym is) ∙ now) in
        omega (arith, before, after, unbound-less k bs b)

    later : k ≢ b.variable → (b.variable < k → unbound k (bs ++ b ∷ []) < unbound k bs) → unbound (suc k) (bs ++ b ∷ []) < unbound (suc k) bs
    later ne rest = let less : b.variable < k = omega arith in omega (arith, one_less bs b k, rest less)

-- ---- a variable in a larger term

sum_more : (x : ℕ) (xs : List ℕ) → sum (x ∷ xs) ≡ x + sum xs
sum_more x xs = sum_by-cons (λ n. n) x xs

module _ (u : Substitution) (v : ℕ) where
  abbrev Heavy : Term → Type 0
  Heavy w = occurs_in v w ≡ true → term_weight (u v) ≤ term_weight (term_under u w)

  either : (a b : Bool) {P : Type 0} → (a || b) ≡ true → (a ≡ true → P) → (b ≡ true → P) → P
  either true b e left right = left refl
  either false b e left right = right e

  heavy_arguments : (xs : List Term) → AllByRecursion Heavy xs → list_any (nat_eq v) (joined (map term_variables xs)) ≡ true → term_weight (u v) ≤ sum (map term_weight (map (term_under u) xs))
  heavy_arguments [] h o = cc
  heavy_arguments (x ∷ xs) h o =
      let parts = sum_more (term_weight (term_under u x)) (map term_weight (map (term_under u) xs)) in
      either (occurs_in v x) (list_any (nat_eq v) (joined (map term_variables xs))) (sym (list_any-append (nat_eq v) (term_variables x) (joined (map term_variables xs))) ∙ o)
      (λ here. let one = h.0 here in omega (arith, one, parts))
      (λ later. let rest = heavy_arguments xs h.1 later in omega (arith, rest, parts))

  heavy : (w : Term) → Heavy w
  heavy w = term_ind Heavy
      (λ n o. either (nat_eq v n) false (sym (ap (list_any (nat_eq v)) (variables-Var n)) ∙ o)
      (λ same. let e = ap term_weight (under-Var u n ∙ ap u (sym (eqb-true v n same))) in omega (arith, e)) (λ no. cc))
      (λ f xs below o.
      let inner = heavy_arguments xs below (sym (ap (list_any (nat_eq v)) (variables-App f xs)) ∙ o) in
      let whole = ap term_weight (under-App u f xs) ∙ weight-App f (map (term_under u) xs) in
      omega (arith, inner, whole))
      w

  all_heavy : (xs : List Term) → AllByRecursion Heavy xs
  all_heavy [] = tt
  all_heavy (x ∷ xs) = (heavy x, all_heavy xs)

  -- the variable isn't the term with the symbol whose arguments have it
  pub never_equal : (f : SymId) (xs : List Term) → occurs_in v (App f xs) ≡ true → u v ≢ term_under u (App f xs)
  never_equal f xs o e =
      let inner = heavy_arguments xs (all_heavy xs) (sym (ap (list_any (nat_eq v)) (variables-App f xs)) ∙ o) in
      let whole = ap term_weight (under-App u f xs) ∙ weight-App f (map (term_under u) xs) in
      let same = ap term_weight e in
      omega (arith, inner, whole, same)

-- no substitution that respects the bindings makes the variable equal to another term that comes to have it
pub no_unifier : (bs : List Binding) → AreSolved bs → (v : ℕ) (t : Term) → IsWalked bs t → t ≢ Var v → occurs_in v (term_under (finished bs) t) ≡ true
    → (u : Substitution) → Respects u bs → u v ≢ term_under u t
no_unifier bs is v t = term_ind (λ t. IsWalked bs t → t ≢ Var v → occurs_in v (term_under (finished bs) t) ≡ true → (u : Substitution) → Respects u bs → u v ≢ term_under u t)
    (λ n walked other o u h e.
    let itself = ap (occurs_in v) (under-free bs is n (walked n refl)) ∙ ap (list_any (nat_eq v)) (variables-Var n) in
    either u v (nat_eq v n) false (sym itself ∙ o) (λ same. other (ap Var (sym (eqb-true v n same)))) (λ no. cc))
    (λ f xs below walked other o u h e.
    let args = map (term_under (finished bs)) xs in
    let made = under-App (finished bs) f xs in
    never_equal u v f args (sym (ap (occurs_in v) made) ∙ o) (e ∙ settled bs is u h (App f xs) ∙ ap (term_under u) made))
    t
