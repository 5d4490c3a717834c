-- What writing out a term takes, and what bindings make of it, one level at a time.
use Rattle.std.proofs.Common.{◌≡◌, ◌≢◌, ◌∙◌, sym, ap, subst, refl, ℕ, ◌+◌, ◌<◌, ◌≤◌, suc, zero, List, [], ◌∷◌, map, sum, Option, None, Some, MatchOption, IfSome, arith}
use Rattle.std.specs.List.{AllByRecursion}
use Rattle.std.proofs.lemmas.List.Sums.{sum_by-cons}
use Rattle.sc_term.specs.declared.SymId.{SymId}
use Rattle.sc_term.specs.declared.Term.{Term, Var, out-Term}
use Rattle.sc_term.specs.declared.Term.TheVariants.{App}
use Rattle.sc_term.specs.declared.Term.TheOpen as at
use Rattle.sc_term.specs.Term.{term_under, term_weight, term_variables, weight_step}
use Rattle.sc_term.proofs.TermLaws.{term_ind, out-Var, out-App, weight-App, fold-Var}
use Rattle.sc_term.proofs.TermSteps.{under-Var, under-App}
use Rattle.sc_term.specs.Substitution.{Substitution}
use Rattle.sc_unify.specs.declared.bound.Binding.{Binding}
use Rattle.sc_unify.specs.Bindings.{lookup, mark, finished, marked, cost, AreSolved, Avoids}

pub Var-injective : (m n : ℕ) → Var m ≡ Var n → m ≡ n
Var-injective m n e = let level : at.Var m ≡ at.Var n = sym (out-Var m) ∙ ap out-Term e ∙ out-Var n in cc

pub Var-not-App : (n : ℕ) (f : SymId) (xs : List Term) → Var n ≢ App f xs
Var-not-App n f xs e = let level : at.Var n ≡ at.App f xs = sym (out-Var n) ∙ ap out-Term e ∙ out-App f xs in cc

pub weight-Var : (n : ℕ) → term_weight (Var n) ≡ 1
weight-Var n = fold-Var ℕ weight_step n

pub weight-positive : (t : Term) → 0 < term_weight t
weight-positive t = term_ind (λ t. 0 < term_weight t) (λ n. omega (arith, weight-Var n)) (λ f xs below. omega (arith, weight-App f xs)) t

map_map : {X Y Z : Type 0} (f : Y → Z) (g : X → Y) (xs : List X) → map f (map g xs) ≡ map (λ x. f (g x)) xs
map_map f g [] = refl
map_map f g (x ∷ xs) = ap (λ l. f (g x) ∷ l) (map_map f g xs)

pub cost-positive : (bs : List Binding) (t : Term) → 0 < cost bs t
unfolding cost
cost-positive bs t = weight-positive (term_under (marked bs) t)

pub cost-App : (bs : List Binding) (f : SymId) (xs : List Term) → cost bs (App f xs) ≡ 1 + sum (map (cost bs) xs)
unfolding cost
cost-App bs f xs = ap term_weight (under-App (marked bs) f xs) ∙ weight-App f (map (term_under (marked bs)) xs)
    ∙ ap (λ ws. 1 + sum ws) (map_map term_weight (term_under (marked bs)) xs)

-- a bound variable costs one more than its term
pub cost-bound : (bs : List Binding) → AreSolved bs → (n : ℕ) (t : Term) → lookup bs n ≡ Some t → cost bs (Var n) ≡ 1 + cost bs t
unfolding cost
cost-bound bs is n t e =
    ap term_weight (under-Var (marked bs) n ∙ subst (λ o. MatchOption o (marked bs n ≡ Var n) (λ r. marked bs n ≡ mark (term_under (marked bs) r))) e (is.counted n))
    ∙ weight-App (record { 0 = 0 }) (term_under (marked bs) t ∷ []) ∙ omega arith

-- a bound variable stands for what its term stands for
pub under-bound : (bs : List Binding) → AreSolved bs → (n : ℕ) (t : Term) → lookup bs n ≡ Some t → term_under (finished bs) (Var n) ≡ term_under (finished bs) t
under-bound bs is n t e =
    under-Var (finished bs) n ∙ subst (λ o. MatchOption o (finished bs n ≡ Var n) (λ r. finished bs n ≡ term_under (finished bs) r)) e (is.fixed n)

pub under-free : (bs : List Binding) → AreSolved bs → (n : ℕ) → lookup bs n ≡ None → term_under (finished bs) (Var n) ≡ Var n
under-free bs is n e =
    under-Var (finished bs) n ∙ subst (λ o. MatchOption o (finished bs n ≡ Var n) (λ r. finished bs n ≡ term_under (finished bs) r)) e (is.fixed n)

-- what holds of each free variable, of a bound one where it holds of its term, and of a symbol's term where it holds
-- of the arguments, holds of each term
pub bound_ind : (bs : List Binding) → AreSolved bs → (P : Term → Type 0) → ((n : ℕ) → lookup bs n ≡ None → P (Var n)) → ((n : ℕ) (t : Term) → lookup bs n ≡ Some t → P t → P (Var n))
    → ((f : SymId) (xs : List Term) → AllByRecursion P xs → P (App f xs)) → (t : Term) → P t
bound_ind bs is P free bound app t = up_to (cost bs t) t (omega arith)
  where
    all : (k : ℕ) → ((t : Term) → cost bs t ≤ k → P t) → (xs : List Term) → sum (map (cost bs) xs) ≤ k → AllByRecursion P xs
    all k below [] h = tt
    all k below (x ∷ xs) h =
        let parts = sum_by-cons (λ n. n) (cost bs x) (map (cost bs) xs) in
        (below x (omega (arith, h, parts)), all k below xs (omega (arith, h, parts)))

    by : (k : ℕ) → ((t : Term) → cost bs t ≤ k → P t) → (n : ℕ) → cost bs (Var n) ≤ suc k → (o : Option Term) → lookup bs n ≡ o → P (Var n)
    by k below n h None e = free n e
    by k below n h (Some t) e = bound n t e (below t (omega (arith, cost-bound bs is n t e, h)))

    up_to : (k : ℕ) (t : Term) → cost bs t ≤ k → P t
    up_to zero t = λ h. absurd (omega (arith, cost-positive bs t))
    up_to (suc k) t =
        let below : (t : Term) → cost bs t ≤ k → P t = up_to k in
        term_ind (λ t. cost bs t ≤ suc k → P t)
        (λ n h. by k below n h (lookup bs n) refl)
        (λ f xs rest h. app f xs (all k below xs (omega (arith, cost-App bs f xs, h))))
        t
