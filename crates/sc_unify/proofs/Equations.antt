-- Taking equations apart keeps their solutions.
use Rattle.std.proofs.Common.{◌≡◌, ◌≢◌, ◌∙◌, sym, ap, subst, refl, ℕ, zero, suc, ◌+◌, ◌<◌, ◌≤◌, ◌↔◌, ◌⊎◌, inl, inr, List, [], ◌∷◌, ◌++◌, map, sum, length, take, get_or, arith, add-one}
use Rattle.std.specs.List.{AllByRecursion}
use Rattle.std.proofs.lemmas.List.Sums.{sum_by-cons}
use Rattle.sc_term.specs.declared.SymId.{SymId}
use Rattle.sc_term.specs.declared.Term.{Term, Var}
use Rattle.sc_term.specs.declared.Term.TheVariants.{App}
use Rattle.sc_term.specs.Term.{term_under}
use Rattle.sc_term.proofs.TermLaws.{App-injective}
use Rattle.sc_term.proofs.TermSteps.{under-Var, under-App}
use Rattle.sc_term.proofs.SubstitutionLaws.{all_split, all_join}
use Rattle.sc_term.specs.Substitution.{Substitution}
use Rattle.sc_unify.specs.declared.bound.Binding.{Binding}
use Rattle.sc_unify.specs.Bindings.{Respects, AreSolved, finished, cost}
use Rattle.sc_unify.specs.declared.equation.Equation.{Equation}
use Rattle.sc_unify.specs.Equations.{Equal, equations, equated, Solves, left_cost, AreBinding, AreArguments}
use Rattle.sc_unify.proofs.TermFacts.{compose, map_append}
use Rattle.sc_unify.proofs.Costs.{cost-App, cost-positive}

-- ---- lists

pub equated-more : (xs ys : List Term) (i : ℕ) (d e : Term) → i < length xs → length xs ≡ length ys
    → equated (take (i + 1) xs) (take (i + 1) ys) ≡ equated (take i xs) (take i ys) ++ (record { left = get_or xs i d; right = get_or ys i e } ∷ [])
equated-more xs ys i d e h same = rw add-one (by xs ys i h same)
  where
    by : (xs ys : List Term) (i : ℕ) → i < length xs → length xs ≡ length ys
        → equated (take (suc i) xs) (take (suc i) ys) ≡ equated (take i xs) (take i ys) ++ (record { left = get_or xs i d; right = get_or ys i e } ∷ [])
    by [] ys i h same = absurd (omega arith)
    by (x ∷ xs) [] i h same = absurd (omega arith)
    by (x ∷ xs) (y ∷ ys) zero h same = refl
    by (x ∷ xs) (y ∷ ys) (suc i) h same = ap (λ es. record { left = x; right = y } ∷ es) (by xs ys i (omega arith) (omega arith))

pub left_cost-append : (bs : List Binding) (ds es : List Equal) → left_cost bs (ds ++ es) ≡ left_cost bs ds + left_cost bs es
left_cost-append bs [] es = omega arith
left_cost-append bs (d ∷ ds) es =
    let whole = sum_by-cons (λ n. n) (cost bs d.left) (map (λ (e : Equal). cost bs e.left) (ds ++ es)) in
    let part = sum_by-cons (λ n. n) (cost bs d.left) (map (λ (e : Equal). cost bs e.left) ds) in
    omega (arith, whole, part, left_cost-append bs ds es)

left_cost-equated : (bs : List Binding) (xs ys : List Term) → left_cost bs (equated xs ys) ≤ sum (map (cost bs) xs)
left_cost-equated bs [] ys = omega arith
left_cost-equated bs (x ∷ xs) [] = omega arith
left_cost-equated bs (x ∷ xs) (y ∷ ys) =
    let whole = sum_by-cons (λ n. n) (cost bs x) (map (λ (e : Equal). cost bs e.left) (equated xs ys)) in
    let part = sum_by-cons (λ n. n) (cost bs x) (map (cost bs) xs) in
    omega (arith, whole, part, left_cost-equated bs xs ys)

pub cost-arguments : (bs : List Binding) (l r : Term) (xs ys : List Term) → AreArguments l r xs ys → left_cost bs (equated xs ys) < cost bs l
cost-arguments bs l r xs ys h = omega (arith, left_cost-equated bs xs ys, cost-App bs h.0 xs, ap (cost bs) h.1)

-- ---- solutions

pub solves-append : (u : Substitution) (ds es : List Equal) → Solves u (ds ++ es) ↔ (Solves u ds × Solves u es)
solves-append u ds es = (
  all_split (λ (e : Equal). term_under u e.left ≡ term_under u e.right) ds es,
  λ both. all_join (λ (e : Equal). term_under u e.left ≡ term_under u e.right) ds es both.0 both.1,
)

pub solves-equated : (u : Substitution) (xs ys : List Term) → length xs ≡ length ys → (map (term_under u) xs ≡ map (term_under u) ys) ↔ Solves u (equated xs ys)
solves-equated u [] [] same = (λ e. tt, λ h. refl)
solves-equated u [] (y ∷ ys) same = absurd (omega arith)
solves-equated u (x ∷ xs) [] same = absurd (omega arith)
solves-equated u (x ∷ xs) (y ∷ ys) same =
    let rest = solves-equated u xs ys (omega arith) in (
      λ e. (let one : term_under u x ≡ term_under u y = cc in one, rest.0 (let more : map (term_under u) xs ≡ map (term_under u) ys = cc in more)),
      λ h. (λ i. h.0 i ∷ rest.1 h.1 i),
    )

pub solves-arguments : (u : Substitution) (l r : Term) (xs ys : List Term) → AreArguments l r xs ys → (term_under u l ≡ term_under u r) ↔ Solves u (equated xs ys)
solves-arguments u l r xs ys h =
    let left : term_under u l ≡ App h.0 (map (term_under u) xs) = ap (term_under u) h.1 ∙ under-App u h.0 xs in
    let right : term_under u r ≡ App h.0 (map (term_under u) ys) = ap (term_under u) h.2 ∙ under-App u h.0 ys in
    let inner = solves-equated u xs ys h.3 in (
      λ e. inner.0 (App-injective h.0 h.0 (map (term_under u) xs) (map (term_under u) ys) (sym left ∙ e ∙ right)).1,
      λ s. left ∙ ap (App h.0) (inner.1 s) ∙ sym right,
    )

pub solves-binding : (u : Substitution) (l r : Term) (v : ℕ) (t : Term) → AreBinding l r v t → (term_under u l ≡ term_under u r) ↔ (u v ≡ term_under u t)
solves-binding u l r v t h = by h.sides
  where
    by : ((l ≡ Var v) × (r ≡ t)) ⊎ ((r ≡ Var v) × (l ≡ t)) → (term_under u l ≡ term_under u r) ↔ (u v ≡ term_under u t)
    by (inl s) =
        let left : term_under u l ≡ u v = ap (term_under u) s.0 ∙ under-Var u v in
        (λ e. sym left ∙ e ∙ ap (term_under u) s.1, λ e. left ∙ e ∙ sym (ap (term_under u) s.1))
    by (inr s) =
        let right : term_under u r ≡ u v = ap (term_under u) s.0 ∙ under-Var u v in
        (λ e. sym right ∙ sym e ∙ ap (term_under u) s.1, λ e. ap (term_under u) s.1 ∙ sym e ∙ sym right)

length_map : (f : Term → Term) (xs : List Term) → length (map f xs) ≡ length xs
length_map f [] = refl
length_map f (x ∷ xs) = omega (arith, length_map f xs)

-- terms of different symbols, or with different numbers of arguments, never become equal
pub clash : (u : Substitution) (l r : Term) (f g : SymId) (xs ys : List Term) → l ≡ App f xs → r ≡ App g ys → (f.0 ≢ g.0) ⊎ (length xs ≢ length ys) → term_under u l ≢ term_under u r
clash u l r f g xs ys el er differ e = by differ
  where
    both : (f ≡ g) × (map (term_under u) xs ≡ map (term_under u) ys)
    both = App-injective f g (map (term_under u) xs) (map (term_under u) ys) (sym (ap (term_under u) el ∙ under-App u f xs) ∙ e ∙ ap (term_under u) er ∙ under-App u g ys)

    by : (f.0 ≢ g.0) ⊎ (length xs ≢ length ys) → ⊥
    by (inl ne) = ne (ap (λ (s : SymId). s.0) both.0)
    by (inr ne) = ne (sym (length_map (term_under u) xs) ∙ ap length both.1 ∙ length_map (term_under u) ys)

-- a substitution that respects the bindings makes of a term what it makes of what the bindings do
pub settled : (bs : List Binding) → AreSolved bs → (u : Substitution) → Respects u bs → (t : Term) → term_under u t ≡ term_under u (term_under (finished bs) t)
settled bs is u h t = ap (λ w. term_under w t) (λ i n. is.general u h n i) ∙ sym (compose u (finished bs) t)

-- and can't tell terms apart that the bindings make equal
pub through : (bs : List Binding) → AreSolved bs → (u : Substitution) → Respects u bs → (s t : Term) → term_under (finished bs) s ≡ term_under (finished bs) t → term_under u s ≡ term_under u t
through bs is u h s t e = settled bs is u h s ∙ ap (term_under u) e ∙ sym (settled bs is u h t)

-- the last equation, by what its sides are walked to
pub last : (bs : List Binding) → AreSolved bs → (u : Substitution) → Respects u bs → (es : List Equal) (e : Equal) (l r : Term)
    → term_under (finished bs) l ≡ term_under (finished bs) e.left → term_under (finished bs) r ≡ term_under (finished bs) e.right
    → Solves u (es ++ e ∷ []) ↔ (Solves u es × (term_under u l ≡ term_under u r))
last bs is u h es e l r el er =
    let both = solves-append u es (e ∷ []) in
    let left = through bs is u h l e.left el in
    let right = through bs is u h r e.right er in (
      λ s. ((both.0 s).0, left ∙ (both.0 s).1.0 ∙ sym right),
      λ s. both.1 (s.0, (sym left ∙ s.1 ∙ right, tt)),
    )

pub equations-append : (ds es : List Equation) → equations (ds ++ es) ≡ equations ds ++ equations es
equations-append ds es = map_append (λ (e : Equation). record { left = e.left.now; right = e.right.now }) ds es
