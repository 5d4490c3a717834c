use Rattle.std.proofs.Common.{◌≡◌, ◌∙◌, sym, ap, ℕ, ◌+◌, ◌<◌, ◌≤◌, ◌↔◌, ◌-◌, ◌⊎◌, inl, inr, subst, take, Option, None, List, ◌++◌, [], ◌∷◌, sum, arith}
use Rattle.sc_term.specs.declared.Term.{Term, Var}
use Rattle.sc_term.specs.Term.{term_under}
use Rattle.sc_term.specs.Substitution.{Substitution}
use Rattle.sc_unify.specs.declared.bound.Binding.{Binding}
use Rattle.sc_unify.specs.declared.equation.Equation.{Equation}
use Rattle.sc_unify.specs.Bindings.{bindings, lookup, IsWalked, finished, cost, AreSolved, Respects}
use Rattle.sc_unify.specs.Equations.{Equal, equations, equated, Solves, left_cost, AreArguments, AreBinding, ComeToBinding}
use Rattle.sc_unify.proofs.Costs.{cost-positive}
use Rattle.sc_unify.proofs.Equations.{left_cost-append, cost-arguments, solves-append, solves-arguments, solves-binding, last, equations-append}
use Rattle.sc_unify.proofs.solve.advance.Goals as goal

-- ---- what the last equation costs

popped_cost : (bs : List Binding) (before rest : List Equation) (e : Equation) → before ≡ rest ++ e ∷ []
    → left_cost bs (equations before) ≡ left_cost bs (equations rest) + cost bs e.left.now
popped_cost bs before rest e is =
    let all = ap (λ es. left_cost bs (equations es)) is ∙ ap (left_cost bs) (equations-append rest (e ∷ [])) ∙ left_cost-append bs (equations rest) (equations (e ∷ [])) in
    omega (arith, all)

pub loop-equation-smaller-in-Nothing : goal.loop-equation-smaller-in-Nothing
loop-equation-smaller-in-Nothing c =
    let bs = bindings c.args.bound.now in
    let whole = popped_cost bs c.loop-equation.todo.items c.pop.new.self.items c.in-Some.equation c.in-Some.ensures.items in
    let some = cost-positive bs c.in-Some.equation.left.now in
    omega (arith, whole, some)

arguments_cost : (bs : List Binding) (before rest : List Equation) (now : List Equal) (e : Equation) (l r : Term) (xs ys : List Term) → before ≡ rest ++ e ∷ []
    → cost bs l ≤ cost bs e.left.now → AreArguments l r xs ys → now ≡ equations rest ++ equated xs ys → left_cost bs now < left_cost bs (equations before)
arguments_cost bs before rest now e l r xs ys is less args grown =
    let whole = popped_cost bs before rest e is in
    let all = ap (left_cost bs) grown ∙ left_cost-append bs (equations rest) (equated xs ys) in
    omega (arith, whole, all, cost-arguments bs l r xs ys args, less)

pub loop-equation-smaller : goal.loop-equation-smaller
loop-equation-smaller c =
    arguments_cost (bindings c.args.bound.now) c.loop-equation.todo.items c.pop.new.self.items (equations c.equate.new.todo.items) c.in-Some.equation
    c.walk-left.result.now c.walk-right.result.now c.in-Arguments.lefts.now c.in-Arguments.rights.now
    c.in-Some.ensures.items c.walk-left.ensures.less c.in-Arguments.ensures c.in_ok-equate-in-Arguments.ensures

-- ---- what it says

popped : (bs : List Binding) → AreSolved bs → (u : Substitution) → Respects u bs → (before rest : List Equation) (e : Equation) (l r : Term) → before ≡ rest ++ e ∷ []
    → term_under (finished bs) l ≡ term_under (finished bs) e.left.now → term_under (finished bs) r ≡ term_under (finished bs) e.right.now
    → Solves u (equations before) ↔ (Solves u (equations rest) × (term_under u l ≡ term_under u r))
popped bs is u h before rest e l r pops left right =
    rw (ap equations pops ∙ equations-append rest (e ∷ [])) (last bs is u h (equations rest) (record { left = e.left.now; right = e.right.now }) l r left right)

pub loop-equation-preserved-in-Nothing : goal.loop-equation-preserved-in-Nothing
loop-equation-preserved-in-Nothing c = λ u h.
    let before = c.loop-equation.invariant u h in
    let here = popped (bindings c.args.bound.now) c.requires u h c.loop-equation.todo.items c.pop.new.self.items c.in-Some.equation c.walk-left.result.now c.walk-right.result.now
    c.in-Some.ensures.items c.walk-left.ensures.same c.walk-right.ensures.same in
    (λ s. (here.0 (before.0 s)).0, λ s. before.1 (here.1 (s, ap (term_under u) c.in-Nothing.ensures)))

pub loop-equation-preserved : goal.loop-equation-preserved
loop-equation-preserved c = λ u h.
    let before = c.loop-equation.invariant u h in
    let here = popped (bindings c.args.bound.now) c.requires u h c.loop-equation.todo.items c.pop.new.self.items c.in-Some.equation c.walk-left.result.now c.walk-right.result.now
    c.in-Some.ensures.items c.walk-left.ensures.same c.walk-right.ensures.same in
    let inner = solves-arguments u c.walk-left.result.now c.walk-right.result.now c.in-Arguments.lefts.now c.in-Arguments.rights.now c.in-Arguments.ensures in
    let both = solves-append u (equations c.pop.new.self.items) (equated c.in-Arguments.lefts.now c.in-Arguments.rights.now) in
    rw c.in_ok-equate-in-Arguments.ensures (
      λ s. both.1 ((here.0 (before.0 s)).0, inner.0 (here.0 (before.0 s)).1),
      λ s. before.1 (here.1 ((both.0 s).0, inner.1 (both.0 s).1)),
    )

pub returns-in-Clash : goal.returns-in-Clash
returns-in-Clash c = λ u h s.
    let here = popped (bindings c.args.bound.now) c.requires u h c.loop-equation.todo.items c.pop.new.self.items c.in-Some.equation c.walk-left.result.now c.walk-right.result.now
    c.in-Some.ensures.items c.walk-left.ensures.same c.walk-right.ensures.same in
    c.in-Clash.ensures u (here.0 ((c.loop-equation.invariant u h).0 s)).1

free_side : (bs : List Binding) (l r : Term) (v : ℕ) (t : Term) → IsWalked bs l → IsWalked bs r → ((l ≡ Var v) × (r ≡ t)) ⊎ ((r ≡ Var v) × (l ≡ t)) → (lookup bs v ≡ None) × IsWalked bs t
free_side bs l r v t left right (inl s) = (left v s.0, subst (IsWalked bs) s.1 right)
free_side bs l r v t left right (inr s) = (right v s.0, subst (IsWalked bs) s.1 left)

bindable : (bs : List Binding) → AreSolved bs → (start : List Equal) (before rest : List Equation) (e : Equation) (l r : Term) (v : ℕ) (t : Term)
    → ((u : Substitution) → Respects u bs → Solves u start ↔ Solves u (equations before)) → before ≡ rest ++ e ∷ []
    → term_under (finished bs) l ≡ term_under (finished bs) e.left.now → term_under (finished bs) r ≡ term_under (finished bs) e.right.now
    → IsWalked bs l → IsWalked bs r → AreBinding l r v t → ComeToBinding bs start (equations rest) v t
bindable bs is start before rest e l r v t same pops left right wl wr h =
    let free = free_side bs l r v t wl wr h.sides in
    record {
      free = free.0;
      walked = free.1;
      other = h.other;
      small = h.small;
      same = λ u respects.
          let here = popped bs is u respects before rest e l r pops left right in
          let inner = solves-binding u l r v t h in
          let start = same u respects in
          (λ s. let both = here.0 (start.0 s) in (both.0, inner.0 both.1), λ s. start.1 (here.1 (s.0, inner.1 s.1)));
    }

pub returns-in-Binding : goal.returns-in-Binding
returns-in-Binding c =
    bindable (bindings c.args.bound.now) c.requires (equations c.args.todo.now.items) c.loop-equation.todo.items c.pop.new.self.items c.in-Some.equation
    c.walk-left.result.now c.walk-right.result.now c.in-Binding.one.variable c.in-Binding.one.term.now
    c.loop-equation.invariant c.in-Some.ensures.items c.walk-left.ensures.same c.walk-right.ensures.same c.walk-left.ensures.free c.walk-right.ensures.free c.in-Binding.ensures

none_left : (n : ℕ) (before now : List Equation) → n ≡ 0 → now ≡ take (n - 1) before → before ≡ now ++ [] → before ≡ []
none_left n before now zero rest whole =
    let e : n - 1 ≡ 0 = omega arith in
    whole ∙ ap (λ es. es ++ []) (rest ∙ ap (λ k. take k before) e)

pub returns : goal.returns
returns c = λ u h.
    let e = c.in_default.ensures in
    (c.loop-equation.invariant u h).1 (rw (none_left _ c.loop-equation.todo.items c.pop.new.self.items e.cases.0 e.rest e.items) tt)
