use Rattle.std.proofs.Common.{◌≡◌, ◌≢◌, ◌∙◌, sym, ap, subst, ℕ, ◌+◌, ◌<◌, ◌≤◌, ◌^◌, ◌↔◌, Bool, true, false, List, ◌++◌, [], ◌∷◌, None, arith}
use Rattle.std.specs.List.{AllByRecursion}
use Rattle.sc_term.specs.declared.Term.{Term, Var}
use Rattle.sc_term.specs.Term.{term_under}
use Rattle.sc_term.specs.Substitution.{Substitution}
use Rattle.sc_term.proofs.SubstitutionLaws.{all_split, all_join}
use Rattle.sc_unify.specs.declared.bound.Binding.{Binding}
use Rattle.sc_unify.specs.declared.bound.Bound.{Bound}
use Rattle.sc_unify.specs.declared.solve.Next.{Next}
use Rattle.sc_unify.specs.declared.solve.Next.TheVariants as next
use Rattle.sc_unify.specs.Bindings.{bindings, lookup, finished, marked, AreSolved, AreSolvedBy, Respects, IsWalked, occurs_in}
use Rattle.sc_unify.specs.Equations.{Equal, equations, Solves, ComesTo, ComeToBinding}
use Rattle.sc_unify.proofs.TermFacts.{map_append}
use Rattle.sc_unify.proofs.Bindings.{solved-empty, solved-more}
use Rattle.sc_unify.proofs.OccursCheck.{occurs-avoids}
use Rattle.sc_unify.proofs.Unbound.{unbound, unbound-more, no_unifier}
use Rattle.sc_unify.proofs.solve.solve.Goals as goal

abbrev Kept : List Equal → List Equal → List Binding → Type 0
Kept start now bs = (u : Substitution) → Solves u start ↔ (Solves u now × Respects u bs)

-- what `advance` tells of the slice holds of the list
coming : (slice items : List Bound) (before now : List Equal) (n m : Next) → slice ≡ items → n ≡ m → ComesTo (bindings slice) before now n → ComesTo (bindings items) before now m
coming slice items before now n m e f h = subst (λ bs. ComesTo (bindings bs) before now m) e (subst (ComesTo (bindings slice) before now) f h)

pub loop-bound-init : goal.loop-bound-init
loop-bound-init c =
    let none = ap bindings c.new-bound.ensures.items in
    record {
      solved = subst AreSolved (sym none) solved-empty;
      same = λ u. (λ s. (s, subst (Respects u) (sym none) tt), λ s. s.0);
    }

pub returns-in-Solved : goal.returns-in-Solved
returns-in-Solved c =
    let bs = bindings c.loop-bound.bound.items in
    let h = coming c.as_slice.result.now c.loop-bound.bound.items (equations c.loop-bound.todo.items) (equations c.advance.new.todo.items) _ next.Solved
    c.as_slice.ensures.value c.in-Solved.is c.in_ok-advance.ensures in
    record {
      solved = c.loop-bound.invariant.solved;
      same = λ u. (λ s. ((c.loop-bound.invariant.same u).0 s).1, λ r. (c.loop-bound.invariant.same u).1 (h u r, r));
    }

pub returns-in-Clash : goal.returns-in-Clash
returns-in-Clash c = λ u s.
    let h = coming c.as_slice.result.now c.loop-bound.bound.items (equations c.loop-bound.todo.items) (equations c.advance.new.todo.items) _ next.Clash
    c.as_slice.ensures.value c.in-Clash.is c.in_ok-advance.ensures in
    let both = (c.loop-bound.invariant.same u).0 s in
    h u both.1 both.0

pub returns-then-branch : goal.returns-then-branch
returns-then-branch c = λ u s.
    let h = coming c.as_slice.result.now c.loop-bound.bound.items (equations c.loop-bound.todo.items) (equations c.advance.new.todo.items) _ (next.Binding c.in-Binding.one)
    c.as_slice.ensures.value c.in-Binding.is c.in_ok-advance.ensures in
    let both = (c.loop-bound.invariant.same u).0 s in
    let occurs = ap (λ bs. occurs_in c.in-Binding.one.variable (term_under (finished (bindings bs)) c.in-Binding.one.term.now)) (sym c.as_slice-in-Binding.ensures.value)
    ∙ sym c.in_ok-occurs-in-Binding.ensures ∙ c.if-branch.true in
    no_unifier (bindings c.loop-bound.bound.items) c.loop-bound.invariant.solved c.in-Binding.one.variable c.in-Binding.one.term.now h.walked h.other occurs u both.1
    ((h.same u both.1).0 both.0).1

abbrev binding : Bound → Binding
binding b = record { variable = b.variable; term = b.term.now }

bindings_more : (now before : List Bound) (b : Bound) → now ≡ before ++ b ∷ [] → bindings now ≡ bindings before ++ binding b ∷ []
bindings_more now before b e = ap bindings e ∙ map_append binding before (b ∷ [])

pub loop-bound-smaller : goal.loop-bound-smaller
loop-bound-smaller c =
    let h = coming c.as_slice.result.now c.loop-bound.bound.items (equations c.loop-bound.todo.items) (equations c.advance.new.todo.items) _ (next.Binding c.in-Binding.one)
    c.as_slice.ensures.value c.in-Binding.is c.in_ok-advance.ensures in
    subst (λ bs. unbound (2 ^ 32) bs < unbound (2 ^ 32) (bindings c.loop-bound.bound.items)) (sym (bindings_more c.push.new.self.items c.loop-bound.bound.items c.in-Binding.one c.in_ok-push-in-Binding.ensures.items))
    (unbound-more (2 ^ 32) (bindings c.loop-bound.bound.items) (binding c.in-Binding.one) h.small h.free)

kept : (start before now : List Equal) (bs : List Binding) (b : Binding) → Kept start before bs → ComeToBinding bs before now b.variable b.term → Kept start now (bs ++ b ∷ [])
kept start before now bs b old h u = (
  λ s.
      let both = (old u).0 s in
      let after = (h.same u both.1).0 both.0 in
      (after.0, all_join (λ (c : Binding). u c.variable ≡ term_under u c.term) bs (b ∷ []) both.1 (after.1, tt)),
  λ s.
      let parts = all_split (λ (c : Binding). u c.variable ≡ term_under u c.term) bs (b ∷ []) s.1 in
      (old u).1 ((h.same u parts.0).1 (s.0, parts.1.0), parts.0),
)

one_more : (start before now : List Equal) (bs after : List Binding) (b : Binding) → AreSolved bs → Kept start before bs → ComeToBinding bs before now b.variable b.term
    → occurs_in b.variable (term_under (finished bs) b.term) ≡ false → after ≡ bs ++ b ∷ [] → AreSolved after × Kept start now after
one_more start before now bs after b is old h absent e =
    subst (λ bs. AreSolved bs × Kept start now bs) (sym e)
    (solved-more bs b is h.free (occurs-avoids b.variable (term_under (finished bs) b.term) absent), kept start before now bs b old h)

pub loop-bound-preserved : goal.loop-bound-preserved
loop-bound-preserved c =
    let h = coming c.as_slice.result.now c.loop-bound.bound.items (equations c.loop-bound.todo.items) (equations c.advance.new.todo.items) _ (next.Binding c.in-Binding.one)
    c.as_slice.ensures.value c.in-Binding.is c.in_ok-advance.ensures in
    let occurs = ap (λ bs. occurs_in c.in-Binding.one.variable (term_under (finished (bindings bs)) c.in-Binding.one.term.now)) (sym c.as_slice-in-Binding.ensures.value)
    ∙ sym c.in_ok-occurs-in-Binding.ensures ∙ c.if-branch.false in
    let both = one_more (equations c.args.todo.items) (equations c.loop-bound.todo.items) (equations c.advance.new.todo.items) (bindings c.loop-bound.bound.items) (bindings c.push.new.self.items)
    (binding c.in-Binding.one) c.loop-bound.invariant.solved c.loop-bound.invariant.same h occurs
    (bindings_more c.push.new.self.items c.loop-bound.bound.items c.in-Binding.one c.in_ok-push-in-Binding.ensures.items) in
    record { solved = both.0; same = both.1 }
