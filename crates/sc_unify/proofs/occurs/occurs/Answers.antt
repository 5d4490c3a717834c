use Rattle.std.proofs.Common.{◌≡◌, ◌∙◌, sym, ap, subst, ℕ, ◌+◌, ◌-◌, ◌<◌, ◌≤◌, Bool, true, false, nat_eq, ◌⊎◌, Option, None, Some, List, ◌++◌, [], ◌∷◌, take, sum, map, arith}
use Rattle.std.specs.Borrow.{Bor}
use Rattle.std.specs.List.{list_any}
use Rattle.std.proofs.lemmas.List.Sums.{sum_by-cons}
use Rattle.sc_term.specs.declared.SymId.{SymId}
use Rattle.sc_term.specs.declared.Term.{Term, Var}
use Rattle.sc_term.specs.declared.Term.TheVariants.{App}
use Rattle.sc_term.specs.Term.{term_weight}
use Rattle.sc_term.proofs.TermLaws.{weight-App}
use Rattle.sc_unify.specs.declared.bound.Binding.{Binding}
use Rattle.sc_unify.specs.Bindings.{bindings, lookup}
use Rattle.sc_unify.specs.Search.{terms, Enters}
use Rattle.sc_unify.proofs.TermFacts.{map_append}
use Rattle.sc_unify.proofs.Costs.{weight-Var, weight-positive}
use Rattle.sc_unify.proofs.OccursCheck.{IsSearched, total_weight, weight-append, unseen, unseen-more, begun, dropped, entered, taken_apart, found, absent}
use Rattle.sc_unify.proofs.occurs.occurs.Goals as goal

shown : (before rest : List (Bor Term)) (e : Bor Term) (t : Term) → before ≡ rest ++ e ∷ [] → e.now ≡ t → terms before ≡ terms rest ++ t ∷ []
shown before rest e t is now = ap terms is ∙ map_append (λ r. r.now) rest (e ∷ []) ∙ ap (λ t. terms rest ++ t ∷ []) now

entering : (bs : List Binding) (n : ℕ) (before now : List ℕ) (o : Option (Bor Term)) (t : Bor Term) → o ≡ Some t → Enters bs n before now o
    → (now ≡ before ++ n ∷ []) × (lookup bs n ≡ Some t.now) × (list_any (λ m. nat_eq m n) before ≡ false)
entering bs n before now o t e h = subst (Enters bs n before now) e h

staying : (bs : List Binding) (n : ℕ) (before now : List ℕ) (o : Option (Bor Term)) → o ≡ None → Enters bs n before now o
    → (now ≡ before) × ((lookup bs n ≡ None) ⊎ (list_any (λ m. nat_eq m n) before ≡ true))
staying bs n before now o e h = subst (Enters bs n before now) e h

popped_weight : (before rest : List Term) (t : Term) → before ≡ rest ++ t ∷ [] → total_weight before ≡ total_weight rest + term_weight t
popped_weight before rest t is =
    let one = sum_by-cons (λ n. n) (term_weight t) [] in
    let all = ap total_weight is ∙ weight-append rest (t ∷ []) in
    omega (arith, all, one)

pub returns-then-n-variable : goal.returns-then-n-variable
returns-then-n-variable c =
    let v = c.args.variable in
    let last = shown c.loop-next.todo.items c.pop.new.self.items c.in-Some.next (Var v) c.in-Some.ensures.items (c.in-Var.is ∙ ap Var c.if-n-variable.true) in
    sym (found (bindings c.args.bound.now) c.requires.solved v c.requires.free c.args.term.now c.loop-next.seen.items (terms c.pop.new.self.items)
    (subst (IsSearched (bindings c.args.bound.now) v c.args.term.now c.loop-next.seen.items) last c.loop-next.invariant))

pub loop-next-preserved-in-Continue-branch-4 : goal.loop-next-preserved-in-Continue-branch-4
loop-next-preserved-in-Continue-branch-4 c =
    let bs = bindings c.args.bound.now in
    let v = c.args.variable in
    let n = c.in-Var.n in
    let last = shown c.loop-next.todo.items c.pop.new.self.items c.in-Some.next (Var n) c.in-Some.ensures.items c.in-Var.is in
    let pushed = shown c.push-in-Some-2.new.self.items c.pop.new.self.items c.in-Some-2.inner c.in-Some-2.inner.now c.in_ok-push-in-Var.ensures.items (λ i. c.in-Some-2.inner.now) in
    let enters = entering bs n c.loop-next.seen.items c.enter.new.seen.items _ c.in-Some-2.inner c.in-Some-2.is c.in_ok-inner-in-Var.ensures in
    let next = entered bs c.requires.solved v c.args.term.now c.loop-next.seen.items (terms c.pop.new.self.items) n c.in-Some-2.inner.now enters.1
    (subst (IsSearched bs v c.args.term.now c.loop-next.seen.items) last c.loop-next.invariant) in
    subst (λ seen. IsSearched bs v c.args.term.now seen (terms c.push-in-Some-2.new.self.items)) (sym enters.0)
    (subst (IsSearched bs v c.args.term.now (c.loop-next.seen.items ++ n ∷ [])) (sym pushed) next)

pub loop-next-preserved-in_default-2 : goal.loop-next-preserved-in_default-2
loop-next-preserved-in_default-2 c =
    let bs = bindings c.args.bound.now in
    let v = c.args.variable in
    let n = c.in-Var.n in
    let last = shown c.loop-next.todo.items c.pop.new.self.items c.in-Some.next (Var n) c.in-Some.ensures.items c.in-Var.is in
    let stays = staying bs n c.loop-next.seen.items c.enter.new.seen.items _ c.in_default-2.is c.in_ok-inner-in-Var.ensures in
    subst (λ seen. IsSearched bs v c.args.term.now seen (terms c.pop.new.self.items)) (sym stays.0)
    (dropped bs v c.args.term.now c.loop-next.seen.items (terms c.pop.new.self.items) n c.if-n-variable.false stays.1
    (subst (IsSearched bs v c.args.term.now c.loop-next.seen.items) last c.loop-next.invariant))

all_pushed : (now rest xs ys : List Term) → now ≡ rest ++ xs → xs ≡ ys → now ≡ rest ++ ys
all_pushed now rest xs ys e f = e ∙ ap (λ l. rest ++ l) f

pub loop-next-preserved : goal.loop-next-preserved
loop-next-preserved c =
    let bs = bindings c.args.bound.now in
    let v = c.args.variable in
    let last = shown c.loop-next.todo.items c.pop.new.self.items c.in-Some.next (App c.in-App.field-0 c.in-App.args) c.in-Some.ensures.items c.in-App.is in
    subst (IsSearched bs v c.args.term.now c.loop-next.seen.items) (sym (all_pushed (terms c.push_all.new.todo.items) (terms c.pop.new.self.items) c.as_slice.result.now c.in-App.args c.in_ok-push_all-in-App.ensures c.as_slice.ensures))
    (taken_apart bs v c.args.term.now c.loop-next.seen.items (terms c.pop.new.self.items) c.in-App.field-0 c.in-App.args
    (subst (IsSearched bs v c.args.term.now c.loop-next.seen.items) last c.loop-next.invariant))

none_left : (n : ℕ) (before now : List (Bor Term)) → n ≡ 0 → now ≡ take (n - 1) before → before ≡ now ++ [] → before ≡ []
none_left n before now zero rest whole =
    let e : n - 1 ≡ 0 = omega arith in
    whole ∙ ap (λ es. es ++ []) (rest ∙ ap (λ k. take k before) e)

pub returns : goal.returns
returns c =
    let e = c.in_default.ensures in
    let none = none_left _ c.loop-next.todo.items c.pop.new.self.items e.cases.0 e.rest e.items in
    sym (absent (bindings c.args.bound.now) c.requires.solved c.args.variable c.args.term.now c.loop-next.seen.items
    (subst (IsSearched (bindings c.args.bound.now) c.args.variable c.args.term.now c.loop-next.seen.items) (ap terms none) c.loop-next.invariant))

pub loop-next-smaller-in-Continue-branch-4 : goal.loop-next-smaller-in-Continue-branch-4
loop-next-smaller-in-Continue-branch-4 c =
    let bs = bindings c.args.bound.now in
    let n = c.in-Var.n in
    let last = shown c.loop-next.todo.items c.pop.new.self.items c.in-Some.next (Var n) c.in-Some.ensures.items c.in-Var.is in
    let pushed = shown c.push-in-Some-2.new.self.items c.pop.new.self.items c.in-Some-2.inner c.in-Some-2.inner.now c.in_ok-push-in-Var.ensures.items (λ i. c.in-Some-2.inner.now) in
    let enters = entering bs n c.loop-next.seen.items c.enter.new.seen.items _ c.in-Some-2.inner c.in-Some-2.is c.in_ok-inner-in-Var.ensures in
    let old = popped_weight (terms c.loop-next.todo.items) (terms c.pop.new.self.items) (Var n) last in
    let new = popped_weight (terms c.push-in-Some-2.new.self.items) (terms c.pop.new.self.items) c.in-Some-2.inner.now pushed in
    let less = unseen-more bs c.loop-next.seen.items n c.in-Some-2.inner.now enters.1 enters.2 in
    let same = ap (unseen bs) enters.0 in
    omega (arith, old, new, less, same, weight-Var n)

pub loop-next-smaller-in_default-2 : goal.loop-next-smaller-in_default-2
loop-next-smaller-in_default-2 c =
    let bs = bindings c.args.bound.now in
    let n = c.in-Var.n in
    let last = shown c.loop-next.todo.items c.pop.new.self.items c.in-Some.next (Var n) c.in-Some.ensures.items c.in-Var.is in
    let stays = staying bs n c.loop-next.seen.items c.enter.new.seen.items _ c.in_default-2.is c.in_ok-inner-in-Var.ensures in
    let old = popped_weight (terms c.loop-next.todo.items) (terms c.pop.new.self.items) (Var n) last in
    let same = ap (unseen bs) stays.0 in
    omega (arith, old, same, weight-Var n)

pub loop-next-smaller : goal.loop-next-smaller
loop-next-smaller c =
    let last = shown c.loop-next.todo.items c.pop.new.self.items c.in-Some.next (App c.in-App.field-0 c.in-App.args) c.in-Some.ensures.items c.in-App.is in
    let old = popped_weight (terms c.loop-next.todo.items) (terms c.pop.new.self.items) (App c.in-App.field-0 c.in-App.args) last in
    let new = ap total_weight (all_pushed (terms c.push_all.new.todo.items) (terms c.pop.new.self.items) c.as_slice.result.now c.in-App.args c.in_ok-push_all-in-App.ensures c.as_slice.ensures) ∙ weight-append (terms c.pop.new.self.items) c.in-App.args in
    omega (arith, old, new, weight-App c.in-App.field-0 c.in-App.args)
