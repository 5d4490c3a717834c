-- The search of a variable in what bindings make of a term: what has been entered is closed under the bindings.
use Rattle.std.proofs.Common.{◌≡◌, ◌≢◌, ◌∙◌, sym, ap, subst, refl, ℕ, ◌+◌, ◌<◌, ◌≤◌, Bool, true, false, not, ◌||◌, if◌then◌else◌, nat_eq, List, [], ◌∷◌, ◌++◌, map, sum, Option, None, Some, IfSome, is_some, arith, true≢false, ◌⊎◌, inl, inr}
use Rattle.std.specs.List.{AllByRecursion, list_any}
use Rattle.std.proofs.lemmas.Bool.{eqb-true, eqb-false, eq-eqb}
use Rattle.std.proofs.lemmas.List.Folds.{list_any-append}
use Rattle.std.proofs.lemmas.List.Sums.{sum_by-cons}
use Rattle.sc_term.specs.declared.SymId.{SymId}
use Rattle.sc_term.specs.declared.Term.{Term, Var}
use Rattle.sc_term.specs.declared.Term.TheVariants.{App}
use Rattle.sc_term.specs.Term.{joined, term_under, term_variables, term_weight}
use Rattle.sc_term.proofs.TermLaws.{weight-App}
use Rattle.sc_term.proofs.TermSteps.{under-Var, under-App, variables-Var, variables-App}
use Rattle.sc_term.proofs.SubstitutionLaws.{all_split, all_join}
use Rattle.sc_unify.specs.declared.bound.Binding.{Binding}
use Rattle.sc_unify.specs.Bindings.{lookup, finished, AreSolved, Avoids, occurs_in}
use Rattle.sc_unify.proofs.TermFacts.{all_so, same_or_not}
use Rattle.sc_unify.proofs.Costs.{weight-Var, bound_ind, under-bound, under-free}

-- ---- the measure: the weights of what is to be looked at, and of the terms not yet entered

abbrev pub is_among : ℕ → List ℕ → Bool
is_among n seen = list_any (λ m. nat_eq m n) seen

abbrev part : Bool → ℕ → ℕ
part true w = 0
part false w = w

abbrev pub unseen : List Binding → List ℕ → ℕ
unseen [] seen = 0
unseen (b ∷ bs) seen = part (is_among b.variable seen) (term_weight b.term) + unseen bs seen

abbrev pub total_weight : List Term → ℕ
total_weight ts = sum (map term_weight ts)

pub weight-append : (xs ys : List Term) → total_weight (xs ++ ys) ≡ total_weight xs + total_weight ys
weight-append [] ys = omega arith
weight-append (x ∷ xs) ys =
    let whole = sum_by-cons (λ n. n) (term_weight x) (map term_weight (xs ++ ys)) in
    let front = sum_by-cons (λ n. n) (term_weight x) (map term_weight xs) in
    omega (arith, whole, front, weight-append xs ys)

part-less : (a b : Bool) (w : ℕ) → part (a || b) w ≤ part a w
part-less true b w = omega arith
part-less false true w = omega arith
part-less false false w = omega arith

among-more : (n k : ℕ) (seen : List ℕ) → is_among k (seen ++ n ∷ []) ≡ (is_among k seen || (nat_eq n k || false))
among-more n k seen = list_any-append (λ m. nat_eq m k) seen (n ∷ [])

unseen-less : (bs : List Binding) (seen : List ℕ) (n : ℕ) → unseen bs (seen ++ n ∷ []) ≤ unseen bs seen
unseen-less [] seen n = omega arith
unseen-less (b ∷ bs) seen n =
    let here = part-less (is_among b.variable seen) (nat_eq n b.variable || false) (term_weight b.term) in
    let same = ap (λ q. part q (term_weight b.term)) (among-more n b.variable seen) in
    omega (arith, here, same, unseen-less bs seen n)

-- entering a variable takes the weight of its term away
pub unseen-more : (bs : List Binding) (seen : List ℕ) (n : ℕ) (t : Term) → lookup bs n ≡ Some t → is_among n seen ≡ false → unseen bs (seen ++ n ∷ []) + term_weight t ≤ unseen bs seen
unseen-more [] seen n t e new = cc
unseen-more (b ∷ bs) seen n t e new = by (nat_eq b.variable n) refl e (λ found. unseen-more bs seen n t found new)
  where
    by : (q : Bool) → nat_eq b.variable n ≡ q → (if q then Some b.term else lookup bs n) ≡ Some t → (lookup bs n ≡ Some t → unseen bs (seen ++ n ∷ []) + term_weight t ≤ unseen bs seen)
        → unseen (b ∷ bs) (seen ++ n ∷ []) + term_weight t ≤ unseen (b ∷ bs) seen
    by true same found rest =
        let is : b.variable ≡ n = eqb-true b.variable n same in
        let term : b.term ≡ t = cc in
        let before : is_among b.variable seen ≡ false = ap (λ k. is_among k seen) is ∙ new in
        let hit : nat_eq n b.variable ≡ true = eq-eqb n b.variable (sym is) in
        let after : is_among b.variable (seen ++ n ∷ []) ≡ true = among-more n b.variable seen ∙ (λ i. before i || (hit i || false)) in
        let old = ap (λ q. part q (term_weight b.term)) before in
        let now = ap (λ q. part q (term_weight b.term)) after in
        omega (arith, old, now, ap term_weight term, unseen-less bs seen n)
    by false same found rest =
        let here = part-less (is_among b.variable seen) (nat_eq n b.variable || false) (term_weight b.term) in
        let more = ap (λ q. part q (term_weight b.term)) (among-more n b.variable seen) in
        omega (arith, here, more, rest found)

-- ---- what the search keeps

abbrev pub Holds : (ℕ → Bool) → List ℕ → Type 0
Holds p ns = AllByRecursion (λ n. p n ≡ true) ns

pub record IsSearched (bs : List Binding) (v : ℕ) (start : Term) (seen : List ℕ) (todo : List Term) : Type 0 where
  pub inside : AllByRecursion (λ t. occurs_in v (term_under (finished bs) t) ≡ true → occurs_in v (term_under (finished bs) start) ≡ true) todo
  pub bound : AllByRecursion (λ n. is_some (lookup bs n) ≡ true) seen
  pub closed : (p : ℕ → Bool) → Holds p seen → ((n : ℕ) → lookup bs n ≡ None → n ≢ v → p n ≡ true) → AllByRecursion (λ t. Holds p (term_variables t)) todo
      → Holds p (term_variables start) × AllByRecursion (λ n. IfSome (lookup bs n) (λ t. Holds p (term_variables t))) seen

pub begun : (bs : List Binding) (v : ℕ) (start : Term) → IsSearched bs v start [] (start ∷ [])
begun bs v start = record { inside = (λ h. h, tt); bound = tt; closed = λ p seen free todo. (todo.0, tt) }

holds_among : (Q : ℕ → Type 0) (n : ℕ) (seen : List ℕ) → AllByRecursion Q seen → is_among n seen ≡ true → Q n
holds_among Q n [] h e = cc
holds_among Q n (m ∷ ms) h e = by (nat_eq m n) refl e (holds_among Q n ms h.1)
  where
    by : (q : Bool) → nat_eq m n ≡ q → (q || is_among n ms) ≡ true → (is_among n ms ≡ true → Q n) → Q n
    by true same found rest = subst Q (eqb-true m n same) h.0
    by false same found rest = rest found

pub dropped : (bs : List Binding) (v : ℕ) (start : Term) (seen : List ℕ) (rest : List Term) (n : ℕ) → n ≢ v → (lookup bs n ≡ None) ⊎ (is_among n seen ≡ true)
    → IsSearched bs v start seen (rest ++ Var n ∷ []) → IsSearched bs v start seen rest
dropped bs v start seen rest n ne which h = record {
  inside = (all_split (λ t. occurs_in v (term_under (finished bs) t) ≡ true → occurs_in v (term_under (finished bs) start) ≡ true) rest (Var n ∷ []) h.inside).0;
  bound = h.bound;
  closed = λ p held free todo.
      h.closed p held free (all_join (λ t. Holds p (term_variables t)) rest (Var n ∷ []) todo (subst (Holds p) (sym (variables-Var n)) (by p held free which, tt), tt));
}
  where
    by : (p : ℕ → Bool) → Holds p seen → ((n : ℕ) → lookup bs n ≡ None → n ≢ v → p n ≡ true) → (lookup bs n ≡ None) ⊎ (is_among n seen ≡ true) → p n ≡ true
    by p held free (inl e) = free n e ne
    by p held free (inr e) = holds_among (λ n. p n ≡ true) n seen held e

pub entered : (bs : List Binding) → AreSolved bs → (v : ℕ) (start : Term) (seen : List ℕ) (rest : List Term) (n : ℕ) (t : Term) → lookup bs n ≡ Some t
    → IsSearched bs v start seen (rest ++ Var n ∷ []) → IsSearched bs v start (seen ++ n ∷ []) (rest ++ t ∷ [])
entered bs is v start seen rest n t e h =
    let Inside : Term → Type 0 = λ t. occurs_in v (term_under (finished bs) t) ≡ true → occurs_in v (term_under (finished bs) start) ≡ true in
    let before = all_split Inside rest (Var n ∷ []) h.inside in
    record {
      inside = all_join Inside rest (t ∷ []) before.0 (λ o. before.1.0 (ap (occurs_in v) (under-bound bs is n t e) ∙ o), tt);
      bound = all_join (λ n. is_some (lookup bs n) ≡ true) seen (n ∷ []) h.bound (ap is_some e, tt);
      closed = λ p held free todo.
          let seen_held = all_split (λ n. p n ≡ true) seen (n ∷ []) held in
          let todo_held = all_split (λ t. Holds p (term_variables t)) rest (t ∷ []) todo in
          let old = h.closed p seen_held.0 free (all_join (λ t. Holds p (term_variables t)) rest (Var n ∷ []) todo_held.0 (subst (Holds p) (sym (variables-Var n)) (seen_held.1.0, tt), tt)) in
          let here : IfSome (lookup bs n) (λ t. Holds p (term_variables t)) = subst (λ o. IfSome o (λ t. Holds p (term_variables t))) (sym e) todo_held.1.0 in
          (old.0, all_join (λ n. IfSome (lookup bs n) (λ t. Holds p (term_variables t))) seen (n ∷ []) old.1 (here, tt));
    }

or_left : (a b : Bool) → a ≡ true → (a || b) ≡ true
or_left true b e = refl
or_left false b e = cc

or_right : (a b : Bool) → b ≡ true → (a || b) ≡ true
or_right true b e = refl
or_right false b e = e

-- a variable of an argument is one of the term
in_argument : (v : ℕ) (xs : List Term) → AllByRecursion (λ x. occurs_in v x ≡ true → list_any (nat_eq v) (joined (map term_variables xs)) ≡ true) xs
in_argument v [] = tt
in_argument v (x ∷ xs) = (
  λ o. list_any-append (nat_eq v) (term_variables x) (joined (map term_variables xs)) ∙ or_left (occurs_in v x) (list_any (nat_eq v) (joined (map term_variables xs))) o,
  all_so (λ y. occurs_in v y ≡ true → list_any (nat_eq v) (joined (map term_variables xs)) ≡ true) (λ y. occurs_in v y ≡ true → list_any (nat_eq v) (joined (map term_variables (x ∷ xs))) ≡ true)
      (λ y k o. list_any-append (nat_eq v) (term_variables x) (joined (map term_variables xs)) ∙ or_right (occurs_in v x) (list_any (nat_eq v) (joined (map term_variables xs))) (k o)) xs (in_argument v xs),
)

unmapped : {X Y : Type 0} (P : Y → Type 0) (f : X → Y) (xs : List X) → AllByRecursion P (map f xs) → AllByRecursion (λ x. P (f x)) xs
unmapped P f [] h = tt
unmapped P f (x ∷ xs) h = (h.0, unmapped P f xs h.1)

joined_holds : (p : ℕ → Bool) (xs : List Term) → AllByRecursion (λ t. Holds p (term_variables t)) xs → Holds p (joined (map term_variables xs))
joined_holds p [] h = tt
joined_holds p (x ∷ xs) h = all_join (λ n. p n ≡ true) (term_variables x) (joined (map term_variables xs)) h.0 (joined_holds p xs h.1)

pub taken_apart : (bs : List Binding) (v : ℕ) (start : Term) (seen : List ℕ) (rest : List Term) (f : SymId) (xs : List Term)
    → IsSearched bs v start seen (rest ++ App f xs ∷ []) → IsSearched bs v start seen (rest ++ xs)
taken_apart bs v start seen rest f xs h =
    let Inside : Term → Type 0 = λ t. occurs_in v (term_under (finished bs) t) ≡ true → occurs_in v (term_under (finished bs) start) ≡ true in
    let before = all_split Inside rest (App f xs ∷ []) h.inside in
    let whole : occurs_in v (term_under (finished bs) (App f xs)) ≡ list_any (nat_eq v) (joined (map term_variables (map (term_under (finished bs)) xs)))
    = ap (occurs_in v) (under-App (finished bs) f xs) ∙ ap (list_any (nat_eq v)) (variables-App f (map (term_under (finished bs)) xs)) in
    record {
      inside = all_join Inside rest xs before.0
          (all_so (λ x. occurs_in v (term_under (finished bs) x) ≡ true → list_any (nat_eq v) (joined (map term_variables (map (term_under (finished bs)) xs))) ≡ true) Inside
          (λ x k o. before.1.0 (whole ∙ k o)) xs
          (unmapped (λ x. occurs_in v x ≡ true → list_any (nat_eq v) (joined (map term_variables (map (term_under (finished bs)) xs))) ≡ true) (term_under (finished bs)) xs
          (in_argument v (map (term_under (finished bs)) xs))));
      bound = h.bound;
      closed = λ p held free todo.
          let parts = all_split (λ t. Holds p (term_variables t)) rest xs todo in
          h.closed p held free (all_join (λ t. Holds p (term_variables t)) rest (App f xs ∷ []) parts.0 (subst (Holds p) (sym (variables-App f xs)) (joined_holds p xs parts.1), tt));
    }

-- ---- what it tells

pub occurs_here : (bs : List Binding) → AreSolved bs → (v : ℕ) → lookup bs v ≡ None → occurs_in v (term_under (finished bs) (Var v)) ≡ true
occurs_here bs is v free =
    ap (occurs_in v) (under-free bs is v free) ∙ ap (list_any (nat_eq v)) (variables-Var v) ∙ ap (λ q. q || false) (eq-eqb v v refl)

pub found : (bs : List Binding) → AreSolved bs → (v : ℕ) → lookup bs v ≡ None → (start : Term) (seen : List ℕ) (rest : List Term)
    → IsSearched bs v start seen (rest ++ Var v ∷ []) → occurs_in v (term_under (finished bs) start) ≡ true
found bs is v free start seen rest h =
    (all_split (λ t. occurs_in v (term_under (finished bs) t) ≡ true → occurs_in v (term_under (finished bs) start) ≡ true) rest (Var v ∷ []) h.inside).1.0 (occurs_here bs is v free)

pub avoids-occurs : (v : ℕ) (t : Term) → Avoids v t → occurs_in v t ≡ false
avoids-occurs v t h = none (term_variables t) h
  where
    none : (ns : List ℕ) → AllByRecursion (λ n. n ≢ v) ns → list_any (nat_eq v) ns ≡ false
    none [] h = refl
    none (n ∷ ns) h = by (nat_eq v n) refl (none ns h.1)
      where
        by : (q : Bool) → nat_eq v n ≡ q → list_any (nat_eq v) ns ≡ false → (q || list_any (nat_eq v) ns) ≡ false
        by true e rest = absurd (h.0 (sym (eqb-true v n e)))
        by false e rest = rest

pub occurs-avoids : (v : ℕ) (t : Term) → occurs_in v t ≡ false → Avoids v t
occurs-avoids v t e = none (term_variables t) e
  where
    none : (ns : List ℕ) → list_any (nat_eq v) ns ≡ false → AllByRecursion (λ n. n ≢ v) ns
    none [] e = tt
    none (n ∷ ns) e = by (nat_eq v n) refl e (none ns)
      where
        by : (q : Bool) → nat_eq v n ≡ q → (q || list_any (nat_eq v) ns) ≡ false → (list_any (nat_eq v) ns ≡ false → AllByRecursion (λ n. n ≢ v) ns) → (n ≢ v) × AllByRecursion (λ n. n ≢ v) ns
        by true same f rest = cc
        by false same f rest = (λ is. eqb-false v n same (sym is), rest f)

all_zip : {X : Type 0} (P Q R : X → Type 0) → ((x : X) → P x → Q x → R x) → (xs : List X) → AllByRecursion P xs → AllByRecursion Q xs → AllByRecursion R xs
all_zip P Q R f [] h k = tt
all_zip P Q R f (x ∷ xs) h k = (f x h.0 k.0, all_zip P Q R f xs h.1 k.1)

among_itself : (ns : List ℕ) → AllByRecursion (λ n. is_among n ns ≡ true) ns
among_itself [] = tt
among_itself (n ∷ ns) = (
  or_left (nat_eq n n) (is_among n ns) (eq-eqb n n refl),
  all_so (λ k. is_among k ns ≡ true) (λ k. is_among k (n ∷ ns) ≡ true) (λ k e. or_right (nat_eq n k) (is_among k ns) e) ns (among_itself ns),
)

module _ (bs : List Binding) (is : AreSolved bs) (v : ℕ) (seen : List ℕ) where
  -- a bound variable was entered, and a free one is another
  abbrev clear : ℕ → Bool
  clear n = if is_some (lookup bs n) then is_among n seen else not (nat_eq n v)

  clear_free : (n : ℕ) → lookup bs n ≡ None → clear n ≡ not (nat_eq n v)
  clear_free n e = ap (λ o. if is_some o then is_among n seen else not (nat_eq n v)) e

  clear_bound : (n : ℕ) → is_some (lookup bs n) ≡ true → clear n ≡ is_among n seen
  clear_bound n e = ap (λ q. if q then is_among n seen else not (nat_eq n v)) e

  other : (n : ℕ) → n ≢ v → not (nat_eq n v) ≡ true
  other n ne = by (nat_eq n v) refl
    where
      by : (q : Bool) → nat_eq n v ≡ q → not q ≡ true
      by true e = absurd (ne (eqb-true n v e))
      by false e = refl

  not_same : (n : ℕ) → not (nat_eq n v) ≡ true → n ≢ v
  not_same n e same = true≢false (sym e ∙ ap not (eq-eqb n v same))

  clear_seen : AllByRecursion (λ n. is_some (lookup bs n) ≡ true) seen → Holds clear seen
  clear_seen h = all_zip (λ n. is_some (lookup bs n) ≡ true) (λ n. is_among n seen ≡ true) (λ n. clear n ≡ true) (λ n b a. clear_bound n b ∙ a) seen h (among_itself seen)

  module _ (inner : AllByRecursion (λ n. IfSome (lookup bs n) (λ t. Holds clear (term_variables t))) seen) where
    avoided : (t : Term) → Holds clear (term_variables t) → Avoids v (term_under (finished bs) t)
    avoided t = bound_ind bs is (λ t. Holds clear (term_variables t) → Avoids v (term_under (finished bs) t))
        (λ n e h. let one = (subst (Holds clear) (variables-Var n) h).0 in
        subst (Avoids v) (sym (under-free bs is n e)) (subst (AllByRecursion (λ k. k ≢ v)) (sym (variables-Var n)) (not_same n (sym (clear_free n e) ∙ one), tt)))
        (λ n t e ih h. let one = (subst (Holds clear) (variables-Var n) h).0 in
        let at = holds_among (λ n. IfSome (lookup bs n) (λ t. Holds clear (term_variables t))) n seen inner (sym (clear_bound n (ap is_some e)) ∙ one) in
        subst (Avoids v) (sym (under-bound bs is n t e)) (ih (subst (λ o. IfSome o (λ t. Holds clear (term_variables t))) e at)))
        (λ f xs below h. subst (Avoids v) (sym (under-App (finished bs) f xs))
        (subst (AllByRecursion (λ k. k ≢ v)) (sym (variables-App f (map (term_under (finished bs)) xs))) (each xs below (subst (Holds clear) (variables-App f xs) h))))
        t
      where
        each : (xs : List Term) → AllByRecursion (λ t. Holds clear (term_variables t) → Avoids v (term_under (finished bs) t)) xs → Holds clear (joined (map term_variables xs))
            → AllByRecursion (λ k. k ≢ v) (joined (map term_variables (map (term_under (finished bs)) xs)))
        each [] below h = tt
        each (x ∷ xs) below h =
            let parts = all_split (λ n. clear n ≡ true) (term_variables x) (joined (map term_variables xs)) h in
            all_join (λ k. k ≢ v) (term_variables (term_under (finished bs) x)) (joined (map term_variables (map (term_under (finished bs)) xs))) (below.0 parts.0) (each xs below.1 parts.1)

-- with nothing left to look at, the variable doesn't occur
pub absent : (bs : List Binding) → AreSolved bs → (v : ℕ) (start : Term) (seen : List ℕ) → IsSearched bs v start seen [] → occurs_in v (term_under (finished bs) start) ≡ false
absent bs is v start seen h =
    let all = h.closed (clear bs is v seen) (clear_seen bs is v seen h.bound) (λ n e ne. clear_free bs is v seen n e ∙ other bs is v seen n ne) tt in
    avoids-occurs v (term_under (finished bs) start) (avoided bs is v seen all.1 start all.0)
