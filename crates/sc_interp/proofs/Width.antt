-- A canonical clause has as many variables as it is wide.
use Rattle.std.proofs.Common.{◌≡◌, ◌∙◌, sym, ap, refl, ℕ, ◌+◌, ◌≤◌, Bool, true, false, ◌||◌, if◌then◌else◌, List, [], ◌∷◌, ◌++◌, length, map, max, fold, nat_eq, arith}
use Rattle.std.specs.List.{AllByRecursion, list_any}
use Rattle.std.proofs.lemmas.Bool.{eqb-true}
use Rattle.sc_term.specs.declared.Term.{Term}
use Rattle.sc_term.specs.declared.Literal.{Literal}
use Rattle.sc_term.specs.declared.Clause.{Clause}
use Rattle.sc_term.specs.Term.{largest, joined, term_width, term_variables}
use Rattle.sc_term.specs.Clause.{literal_width, width, variables, firsts, firsts_after, counting_from, IsCanonical}
use Rattle.sc_term.proofs.TermLaws.{term_ind, width-Var, width-App}
use Rattle.sc_term.proofs.TermSteps.{variables-Var, variables-App}

-- 1 more than the greatest of the numbers, 0 of none
abbrev above : List ℕ → ℕ
above ns = largest (map (λ n. n + 1) ns)

from_start : (a : ℕ) (ns : List ℕ) → fold max a ns ≡ max a (largest ns)
from_start a [] = omega arith
from_start a (n ∷ ns) = omega (arith, from_start (max a n) ns, from_start (max 0 n) ns)

above-cons : (n : ℕ) (ns : List ℕ) → above (n ∷ ns) ≡ max (n + 1) (above ns)
above-cons n ns = omega (arith, from_start (max 0 (n + 1)) (map (λ n. n + 1) ns))

above-one : (n : ℕ) → above (n ∷ []) ≡ n + 1
above-one n = omega (arith, above-cons n [])

largest-cons : (n : ℕ) (ns : List ℕ) → largest (n ∷ ns) ≡ max n (largest ns)
largest-cons n ns = omega (arith, from_start (max 0 n) ns)

above-append : (ms ns : List ℕ) → above (ms ++ ns) ≡ max (above ms) (above ns)
above-append [] ns = omega arith
above-append (m ∷ ms) ns = omega (arith, above-cons m (ms ++ ns), above-cons m ms, above-append ms ns)

above-joined : {X : Type 0} (f : X → List ℕ) (w : X → ℕ) (xs : List X) → AllByRecursion (λ x. above (f x) ≡ w x) xs → above (joined (map f xs)) ≡ largest (map w xs)
above-joined f w [] h = refl
above-joined f w (x ∷ xs) h =
    above-append (f x) (joined (map f xs)) ∙ (λ i. max (h.0 i) (above-joined f w xs h.1 i)) ∙ sym (largest-cons (w x) (map w xs))

term_above : (t : Term) → above (term_variables t) ≡ term_width t
term_above t = term_ind (λ t. above (term_variables t) ≡ term_width t)
    (λ n. ap above (variables-Var n) ∙ above-one n ∙ sym (width-Var n))
    (λ f ts h. ap above (variables-App f ts) ∙ above-joined term_variables term_width ts h ∙ sym (width-App f ts)) t

all_of : {X : Type 0} (P : X → Type 0) → ((x : X) → P x) → (xs : List X) → AllByRecursion P xs
all_of P h [] = tt
all_of P h (x ∷ xs) = (h x, all_of P h xs)

clause_above : (c : Clause) → above (variables c) ≡ width c
clause_above c = above-joined (λ (l : Literal). joined (map term_variables l.args)) literal_width c.literals
    (all_of _ (λ l. above-joined term_variables term_width l.args (all_of _ term_above l.args)) c.literals)

-- ---- by first occurrence

among : (n : ℕ) (seen : List ℕ) → list_any (nat_eq n) seen ≡ true → n + 1 ≤ above seen
among n [] e = cc
among n (m ∷ ms) e = by (nat_eq n m) refl (λ f. among n ms f)
  where
    by : (b : Bool) → nat_eq n m ≡ b → (list_any (nat_eq n) ms ≡ true → n + 1 ≤ above ms) → n + 1 ≤ above (m ∷ ms)
    by true t more = omega (arith, above-cons m ms, eqb-true n m t)
    by false t more = omega (arith, above-cons m ms, more (sym (ap (λ b. b || list_any (nat_eq n) ms) t) ∙ e))

above-firsts : (seen ns : List ℕ) → max (above seen) (above (firsts_after seen ns)) ≡ max (above seen) (above ns)
above-firsts seen [] = refl
above-firsts seen (n ∷ ns) = by (list_any (nat_eq n) seen) refl (above-firsts seen ns) (above-firsts (n ∷ seen) ns)
  where
    by : (b : Bool) → list_any (nat_eq n) seen ≡ b → max (above seen) (above (firsts_after seen ns)) ≡ max (above seen) (above ns)
        → max (above (n ∷ seen)) (above (firsts_after (n ∷ seen) ns)) ≡ max (above (n ∷ seen)) (above ns)
        → max (above seen) (above (firsts_after seen (n ∷ ns))) ≡ max (above seen) (above (n ∷ ns))
    by true e old new = ap (λ b. max (above seen) (above (if b then firsts_after seen ns else n ∷ firsts_after (n ∷ seen) ns))) e
        ∙ omega (arith, old, among n seen e, above-cons n ns)
    by false e old new = ap (λ b. max (above seen) (above (if b then firsts_after seen ns else n ∷ firsts_after (n ∷ seen) ns))) e
        ∙ omega (arith, new, above-cons n seen, above-cons n (firsts_after (n ∷ seen) ns), above-cons n ns)

above-counting : (n : ℕ) (xs : List ℕ) → max n (above (counting_from n xs)) ≡ n + length xs
above-counting n [] = omega arith
above-counting n (x ∷ xs) = omega (arith, above-cons n (counting_from (n + 1) xs), above-counting (n + 1) xs)

pub canonical_width : (c : Clause) → IsCanonical c → length (firsts (variables c)) ≡ width c
canonical_width c h =
    let order = firsts (variables c) in
    let count = above-counting 0 order in
    let same : above order ≡ above (variables c) = omega (arith, above-firsts [] (variables c)) in
    omega (arith, count, ap above h, same, clause_above c)
