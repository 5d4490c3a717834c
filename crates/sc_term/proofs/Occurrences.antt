-- Variables noted one after another are those of first occurrence.
use Rattle.std.proofs.Common.{◌≡◌, ◌∙◌, sym, ap, refl, ℕ, zero, suc, ◌+◌, ◌<◌, ◌≤◌, max, Bool, true, false, ◌||◌, nat_eq, if◌then◌else◌, List, [], ◌∷◌, ◌++◌, append_assoc, map, length, get_or, take, arith, add-one}
use Rattle.std.specs.List.{list_any, fold}
use Rattle.std.proofs.lemmas.Bool.{eqb-true, eqb-false, eq-eqb}
use Rattle.std.proofs.lemmas.List.Folds.{list_any-append}
use Rattle.sc_term.specs.Term.{joined, largest}
use Rattle.sc_term.specs.Clause.{firsts, firsts_after}
use Rattle.sc_term.specs.Occurrence.{noted}

pub noted-append : (order xs ys : List ℕ) → noted order (xs ++ ys) ≡ noted (noted order xs) ys
noted-append order [] ys = refl
noted-append order (x ∷ xs) ys = noted-append (if list_any (λ m. nat_eq m x) order then order else (order ++ x ∷ [])) xs ys

take_more : {X : Type 0} (xs : List X) (i : ℕ) (x : X) → i < length xs → x ≡ get_or xs i x → take (i + 1) xs ≡ take i xs ++ x ∷ []
take_more {X = X} xs i x less at = rw add-one (by xs i less at)
  where
    by : (xs : List X) (i : ℕ) → i < length xs → x ≡ get_or xs i x → take (suc i) xs ≡ take i xs ++ x ∷ []
    by [] i less at = absurd (omega arith)
    by (y ∷ ys) zero less at = ap (λ z. z ∷ []) (sym at)
    by (y ∷ ys) (suc i) less at = ap (λ l. y ∷ l) (by ys i (omega arith) at)

map_append : {X Y : Type 0} (f : X → Y) (xs ys : List X) → map f (xs ++ ys) ≡ map f xs ++ map f ys
map_append f [] ys = refl
map_append f (x ∷ xs) ys = ap (λ l. f x ∷ l) (map_append f xs ys)

nothing : (xs : List ℕ) → xs ++ [] ≡ xs
nothing [] = refl
nothing (x ∷ xs) = ap (λ l. x ∷ l) (nothing xs)

joined_append : (xs ys : List (List ℕ)) → joined (xs ++ ys) ≡ joined xs ++ joined ys
joined_append [] ys = refl
joined_append (x ∷ xs) ys = ap (λ l. x ++ l) (joined_append xs ys) ∙ sym (append_assoc x (joined xs) (joined ys))

-- noting what the next element of a row has
pub noted-more : {X : Type 0} (f : X → List ℕ) (xs : List X) (i : ℕ) (x : X) (start before now : List ℕ) → i < length xs → x ≡ get_or xs i x
    → before ≡ noted start (joined (map f (take i xs))) → now ≡ noted before (f x) → now ≡ noted start (joined (map f (take (i + 1) xs)))
noted-more f xs i x start before now less at old step =
    step ∙ ap (λ order. noted order (f x)) old ∙ sym (noted-append start (joined (map f (take i xs))) (f x))
    ∙ ap (noted start) (ap (λ l. joined (map f (take i xs)) ++ l) (sym (nothing (f x))) ∙ sym (joined_append (map f (take i xs)) (f x ∷ []))
    ∙ ap joined (sym (map_append f (take i xs) (x ∷ []))) ∙ ap (λ l. joined (map f l)) (sym (take_more xs i x less at)))

same_test : (m n : ℕ) → nat_eq m n ≡ nat_eq n m
same_test m n = by (nat_eq m n) (nat_eq n m) refl refl
  where
    by : (a b : Bool) → nat_eq m n ≡ a → nat_eq n m ≡ b → nat_eq m n ≡ nat_eq n m
    by true true e f = e ∙ sym f
    by false false e f = e ∙ sym f
    by true false e f = absurd (eqb-false n m f (sym (eqb-true m n e)))
    by false true e f = absurd (eqb-false m n e (sym (eqb-true n m f)))

-- the two lists have the same numbers
abbrev Alike : List ℕ → List ℕ → Type 0
Alike seen order = (k : ℕ) → list_any (nat_eq k) seen ≡ list_any (λ m. nat_eq m k) order

swap_last : (a b : Bool) → (a || b) ≡ (b || (a || false))
swap_last true true = refl
swap_last true false = refl
swap_last false true = refl
swap_last false false = refl

alike_more : (seen order : List ℕ) (n : ℕ) → Alike seen order → Alike (n ∷ seen) (order ++ n ∷ [])
alike_more seen order n same k =
    (λ i. same_test k n i || same k i) ∙ swap_last (nat_eq n k) (list_any (λ m. nat_eq m k) order) ∙ sym (list_any-append (λ m. nat_eq m k) order (n ∷ []))

after : (ns seen order : List ℕ) → Alike seen order → noted order ns ≡ order ++ firsts_after seen ns
after [] seen order same = sym (nothing order)
after (n ∷ ns) seen order same =
    by (list_any (λ m. nat_eq m n) order) (list_any (nat_eq n) seen) (same n) (after ns seen order same) (after ns (n ∷ seen) (order ++ n ∷ []) (alike_more seen order n same))
  where
    by : (a b : Bool) → b ≡ a → noted order ns ≡ order ++ firsts_after seen ns → noted (order ++ n ∷ []) ns ≡ (order ++ n ∷ []) ++ firsts_after (n ∷ seen) ns
        → noted (if a then order else (order ++ n ∷ [])) ns ≡ order ++ (if b then firsts_after seen ns else n ∷ firsts_after (n ∷ seen) ns)
    by true true e old new = old
    by false false e old new = new ∙ append_assoc order (n ∷ []) (firsts_after (n ∷ seen) ns)
    by true false e old new = cc
    by false true e old new = cc

pub noted-firsts : (ns : List ℕ) → noted [] ns ≡ firsts ns
noted-firsts ns = after ns [] [] (λ k. refl)

at_least : (a : ℕ) (ns : List ℕ) → a ≤ fold max a ns
at_least a [] = omega arith
at_least a (n ∷ ns) = omega (arith, at_least (max a n) ns)

-- an element's number is at most the largest
pub at-most-largest : {X : Type 0} (f : X → ℕ) (xs : List X) (i : ℕ) (x : X) → i < length xs → x ≡ get_or xs i x → f x ≤ largest (map f xs)
at-most-largest {X = X} f xs i x less at = by 0 xs i less at
  where
    by : (a : ℕ) (xs : List X) (i : ℕ) → i < length xs → x ≡ get_or xs i x → f x ≤ fold max a (map f xs)
    by a [] i less at = absurd (omega arith)
    by a (y ∷ ys) zero less at = omega (arith, ap f at, at_least (max a (f y)) (map f ys))
    by a (y ∷ ys) (suc i) less at = by (max a (f y)) ys i (omega arith) at

-- what was pushed is what is made of the next element
pub pushed : {X Y : Type 0} (f : X → Y) (xs : List X) (i : ℕ) (x : X) (y : Y) (made now : List Y) → i < length xs → x ≡ get_or xs i x → made ≡ map f (take i xs) → y ≡ f x → now ≡ made ++ y ∷ []
    → now ≡ map f (take (i + 1) xs)
pushed f xs i x y made now less at before is grown = grown ∙ (λ j. before j ++ is j ∷ []) ∙ sym (ap (map f) (take_more xs i x less at) ∙ map_append f (take i xs) (x ∷ []))
