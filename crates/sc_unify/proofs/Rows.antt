-- One more element of a row: what was made of it, its sum and its largest number.
use Rattle.std.proofs.Common.{◌≡◌, ◌∙◌, sym, ap, subst, refl, ℕ, zero, suc, ◌+◌, ◌-◌, ◌<◌, ◌≤◌, ◌⊎◌, inl, inr, max, List, [], ◌∷◌, ◌++◌, map, sum, length, get_or, take, Option, None, Some, arith, add-one}
use Rattle.std.specs.List.{fold}
use Rattle.std.proofs.lemmas.List.Sums.{fold-append, sum_by-cons}
use Rattle.sc_term.specs.Term.{largest}
use Rattle.sc_unify.specs.Limits.{Spends}

pub take-more : {X : Type 0} (xs : List X) (i : ℕ) (x : X) → i < length xs → x ≡ get_or xs i x → take (i + 1) xs ≡ take i xs ++ x ∷ []
take-more {X = X} xs i x less at = rw add-one (by xs i less at)
  where
    by : (xs : List X) (i : ℕ) → i < length xs → x ≡ get_or xs i x → take (suc i) xs ≡ take i xs ++ x ∷ []
    by [] i less at = absurd (omega arith)
    by (y ∷ ys) zero less at = ap (λ z. z ∷ []) (sym at)
    by (y ∷ ys) (suc i) less at = ap (λ l. y ∷ l) (by ys i (omega arith) at)

pub map_append : {X Y : Type 0} (f : X → Y) (xs ys : List X) → map f (xs ++ ys) ≡ map f xs ++ map f ys
map_append f [] ys = refl
map_append f (x ∷ xs) ys = ap (λ l. f x ∷ l) (map_append f xs ys)

pub map-more : {X Y : Type 0} (f : X → Y) (xs : List X) (i : ℕ) (x : X) → i < length xs → x ≡ get_or xs i x → map f (take (i + 1) xs) ≡ map f (take i xs) ++ f x ∷ []
map-more f xs i x less at = ap (map f) (take-more xs i x less at) ∙ map_append f (take i xs) (x ∷ [])

-- what was pushed is what is made of the next element
pub pushed : {X Y : Type 0} (f : X → Y) (xs : List X) (i : ℕ) (x : X) (y : Y) (made now : List Y) → i < length xs → x ≡ get_or xs i x → made ≡ map f (take i xs) → y ≡ f x → now ≡ made ++ y ∷ []
    → now ≡ map f (take (i + 1) xs)
pushed f xs i x y made now less at before is grown = grown ∙ (λ j. before j ++ is j ∷ []) ∙ sym (map-more f xs i x less at)

pub sum_append : (ns : List ℕ) (n : ℕ) → sum (ns ++ n ∷ []) ≡ sum ns + n
sum_append ns n = fold-append (λ a x. a + x) 0 ns (n ∷ [])

largest_append : (ns : List ℕ) (n : ℕ) → largest (ns ++ n ∷ []) ≡ max (largest ns) n
largest_append ns n = fold-append max 0 ns (n ∷ [])

pub at_least : (a : ℕ) (ns : List ℕ) → a ≤ fold max a ns
at_least a [] = omega arith
at_least a (n ∷ ns) = omega (arith, at_least (max a n) ns)

pub largest_front : (ns ms : List ℕ) → largest ns ≤ largest (ns ++ ms)
largest_front ns ms = omega (arith, fold-append max 0 ns ms, at_least (largest ns) ms)

pub sum_front : (ns ms : List ℕ) → sum ns ≤ sum (ns ++ ms)
sum_front [] ms = omega arith
sum_front (n ∷ ns) ms = omega (arith, sum_front ns ms, sum_by-cons (λ k. k) n ns, sum_by-cons (λ k. k) n (ns ++ ms))

abbrev pub rest : {X : Type 0} → List X → ℕ → List X
rest xs zero = xs
rest [] (suc k) = []
rest (x ∷ xs) (suc k) = rest xs k

pub split : {X : Type 0} (xs : List X) (k : ℕ) → take k xs ++ rest xs k ≡ xs
split xs zero = refl
split [] (suc k) = refl
split (x ∷ xs) (suc k) = ap (λ l. x ∷ l) (split xs k)

-- a number of each of what is made of a row
module _ {X Y : Type 0} (w : Y → ℕ) (g : X → Y) where
  all_front : (xs : List X) (k : ℕ) → map w (map g xs) ≡ map w (map g (take k xs)) ++ map w (map g (rest xs k))
  all_front xs k = ap (λ l. map w (map g l)) (sym (split xs k)) ∙ ap (map w) (map_append g (take k xs) (rest xs k)) ∙ map_append w (map g (take k xs)) (map g (rest xs k))

  numbers_more : (xs : List X) (i : ℕ) (x : X) → i < length xs → x ≡ get_or xs i x → map w (map g (take (i + 1) xs)) ≡ map w (map g (take i xs)) ++ w (g x) ∷ []
  numbers_more xs i x less at = ap (map w) (map-more g xs i x less at) ∙ map_append w (map g (take i xs)) (g x ∷ [])

  pub sum-more : (xs : List X) (i : ℕ) (x : X) → i < length xs → x ≡ get_or xs i x → sum (map w (map g (take (i + 1) xs))) ≡ sum (map w (map g (take i xs))) + w (g x)
  sum-more xs i x less at = ap sum (numbers_more xs i x less at) ∙ sum_append (map w (map g (take i xs))) (w (g x))

  pub largest-more : (xs : List X) (i : ℕ) (x : X) → i < length xs → x ≡ get_or xs i x → largest (map w (map g (take (i + 1) xs))) ≡ max (largest (map w (map g (take i xs)))) (w (g x))
  largest-more xs i x less at = ap largest (numbers_more xs i x less at) ∙ largest_append (map w (map g (take i xs))) (w (g x))

  pub sum-least : (xs : List X) (i : ℕ) (x : X) → i < length xs → x ≡ get_or xs i x → sum (map w (map g (take i xs))) + w (g x) ≤ sum (map w (map g xs))
  sum-least xs i x less at = omega (arith, sum-more xs i x less at, ap sum (all_front xs (i + 1)), sum_front (map w (map g (take (i + 1) xs))) (map w (map g (rest xs (i + 1)))))

  pub largest-least : (xs : List X) (i : ℕ) (x : X) → i < length xs → x ≡ get_or xs i x → w (g x) ≤ largest (map w (map g xs))
  largest-least xs i x less at = omega (arith, largest-more xs i x less at, ap largest (all_front xs (i + 1)), largest_front (map w (map g (take (i + 1) xs))) (map w (map g (rest xs (i + 1)))))

-- spending a weight on a row, element by element
module _ {X Y : Type 0} (w d : Y → ℕ) (g : X → Y) (xs : List X) (i : ℕ) (x : X) (less : i < length xs) (at : x ≡ get_or xs i x) (weight depth left : ℕ) (so_far : left + sum (map w (map g (take i xs))) ≡ weight) where
  pub over : (left < w (g x)) ⊎ (depth < d (g x)) → (weight < sum (map w (map g xs))) ⊎ (depth < largest (map d (map g xs)))
  over (inl h) = inl (omega (arith, sum-least w g xs i x less at))
  over (inr h) = inr (omega (arith, largest-least d g xs i x less at))

  pub spent : (more : ℕ) → largest (map d (map g (take i xs))) ≤ depth → (more + w (g x) ≡ left) × (d (g x) ≤ depth)
      → (more + sum (map w (map g (take (i + 1) xs))) ≡ weight) × (largest (map d (map g (take (i + 1) xs))) ≤ depth)
  spent more deep h = (omega (arith, sum-more w g xs i x less at, h.0), omega (arith, largest-more d g xs i x less at, deep, h.1))
