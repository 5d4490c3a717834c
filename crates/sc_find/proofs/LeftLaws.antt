-- What is left to try becomes less with each step of a search over lists.
use Rattle.std.proofs.Common.{◌≡◌, ap, ℕ, zero, suc, ◌+◌, ◌-◌, ◌*◌, ◌<◌, ◌≤◌, List, [], ◌∷◌, ◌++◌, length, arith}

-- what a value at one place counts for, with so many places after it
unfoldable pub worth : ℕ → ℕ → ℕ
worth size zero = 1
worth size (suc n) = (size + 2) * worth size n

-- how much can still be tried at n places, each of which has at most so many values
unfoldable pub left_to_try : ℕ → ℕ → List ℕ → ℕ → ℕ
left_to_try size n [] next = (size + 1 - next) * worth size n
left_to_try size zero (v ∷ vs) next = 0
left_to_try size (suc n) (v ∷ vs) next = (size - v) * worth size (suc n) + left_to_try size n vs next

worth-positive : (size n : ℕ) → 1 ≤ worth size n
unfolding worth
worth-positive size zero = omega arith
worth-positive size (suc n) = one_less size (worth size n) (worth-positive size n)
  where
    one_less : (size w : ℕ) → 1 ≤ w → 1 ≤ (size + 2) * w
    one_less size w h = grind arith

worth-more : (size n : ℕ) → (size + 1) * worth size n + 1 ≤ worth size (suc n)
unfolding worth
worth-more size n = more size (worth size n) (worth-positive size n)
  where
    more : (size w : ℕ) → 1 ≤ w → (size + 1) * w + 1 ≤ (size + 2) * w
    more size w h = grind arith

-- a product of a number that is one more
one_more : (a b w : ℕ) → a + 1 ≤ b → a * w + w ≤ b * w
one_more a b w h = grind arith

positive : (a w : ℕ) → 1 ≤ a → 1 ≤ w → 1 ≤ a * w
positive a w h k = grind arith

-- the next value was put onto the stack
pub deeper : (size n : ℕ) (vs : List ℕ) (next : ℕ) → length vs < n → next < size
    → left_to_try size n (vs ++ next ∷ []) 0 < left_to_try size n vs next
unfolding left_to_try
deeper size zero vs next few within = absurd (omega arith)
deeper size (suc n) [] next few within =
    omega (arith, one_more (size - next) (size + 1 - next) (worth size (suc n)) (omega arith), worth-more size n, same)
  where
    same : (size + 1 - 0) * worth size n ≡ (size + 1) * worth size n
    same = ap (λ k. k * worth size n) (let e : size + 1 - 0 ≡ size + 1 = omega arith in e)
deeper size (suc n) (v ∷ vs) next few within = omega (arith, deeper size n vs next (omega arith) within)

-- the next value was passed
pub further : (size n : ℕ) (vs : List ℕ) (next : ℕ) → length vs < n → next < size → left_to_try size n vs (next + 1) < left_to_try size n vs next
unfolding left_to_try
further size zero vs next few within = absurd (omega arith)
further size (suc n) [] next few within =
    omega (arith, one_more (size + 1 - (next + 1)) (size + 1 - next) (worth size (suc n)) (omega arith), worth-positive size (suc n))
further size (suc n) (v ∷ vs) next few within = omega (arith, further size n vs next (omega arith) within)

-- the value on top was passed
pub back : (size n : ℕ) (vs : List ℕ) (v next : ℕ) → length vs < n → next ≤ size → v < size
    → left_to_try size n vs (v + 1) < left_to_try size n (vs ++ v ∷ []) next
unfolding left_to_try
back size zero vs v next few within place = absurd (omega arith)
back size (suc n) [] v next few within place =
    omega (arith, same, positive (size + 1 - next) (worth size n) (omega arith) (worth-positive size n))
  where
    same : (size + 1 - (v + 1)) * worth size (suc n) ≡ (size - v) * worth size (suc n)
    same = ap (λ k. k * worth size (suc n)) (let e : size + 1 - (v + 1) ≡ size - v = omega arith in e)
back size (suc n) (other ∷ vs) v next few within place = omega (arith, back size n vs v next (omega arith) within place)
