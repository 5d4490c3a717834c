-- What is left to try becomes less, when a literal is taken to a place and when the last choice is made otherwise.
use Rattle.std.proofs.Common.{◌≡◌, ap, ℕ, zero, suc, ◌+◌, ◌-◌, ◌*◌, ◌<◌, ◌≤◌, List, [], ◌∷◌, ◌++◌, length, arith}
use Rattle.sc_subsume.specs.declared.search.Branch.{Branch}
use Rattle.sc_subsume.specs.Search.{worth, left_to_try}

worth-positive : (size n : ℕ) → 1 ≤ worth size n
unfolding worth
worth-positive size zero = omega arith
worth-positive size (suc n) = one_less size (worth size n) (worth-positive size n)
  where
    one_less : (size w : ℕ) → 1 ≤ w → 1 ≤ (size + 2) * w
    one_less size w h = grind arith

worth-more : (size n : ℕ) → (size + 1) * worth size n + 1 ≤ worth size (suc n)
unfolding worth
worth-more size n = more size (worth size n) (worth-positive size n)
  where
    more : (size w : ℕ) → 1 ≤ w → (size + 1) * w + 1 ≤ (size + 2) * w
    more size w h = grind arith

-- a product of a number that is one more
one_more : (a b w : ℕ) → a + 1 ≤ b → a * w + w ≤ b * w
one_more a b w h = grind arith

positive : (a w : ℕ) → 1 ≤ a → 1 ≤ w → 1 ≤ a * w
positive a w h k = grind arith

pub chosen : (size n : ℕ) (choices : List Branch) (one : Branch) (next : ℕ) → length choices < n → next ≤ one.place → one.place < size
    → left_to_try size n (choices ++ one ∷ []) 0 < left_to_try size n choices next
unfolding left_to_try
chosen size zero choices one next few least within = absurd (omega arith)
chosen size (suc n) [] one next few least within =
    omega (arith, one_more (size - one.place) (size + 1 - next) (worth size (suc n)) (omega arith), worth-more size n, same)
  where
    same : (size + 1 - 0) * worth size n ≡ (size + 1) * worth size n
    same = ap (λ k. k * worth size n) (let e : size + 1 - 0 ≡ size + 1 = omega arith in e)
chosen size (suc n) (other ∷ more) one next few least within = omega (arith, chosen size n more one next (omega arith) least within)

pub undone : (size n : ℕ) (choices : List Branch) (one : Branch) (next : ℕ) → length choices < n → next ≤ size → one.place < size
    → left_to_try size n choices (one.place + 1) < left_to_try size n (choices ++ one ∷ []) next
unfolding left_to_try
undone size zero choices one next few within place = absurd (omega arith)
undone size (suc n) [] one next few within place =
    omega (arith, same, positive (size + 1 - next) (worth size n) (omega arith) (worth-positive size n))
  where
    same : (size + 1 - (one.place + 1)) * worth size (suc n) ≡ (size - one.place) * worth size (suc n)
    same = ap (λ k. k * worth size (suc n)) (let e : size + 1 - (one.place + 1) ≡ size - one.place = omega arith in e)
undone size (suc n) (other ∷ more) one next few within place = omega (arith, undone size n more one next (omega arith) within place)
