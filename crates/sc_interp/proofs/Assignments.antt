-- Assignments as digits of numbers: each has a number of its own, and the next one has the next number.
use Rattle.std.proofs.Common.{◌≡◌, ◌∙◌, sym, ap, refl, ℕ, zero, suc, ◌+◌, ◌*◌, ◌^◌, ◌<◌, ◌≤◌, List, [], ◌∷◌, ◌++◌, length, get_or, drop, set, replicate, add-one, arith}
use Rattle.std.specs.List.{All}
use Rattle.std.proofs.Math.Nat.{mul-le-mul_left, mul_assoc, pow-zero, pow-suc, pow-succ'}
use Rattle.std.proofs.lemmas.List.{drop_more}
use Rattle.sc_interp.specs.Assignments.{AreElements, assignment_number}

pub head : {X : Type 0} (P : X → Type 0) (x : X) (xs : List X) → All P (x ∷ xs) → P x
head P x xs h = h 0 x (omega arith)

pub tail : {X : Type 0} (P : X → Type 0) (x : X) (xs : List X) → All P (x ∷ xs) → All P xs
tail P x xs h = λ k d lt. h (suc k) d (omega arith)

-- ---- each has a number of its own

less : (s x y m n : ℕ) → x < s → x + s * m ≡ y + s * n → m < n → ⊥
less s x y m n a e lt = let k : s * (m + 1) ≤ s * n = mul-le-mul_left s (omega arith) in omega arith

same_digits : (s x y m n : ℕ) → x < s → y < s → x + s * m ≡ y + s * n → m ≡ n
same_digits s x y m n a b e = omega (arith, less s x y m n a e, less s y x n m b (sym e))

pub one_number : (s : ℕ) (xs ys : List ℕ) → length xs ≡ length ys → AreElements s xs → AreElements s ys → assignment_number s xs ≡ assignment_number s ys → xs ≡ ys
one_number s [] [] l a b e = refl
one_number s [] (y ∷ ys) l a b e = cc
one_number s (x ∷ xs) [] l a b e = cc
one_number s (x ∷ xs) (y ∷ ys) l a b e =
    let rest = same_digits s x y (assignment_number s xs) (assignment_number s ys) (head (λ v. v < s) x xs a) (head (λ v. v < s) y ys b) e in
    let more = one_number s xs ys (omega arith) (tail (λ v. v < s) x xs a) (tail (λ v. v < s) y ys b) rest in
    let first : x ≡ y = omega (arith, e, ap (λ m. s * m) rest) in
    (λ i. first i ∷ more i)

-- ---- their numbers are below the size to their length

pub bounded : (s : ℕ) (xs : List ℕ) → AreElements s xs → assignment_number s xs < s ^ length xs
bounded s [] a = rw (pow-zero s) (omega arith)
bounded s (x ∷ xs) a =
    let below = bounded s xs (tail (λ v. v < s) x xs a) in
    let k : s * (assignment_number s xs + 1) ≤ s * s ^ length xs = mul-le-mul_left s (omega arith) in
    let first = head (λ v. v < s) x xs a in
    rw (pow-succ' s (length xs)) (omega arith)

-- ---- the next one

zeros_first : (s i : ℕ) (vs : List ℕ) → assignment_number s (replicate i 0 ++ vs) ≡ s ^ i * assignment_number s vs
zeros_first s zero vs = rw (pow-zero s) (omega arith)
zeros_first s (suc i) vs =
    let digit : assignment_number s (replicate (suc i) 0 ++ vs) ≡ s * assignment_number s (replicate i 0 ++ vs) = omega arith in
    digit ∙ ap (λ m. s * m) (zeros_first s i vs) ∙ sym (mul_assoc s (s ^ i) (assignment_number s vs)) ∙ ap (λ m. m * assignment_number s vs) (sym (pow-succ' s i))

one_more_zero : (i : ℕ) (vs : List ℕ) → replicate i 0 ++ 0 ∷ vs ≡ replicate (suc i) 0 ++ vs
one_more_zero zero vs = refl
one_more_zero (suc i) vs = ap (λ l. 0 ∷ l) (one_more_zero i vs)

pub more_zeros : (i : ℕ) (vs : List ℕ) → replicate i 0 ++ 0 ∷ vs ≡ replicate (i + 1) 0 ++ vs
more_zeros i vs = rw add-one (one_more_zero i vs)

set_behind : (i u v : ℕ) (vs : List ℕ) → set (replicate i 0 ++ u ∷ vs) i v ≡ replicate i 0 ++ v ∷ vs
set_behind zero u v vs = refl
set_behind (suc i) u v vs = ap (λ l. 0 ∷ l) (set_behind i u v vs)

get_behind : (i u : ℕ) (vs : List ℕ) → get_or (replicate i 0 ++ u ∷ vs) i 0 ≡ u
get_behind zero u vs = refl
get_behind (suc i) u vs = get_behind i u vs

-- the first i digits of `first` are 0 in `now`
pub record IsCarried (i : ℕ) (first now : List ℕ) : Type 0 where
  pub is : now ≡ replicate i 0 ++ drop i first
  pub within : i < length first

opened : (i : ℕ) (first now : List ℕ) → IsCarried i first now → now ≡ replicate i 0 ++ get_or first i 0 ∷ drop (i + 1) first
opened i first now h = h.is ∙ ap (λ vs. replicate i 0 ++ vs) (drop_more first i 0 h.within)

pub digit : (i : ℕ) (first now : List ℕ) → IsCarried i first now → get_or now i 0 ≡ get_or first i 0
digit i first now h = ap (λ vs. get_or vs i 0) (opened i first now h) ∙ get_behind i (get_or first i 0) (drop (i + 1) first)

pub with_digit : (i v : ℕ) (first now : List ℕ) → IsCarried i first now → set now i v ≡ replicate i 0 ++ v ∷ drop (i + 1) first
with_digit i v first now h = ap (λ vs. set vs i v) (opened i first now h) ∙ set_behind i (get_or first i 0) v (drop (i + 1) first)

-- the digits from i on
pub from_digit : (s i : ℕ) (first : List ℕ) → i < length first → assignment_number s (drop i first) ≡ get_or first i 0 + s * assignment_number s (drop (i + 1) first)
from_digit s i first h = ap (assignment_number s) (drop_more first i 0 h)

-- the digit at i is one more
pub next : (s i : ℕ) (first now : List ℕ) → IsCarried i first now → assignment_number s first + 1 ≡ s ^ i * (assignment_number s (drop i first) + 1)
    → assignment_number s (set now i (get_or now i 0 + 1)) ≡ assignment_number s first + 1
next s i first now h e =
    ap (assignment_number s) (with_digit i _ first now h) ∙ zeros_first s i _
    ∙ ap (λ m. s ^ i * m) (let d = digit i first now h in let f = from_digit s i first h.within in omega arith) ∙ sym e

-- the digit at i is the greatest, and becomes 0
pub carried : (s i : ℕ) (first now : List ℕ) → IsCarried i first now → assignment_number s first + 1 ≡ s ^ i * (assignment_number s (drop i first) + 1)
    → get_or now i 0 + 1 ≡ s → assignment_number s first + 1 ≡ s ^ (i + 1) * (assignment_number s (drop (i + 1) first) + 1)
carried s i first now h e great =
    let d = digit i first now h in
    let f = from_digit s i first h.within in
    let rest = assignment_number s (drop (i + 1) first) in
    let all : assignment_number s (drop i first) + 1 ≡ s * (rest + 1) = omega arith in
    let power : s ^ (i + 1) ≡ s ^ i * s = rw add-one (pow-suc s i) in
    e ∙ ap (λ m. s ^ i * m) all ∙ sym (mul_assoc (s ^ i) s (rest + 1)) ∙ ap (λ m. m * (rest + 1)) (sym power)

-- ---- the first one

pub first_number : (s n : ℕ) → assignment_number s (replicate n 0) ≡ 0
first_number s zero = refl
first_number s (suc n) = let none : s * assignment_number s (replicate n 0) ≡ s * 0 = ap (λ m. s * m) (first_number s n) in omega arith
