-- Digits of numbers, and the places of entries.
use Rattle.std.proofs.Common.{◌≡◌, ◌∙◌, sym, ap, subst, refl, ℕ, zero, suc, ◌+◌, ◌*◌, ◌^◌, ◌<◌, ◌≤◌, ◌/◌, ◌%◌, ◌⊎◌, inl, inr, List, [], ◌∷◌, ◌++◌, length, fold, max, reverse, ◌-◌, arith}
use Rattle.std.specs.List.{All}
use Rattle.std.proofs.Math.Nat.{mul-le-mul_left, mul-le-mul_right, mul_assoc, pow-zero, pow-suc, pow-succ'}
use Rattle.std.proofs.lemmas.Nat.{div-add-mod', div_below, mod_below, div-mul-add, mod-mul-add}
use Rattle.std.proofs.lemmas.List.{length-append, append_assoc, append-nil, reverse-append}
use Rattle.std.proofs.lemmas.List.Sums.{fold-append}
use Rattle.std.proofs.lemmas.List.Elements.{All-nil, All-push, All-head, All-tail}
use Rattle.std.proofs.lemmas.Bool.{cases_order}
use Rattle.sc_term.specs.Term.{largest}
use Rattle.sc_interp.specs.Structure.{place_of}
use Rattle.sc_cells.specs.Order.{IsBefore}
use Rattle.sc_cells.specs.Listing.{digits}

pub digits_length : (base len number : ℕ) → length (digits base len number) ≡ len
digits_length base zero number = refl
digits_length base (suc len) number =
    let front = digits_length base len (number / base) in
    length-append (digits base len (number / base)) ((number % base) ∷ []) ∙ omega (arith, front)

pub digits_below : (base len number : ℕ) → 1 ≤ base → All (λ v. v < base) (digits base len number)
digits_below base zero number some = All-nil _
digits_below base (suc len) number some =
    All-push (λ v. v < base) (digits base len (number / base)) (number % base) (digits_below base len (number / base) some) (mod_below number base (omega arith))

-- ---- from a number to its digits and back

pub place_of_digits : (base len number : ℕ) → 1 ≤ base → number < base ^ len → place_of base (digits base len number) ≡ number
place_of_digits base zero number some few = let one = pow-zero base in omega (arith, few, one)
place_of_digits base (suc len) number some few =
    let least : number < base ^ len * base = subst (λ m. number < m) (pow-suc base len) few in
    let front = place_of_digits base len (number / base) some (div_below number base (base ^ len) (omega arith) least) in
    fold-append (λ at_place v. base * at_place + v) 0 (digits base len (number / base)) ((number % base) ∷ [])
    ∙ ap (λ m. base * m + number % base) front ∙ omega (arith, div-add-mod' number base)

-- the place that starts at a number
abbrev from : ℕ → ℕ → List ℕ → ℕ
from base start values = fold (λ at_place v. base * at_place + v) start values

digits_from : (base len start : ℕ) (values : List ℕ) → All (λ v. v < base) values → digits base (len + length values) (from base start values) ≡ digits base len start ++ values
digits_from base len start [] all =
    let none : len + 0 ≡ len = omega arith in
    ap (λ n. digits base n start) none ∙ sym (append-nil (digits base len start))
digits_from base len start (v ∷ vs) all =
    let below = All-head (λ v. v < base) v vs all in
    let turned : base * start + v ≡ start * base + v = omega arith in
    let more : len + length (v ∷ vs) ≡ suc len + length vs = omega arith in
    ap (λ n. digits base n (from base (base * start + v) vs)) more
    ∙ digits_from base (suc len) (base * start + v) vs (All-tail (λ v. v < base) v vs all)
    ∙ (λ i. (digits base len (((ap (λ m. m / base) turned) ∙ div-mul-add start base v below) i) ++ (((ap (λ m. m % base) turned) ∙ mod-mul-add start base v below) i) ∷ []) ++ vs)
    ∙ append_assoc (digits base len start) (v ∷ []) vs

pub digits_of_place : (base len : ℕ) (values : List ℕ) → length values ≡ len → All (λ v. v < base) values → digits base len (place_of base values) ≡ values
digits_of_place base len values long all =
    let same : len ≡ 0 + length values = omega arith in
    ap (λ n. digits base n (place_of base values)) same ∙ digits_from base 0 0 values all

from_below : (base start : ℕ) (values : List ℕ) → All (λ v. v < base) values → from base start values < (start + 1) * base ^ length values
from_below base start [] all = let one = pow-zero base in rw one (omega arith)
from_below base start (v ∷ vs) all =
    let below = All-head (λ v. v < base) v vs all in
    let rest = from_below base (base * start + v) vs (All-tail (λ v. v < base) v vs all) in
    let first : base * start + v + 1 ≤ (start + 1) * base = omega arith in
    let wide : (base * start + v + 1) * base ^ length vs ≤ (start + 1) * base * base ^ length vs = mul-le-mul_right (base ^ length vs) first in
    let same : (start + 1) * base * base ^ length vs ≡ (start + 1) * base ^ length (v ∷ vs) = mul_assoc (start + 1) base (base ^ length vs) ∙ ap (λ m. (start + 1) * m) (sym (pow-succ' base (length vs))) in
    omega (arith, rest, wide, same)

pub place_below : (base : ℕ) (values : List ℕ) → All (λ v. v < base) values → place_of base values < base ^ length values
place_below base values all = omega (arith, from_below base 0 values all)

-- ---- lists in the order of their places

-- the digit decides where what stands before it doesn't
decided : (base a b x y : ℕ) → y < base → base * a + x < base * b + y → (a < b) ⊎ ((a ≡ b) × (x < y))
decided base a b x y small less = by (cases_order a b)
  where
    by : (a ≡ b) ⊎ ((a < b) ⊎ (b < a)) → (a < b) ⊎ ((a ≡ b) × (x < y))
    by (inl same) = let e = ap (λ m. base * m) same in inr (same, omega arith)
    by (inr (inl before)) = inl before
    by (inr (inr after)) = let more : base * (b + 1) ≤ base * a = mul-le-mul_left base (omega arith) in absurd (omega arith)

-- the same of two that are one
undecided : (base a b x y : ℕ) → y < base → base * a + x ≡ base * b + y → (a < b) ⊎ ((a ≡ b) × (x ≡ y))
undecided base a b x y small e = by (cases_order a b)
  where
    by : (a ≡ b) ⊎ ((a < b) ⊎ (b < a)) → (a < b) ⊎ ((a ≡ b) × (x ≡ y))
    by (inl same) = let k = ap (λ m. base * m) same in inr (same, omega arith)
    by (inr (inl before)) = inl before
    by (inr (inr after)) = let more : base * (b + 1) ≤ base * a = mul-le-mul_left base (omega arith) in absurd (omega arith)

before_from : (base a b : ℕ) (xs ys : List ℕ) → length xs ≡ length ys → All (λ v. v < base) ys → from base a xs < from base b ys
    → (a < b) ⊎ ((a ≡ b) × IsBefore xs ys)
before_from base a b [] [] long all less = inl less
before_from base a b [] (y ∷ ys) long all less = cc
before_from base a b (x ∷ xs) [] long all less = cc
before_from base a b (x ∷ xs) (y ∷ ys) long all less =
    by (before_from base (base * a + x) (base * b + y) xs ys (omega (arith, long)) (All-tail (λ v. v < base) y ys all) less)
  where
    by : (base * a + x < base * b + y) ⊎ ((base * a + x ≡ base * b + y) × IsBefore xs ys) → (a < b) ⊎ ((a ≡ b) × IsBefore (x ∷ xs) (y ∷ ys))
    by (inl h) = first (decided base a b x y (All-head (λ v. v < base) y ys all) h)
      where
        first : (a < b) ⊎ ((a ≡ b) × (x < y)) → (a < b) ⊎ ((a ≡ b) × IsBefore (x ∷ xs) (y ∷ ys))
        first (inl k) = inl k
        first (inr k) = inr (k.0, inl k.1)
    by (inr h) = second (undecided base a b x y (All-head (λ v. v < base) y ys all) h.0)
      where
        second : (a < b) ⊎ ((a ≡ b) × (x ≡ y)) → (a < b) ⊎ ((a ≡ b) × IsBefore (x ∷ xs) (y ∷ ys))
        second (inl k) = inl k
        second (inr k) = inr (k.0, inr (k.1, h.1))

pub before_by_place : (base : ℕ) (xs ys : List ℕ) → length xs ≡ length ys → All (λ v. v < base) ys → place_of base xs < place_of base ys → IsBefore xs ys
before_by_place base xs ys long all less = by (before_from base 0 0 xs ys long all less)
  where
    by : (0 < 0) ⊎ (◌≡◌ {A = ℕ} 0 0 × IsBefore xs ys) → IsBefore xs ys
    by (inl h) = absurd (omega (arith, h))
    by (inr h) = h.1

-- ---- one digit after another, the least one first

one_less : (len i : ℕ) → i < len → len - i ≡ suc (len - (i + 1))
one_less len i h = omega arith

pub greatest_more : (base len i greatest rest all : ℕ) → i < len → max greatest (largest (digits base (len - i) rest)) ≡ all
    → max (max greatest (rest % base)) (largest (digits base (len - (i + 1)) (rest / base))) ≡ all
greatest_more base len i greatest rest all lt e =
    let front = digits base (len - (i + 1)) (rest / base) in
    let most : largest (digits base (len - i) rest) ≡ max (largest front) (rest % base)
    = ap (λ n. largest (digits base n rest)) (one_less len i lt) ∙ fold-append max 0 front ((rest % base) ∷ []) in
    omega (arith, e, most)

pub greatest_all : (base len i greatest rest all : ℕ) → len ≤ i → max greatest (largest (digits base (len - i) rest)) ≡ all → greatest ≡ all
greatest_all base len i greatest rest all h e =
    let none : len - i ≡ 0 = omega arith in
    let most : largest (digits base (len - i) rest) ≡ 0 = ap (λ n. largest (digits base n rest)) none in
    omega (arith, e, most)

pub digit_more : (base len i rest : ℕ) (old new all : List ℕ) → i < len → digits base (len - i) rest ++ reverse old ≡ all → new ≡ old ++ (rest % base) ∷ []
    → digits base (len - (i + 1)) (rest / base) ++ reverse new ≡ all
digit_more base len i rest old new all lt e is =
    let front = digits base (len - (i + 1)) (rest / base) in
    ap (λ l. front ++ l) (ap reverse is ∙ reverse-append old ((rest % base) ∷ []))
    ∙ sym (append_assoc front ((rest % base) ∷ []) (reverse old))
    ∙ ap (λ n. digits base n rest ++ reverse old) (sym (one_less len i lt)) ∙ e

pub digits_all : (base len i rest : ℕ) (found all : List ℕ) → len ≤ i → digits base (len - i) rest ++ reverse found ≡ all → reverse found ≡ all
digits_all base len i rest found all h e =
    let none : 0 ≡ len - i = omega arith in
    ap (λ n. digits base n rest ++ reverse found) none ∙ e
