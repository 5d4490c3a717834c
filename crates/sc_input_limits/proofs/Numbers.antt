-- Whether a number is outside its range, by its capped value.
use Rattle.std.proofs.Common.{◌≡◌, ◌∙◌, sym, ap, refl, ℕ, zero, suc, ◌-◌, ◌≤◌, min, Bool, true, false, not, ◌&&◌, List, [], ◌∷◌, length, get_or, drop, arith, ℤ, pos, negsuc, neg_ℤ, ◌≤ℤ◌, ◌<◌, ◌++◌, length-append}
use Rattle.std.specs.Prelude.{Ok, Err, Option, Some, None, option_map, nat_lt, int_le, if◌then◌else◌}
use Rattle.std.specs.List.{list_all}
use Rattle.std.specs.Str.Parse.{digits_value}
use Rattle.std.proofs.lemmas.Bool.Decides.{nat_tests}
use Rattle.std.proofs.lemmas.Int.{ints}
use Rattle.sc_input_rules.specs.declared.token.Token.{Token}
use Rattle.sc_input_rules.specs.declared.token.Token.TheVariants.{Word, Punctuation, Refused}
use Rattle.sc_input_rules.specs.declared.token.Sign.TheVariants.{Open, Close, Comma, Stop, Bar, Minus, Equal, Unequal, Colon}
use Rattle.sc_input_rules.specs.Tokens.{is_digit}
use Rattle.sc_input_rules.specs.Reader.{Read, ◌>>=◌, unexpected}
use Rattle.sc_input_rules.specs.Settings.{Range}
use Rattle.sc_input_rules.specs.ProblemLimits.{last_digits, is_outside, out_of_range}
use Rattle.sc_input_limits.specs.Numbers.{capped_number, IsShort, told_at, number_of_value}

abbrev is_within : Range → ℤ → Bool
is_within range n = int_le range.low n && int_le n range.high

low_pos : (low : ℤ) (v : ℕ) → low ≤ℤ pos 1 → int_le low (pos (min v 10000000000)) ≡ int_le low (pos v)
low_pos (pos l) v h = let le : l ≤ 1 = omega (arith, ints) in grind (arith, nat_tests)
low_pos (negsuc l) v h = refl

high_pos : (high : ℤ) (v : ℕ) → high ≤ℤ pos 2147483647 → int_le (pos (min v 10000000000)) high ≡ int_le (pos v) high
high_pos (pos l) v h = let le : l ≤ 2147483647 = omega (arith, ints) in grind (arith, nat_tests)
high_pos (negsuc l) v h = refl

low_neg : (low : ℤ) (v : ℕ) → negsuc 0 ≤ℤ low → int_le low (neg_ℤ (pos (min v 10000000000))) ≡ int_le low (neg_ℤ (pos v))
low_neg low zero h = refl
low_neg low (suc v) h = let e : min (suc v) 10000000000 ≡ suc (min v 9999999999) = omega arith in rw e (by low h)
  where
    by : (low : ℤ) → negsuc 0 ≤ℤ low → int_le low (negsuc (min v 9999999999)) ≡ int_le low (negsuc v)
    by (pos l) h = refl
    by (negsuc l) h = let le : l ≤ 0 = omega (arith, ints) in grind (arith, nat_tests)

high_neg : (high : ℤ) (v : ℕ) → pos 1 ≤ℤ high → int_le (neg_ℤ (pos (min v 10000000000))) high ≡ int_le (neg_ℤ (pos v)) high
high_neg high zero h = refl
high_neg high (suc v) h = let e : min (suc v) 10000000000 ≡ suc (min v 9999999999) = omega arith in rw e (by high h)
  where
    by : (high : ℤ) → pos 1 ≤ℤ high → int_le (negsuc (min v 9999999999)) high ≡ int_le (negsuc v) high
    by (pos l) h = refl
    by (negsuc l) h = absurd (omega (arith, ints))

within_pos : (range : Range) (v : ℕ) → IsShort range → is_within range (pos (min v 10000000000)) ≡ is_within range (pos v)
within_pos range v h = ap (λ (b : Bool). b && int_le (pos (min v 10000000000)) range.high) (low_pos range.low v h.lowest) ∙ ap (λ (b : Bool). int_le range.low (pos v) && b) (high_pos range.high v h.highest)

within_neg : (range : Range) (v : ℕ) → IsShort range → is_within range (neg_ℤ (pos (min v 10000000000))) ≡ is_within range (neg_ℤ (pos v))
within_neg range v h = ap (λ (b : Bool). b && int_le (neg_ℤ (pos (min v 10000000000))) range.high) (low_neg range.low v h.low) ∙ ap (λ (b : Bool). int_le range.low (neg_ℤ (pos v)) && b) (high_neg range.high v h.high)

-- the answer at a number
abbrev pub outside_at : Range → ℕ → Option ℤ → Bool
outside_at range digits number = elim number [ Some n ↦ if nat_lt 10 digits then true else not (is_within range n) | None ↦ false ]

abbrev too_long_or_not : ℕ → Bool → Bool
too_long_or_not digits within = if nat_lt 10 digits then true else not within

-- the answer at what is read
abbrev outside_read : Range → ℕ → Read ℤ → Bool
outside_read range digits read = elim read [ Ok n ↦ too_long_or_not digits (is_within range n.0) | Err f ↦ false ]

abbrev read_if : Bool → ℕ → List Token → List Token → Read ℤ
read_if all v from rest = elim all [ true ↦ Ok (pos v, rest) | false ↦ unexpected from ]

abbrev value_if : Bool → ℕ → Option ℕ
value_if all v = if all then Some (min v 10000000000) else None

plain : (range : Range) (digits v : ℕ) (from rest : List Token) → IsShort range → (all : Bool) → outside_at range digits (option_map pos (value_if all v)) ≡ outside_read range digits (read_if all v from rest)
plain range digits v from rest h true = ap (too_long_or_not digits) (within_pos range v h)
plain range digits v from rest h false = refl

signed : (range : Range) (digits v : ℕ) (from rest : List Token) → IsShort range → (all : Bool) → outside_at range digits (option_map (λ n. neg_ℤ (pos n)) (value_if all v)) ≡ outside_read range digits (read_if all v from rest >>= λ n. Ok (neg_ℤ n.0, n.1))
signed range digits v from rest h true = ap (too_long_or_not digits) (within_neg range v h)
signed range digits v from rest h false = refl

pub outside_by_cap : (range : Range) (tokens : List Token) → IsShort range → outside_at range (length (last_digits tokens)) (capped_number tokens) ≡ is_outside range tokens
outside_by_cap range [] h = refl
outside_by_cap range (Word at text ∷ tokens) h = plain range (length (last_digits (Word at text ∷ tokens))) (digits_value 10 text) (Word at text ∷ tokens) tokens h (list_all is_digit text)
outside_by_cap range (Punctuation at Minus ∷ []) h = refl
outside_by_cap range (Punctuation at Minus ∷ Word a text ∷ tokens) h =
    signed range (length (last_digits (Punctuation at Minus ∷ Word a text ∷ tokens))) (digits_value 10 text) (Word a text ∷ tokens) tokens h (list_all is_digit text)
outside_by_cap range (Punctuation at Minus ∷ Punctuation a s ∷ tokens) h = refl
outside_by_cap range (Punctuation at Minus ∷ Refused a k ∷ tokens) h = refl
outside_by_cap range (Punctuation at Open ∷ tokens) h = refl
outside_by_cap range (Punctuation at Close ∷ tokens) h = refl
outside_by_cap range (Punctuation at Comma ∷ tokens) h = refl
outside_by_cap range (Punctuation at Stop ∷ tokens) h = refl
outside_by_cap range (Punctuation at Bar ∷ tokens) h = refl
outside_by_cap range (Punctuation at Equal ∷ tokens) h = refl
outside_by_cap range (Punctuation at Unequal ∷ tokens) h = refl
outside_by_cap range (Punctuation at Colon ∷ tokens) h = refl
outside_by_cap range (Refused at k ∷ tokens) h = refl

-- ---- the last token

pub last_digits_last : (xs : List Token) (t : Token) → 1 ≤ length xs → t ≡ get_or xs (length xs - 1) t → last_digits xs ≡ last_digits (t ∷ [])
last_digits_last [] t l e = absurd (omega arith)
last_digits_last (x ∷ []) t l e = ap (λ (u : Token). last_digits (u ∷ [])) (sym e)
last_digits_last (x ∷ y ∷ ys) t l e =
    let n : length (x ∷ y ∷ ys) - 1 ≡ suc (length (y ∷ ys) - 1) = omega arith in
    past x y ys ∙ last_digits_last (y ∷ ys) t (omega arith) (e ∙ ap (λ (n : ℕ). get_or (x ∷ y ∷ ys) n t) n)
  where
    past : (x y : Token) (ys : List Token) → last_digits (x ∷ y ∷ ys) ≡ last_digits (y ∷ ys)
    past (Word at text) y ys = refl
    past (Punctuation at s) y ys = refl
    past (Refused at k) y ys = refl

-- ---- the item

pub out_of_range_at : (xs : List Token) (a b : Token) → 4 ≤ length xs → a ≡ get_or xs 0 a → b ≡ get_or xs 2 b → out_of_range xs ≡ told_at a b (drop 4 xs)
out_of_range_at [] a b l e f = absurd (omega arith)
out_of_range_at (x ∷ []) a b l e f = absurd (omega arith)
out_of_range_at (x ∷ y ∷ []) a b l e f = absurd (omega arith)
out_of_range_at (x ∷ y ∷ z ∷ []) a b l e f = absurd (omega arith)
out_of_range_at (x ∷ y ∷ z ∷ w ∷ ws) a b l e f = ap (λ (t : Token). told_at t z ws) (sym e) ∙ ap (λ (t : Token). told_at a t ws) (sym f)

-- ---- the number of an item

-- only the first two tokens of a value decide
capped_number-first : (a b : Token) (xs : List Token) → capped_number (a ∷ b ∷ xs) ≡ capped_number (a ∷ b ∷ [])
capped_number-first (Word at text) b xs = refl
capped_number-first (Punctuation at Minus) (Word a text) xs = refl
capped_number-first (Punctuation at Minus) (Punctuation a s) xs = refl
capped_number-first (Punctuation at Minus) (Refused a k) xs = refl
capped_number-first (Punctuation at Open) b xs = refl
capped_number-first (Punctuation at Close) b xs = refl
capped_number-first (Punctuation at Comma) b xs = refl
capped_number-first (Punctuation at Stop) b xs = refl
capped_number-first (Punctuation at Bar) b xs = refl
capped_number-first (Punctuation at Equal) b xs = refl
capped_number-first (Punctuation at Unequal) b xs = refl
capped_number-first (Punctuation at Colon) b xs = refl
capped_number-first (Refused at k) b xs = refl

number_stays : (front : List Token) (last : Token) → 6 ≤ length front → number_of_value front ≡ number_of_value (front ++ last ∷ [])
number_stays [] last h = absurd (omega arith)
number_stays (a ∷ []) last h = absurd (omega arith)
number_stays (a ∷ b ∷ []) last h = absurd (omega arith)
number_stays (a ∷ b ∷ c ∷ []) last h = absurd (omega arith)
number_stays (a ∷ b ∷ c ∷ d ∷ []) last h = absurd (omega arith)
number_stays (a ∷ b ∷ c ∷ d ∷ e ∷ []) last h = absurd (omega arith)
number_stays (a ∷ b ∷ c ∷ d ∷ e ∷ f ∷ xs) last h = capped_number-first e f xs ∙ sym (capped_number-first e f (xs ++ last ∷ []))

pub number_kept : (front sentence : List Token) (last : Token) (before : Option ℤ) → sentence ≡ front ++ last ∷ [] → before ≡ number_of_value front → 6 < length sentence → before ≡ number_of_value sentence
number_kept front sentence last before e h long =
    let long_front : 6 ≤ length front = omega (arith, ap length e, length-append front (last ∷ [])) in
    h ∙ number_stays front last long_front ∙ ap number_of_value (sym e)

pub no_value : (sentence : List Token) → length sentence ≤ 3 → number_of_value sentence ≡ None
no_value [] h = refl
no_value (a ∷ []) h = refl
no_value (a ∷ b ∷ []) h = refl
no_value (a ∷ b ∷ c ∷ []) h = refl
no_value (a ∷ b ∷ c ∷ d ∷ xs) h = absurd (omega arith)
