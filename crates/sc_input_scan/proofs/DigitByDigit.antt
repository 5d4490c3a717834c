-- Numerals read digit by digit, of which only those up to the greatest of 64 bits matter.
use Rattle.std.proofs.Common.{◌≡◌, ◌∙◌, sym, ap, refl, ℕ, ◌+◌, ◌-◌, ◌*◌, ◌^◌, ◌<◌, min, Bool, true, false, ◌&&◌, List, [], ◌∷◌, length, get_or, drop, drop-cons, Some, None, Option, arith, add-one}
use Rattle.std.specs.List.{list_all}
use Rattle.std.specs.Char.{digit_value}
use Rattle.std.specs.Str.Parse.{digits_value_after}
use Rattle.sc_input_rules.specs.Tokens.{is_digit}
use Rattle.sc_input_scan.specs.Numeral.{numeral_after}

-- a bound on what was read already changes nothing
pub digits_value_after-min : (bound n : ℕ) (ds : List ℕ) → min (digits_value_after 10 (min n bound) ds) bound ≡ min (digits_value_after 10 n ds) bound
digits_value_after-min bound n [] = omega arith
digits_value_after-min bound n (d ∷ ds) =
    let next : min (min n bound * 10 + digit_value d) bound ≡ min (n * 10 + digit_value d) bound = omega arith in
    sym (digits_value_after-min bound (min n bound * 10 + digit_value d) ds)
    ∙ ap (λ (k : ℕ). min (digits_value_after 10 k ds) bound) next
    ∙ digits_value_after-min bound (n * 10 + digit_value d) ds

more_digits : (b : Bool) (x y : ℕ) → x ≡ y
    → elim b as (λ _. Option ℕ) [ true ↦ Some x | false ↦ None ] ≡ elim b as (λ _. Option ℕ) [ true ↦ Some y | false ↦ None ]
more_digits true x y e = ap Some e
more_digits false x y e = refl

one_digit : (b : Bool) (n d : ℕ) (ds : List ℕ) → b ≡ true
    → numeral_after (min (n * 10 + digit_value d) (2 ^ 64 - 1)) ds
    ≡ elim (b && list_all is_digit ds) as (λ _. Option ℕ) [ true ↦ Some (min (digits_value_after 10 (n * 10 + digit_value d) ds) (2 ^ 64 - 1)) | false ↦ None ]
one_digit true n d ds e = more_digits (list_all is_digit ds) _ _ (digits_value_after-min (2 ^ 64 - 1) (n * 10 + digit_value d) ds)
one_digit false n d ds e = absurd cc

pub numeral-goes_on : (text : List ℕ) (i n value new : ℕ) → i < length text → is_digit (get_or text i 0) ≡ true → value ≡ digit_value (get_or text i 0)
    → new ≡ min (n * 10 + value) (2 ^ 64 - 1) → numeral_after new (drop (i + 1) text) ≡ numeral_after n (drop i text)
numeral-goes_on text i n value new within digit is e =
    let d = get_or text i 0 in
    let split : drop i text ≡ d ∷ drop (i + 1) text = rw (add-one, drop-cons text i 0) refl in
    ap (λ (k : ℕ). numeral_after k (drop (i + 1) text)) (e ∙ ap (λ (v : ℕ). min (n * 10 + v) (2 ^ 64 - 1)) is)
    ∙ one_digit (is_digit d) n d (drop (i + 1) text) digit
    ∙ sym (ap (numeral_after n) split)
