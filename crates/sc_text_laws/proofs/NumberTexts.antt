-- Numbers and variables as words.
use Rattle.std.proofs.Common.{◌≡◌, ◌∙◌, ap, refl, ℕ, ◌<◌, ◌^◌, Bool, true, false, List, [], ◌∷◌, ◌++◌, length, Some, None, arith, not, ◌||◌}
use Rattle.std.specs.Prelude.{◌&&◌, ◌==◌, nat_le, if◌then◌else◌, codes, decimal}
use Rattle.std.specs.List.{list_all}
use Rattle.std.specs.Str.Parse.{digits_value}
use Rattle.std.proofs.lemmas.Bool.{eqb-true, leb-true, le-leb}
use Rattle.std.proofs.lemmas.Fmt.{digits_decimal, digits_value-decimal, decimal_nonempty}
use Rattle.std.proofs.lemmas.Str.Parse.{IsDigitsTest, numerals_by_value}
use Rattle.sc_input_rules.specs.Tokens.{is_digit, is_letter, is_one_of, is_word_byte, begins}
use Rattle.sc_input_rules.specs.Numbering.{is_variable}
use Rattle.sc_input_rules.specs.declared.written.Occurrence.{Occurrence}
use Rattle.sc_input_rules.proofs.Booleans.{both_hold, parts_hold}
use Rattle.sc_text_rules.specs.TextWords.{digits_behind_x, is_some_digits, is_numbered_variable, text_variable}
use Rattle.sc_text_laws.specs.Printable.{is_name_byte, is_name}

-- ---- digits

abbrev AreDigits : List ℕ → Type 0
AreDigits ds = list_all is_digit ds ≡ true

tells_digits : IsDigitsTest AreDigits
tells_digits = record {
  empty = refl;
  parts = λ c cs e. let k = parts_hold (is_digit c) (list_all is_digit cs) e in let m = parts_hold (nat_le 48 c) (nat_le c 57) k.0 in ((leb-true 48 c m.0, leb-true c 57 m.1), k.1);
  more = λ c cs k e. both_hold (is_digit c) (list_all is_digit cs) (both_hold (nat_le 48 c) (nat_le c 57) (le-leb 48 c k.0) (le-leb c 57 k.1)) e;
}

pub all_digits : (n : ℕ) → n < 2 ^ 64 → list_all is_digit (decimal n) ≡ true
all_digits n h = digits_decimal (numerals_by_value AreDigits tells_digits) n h

pub value_back : (n : ℕ) → n < 2 ^ 64 → digits_value 10 (decimal n) ≡ n
value_back n h = digits_value-decimal (numerals_by_value AreDigits tells_digits) n h

second_holds : (l d o : Bool) → d ≡ true → (l || d || o) ≡ true
second_holds true d o e = refl
second_holds false d o e = ap (λ (d : Bool). d || o) e

digit_in_name : (b : ℕ) → is_digit b ≡ true → is_name_byte b ≡ true
digit_in_name b e = both_hold (is_word_byte b) (not (b == 36)) (second_holds (is_letter b) (is_digit b) (is_one_of (codes "_$") b) e) (by (b == 36) refl)
  where
    by : (c : Bool) → (b == 36) ≡ c → not c ≡ true
    by true h =
        let is : is_digit b ≡ is_digit 36 = ap is_digit (eqb-true b 36 h) in
        absurd cc
    by false h = refl

digits_in_name : (ds : List ℕ) → list_all is_digit ds ≡ true → list_all is_name_byte ds ≡ true
digits_in_name [] e = refl
digits_in_name (d ∷ ds) e =
    let p = parts_hold (is_digit d) (list_all is_digit ds) e in
    both_hold (is_name_byte d) (list_all is_name_byte ds) (digit_in_name d p.0) (digits_in_name ds p.1)

some_name : (ds : List ℕ) → 0 < length ds → list_all is_name_byte ds ≡ true → is_name ds ≡ true
some_name [] h e = absurd (omega arith)
some_name (d ∷ ds) h e = e

pub number_is_name : (n : ℕ) → n < 2 ^ 64 → is_name (decimal n) ≡ true
number_is_name n h = some_name (decimal n) (decimal_nonempty n h) (digits_in_name (decimal n) (all_digits n h))

-- ---- variables

pub variable_is_name : (n : ℕ) → n < 2 ^ 64 → is_name (codes "x" ++ decimal n) ≡ true
variable_is_name n h = digits_in_name (decimal n) (all_digits n h)

some_digits : (ds : List ℕ) → 0 < length ds → is_some_digits ds ≡ true
some_digits [] h = absurd (omega arith)
some_digits (d ∷ ds) h = refl

pub behind_x : (n : ℕ) → n < 2 ^ 64 → digits_behind_x (codes "x" ++ decimal n) ≡ decimal n
behind_x n h = ap (λ (b : Bool). if b then decimal n else []) (all_digits n h)

pub is_numbered : (at n : ℕ) → n < 2 ^ 64 → is_numbered_variable (record { at = at; name = codes "x" ++ decimal n; arity = 0 }) ≡ true
is_numbered at n h = ap is_some_digits (behind_x n h) ∙ some_digits (decimal n) (decimal_nonempty n h)

pub variable_back : (at n : ℕ) → n < 2 ^ 64 → text_variable (record { at = at; name = codes "x" ++ decimal n; arity = 0 }) ≡ Some n
variable_back at n h =
    let value = ap (digits_value 10) (behind_x n h) ∙ value_back n h in
    (λ i. if is_numbered at n h i then Some (value i) else None)

-- ---- names that are no variable

first_byte : (b : ℕ) (bs : List ℕ) → is_some_digits (digits_behind_x (b ∷ bs)) ≡ true → begins (λ b. nat_le 117 b && nat_le b 122) (b ∷ bs) ≡ true
first_byte b bs e = by (b == 120) refl e
  where
    by : (c : Bool) → (b == 120) ≡ c → is_some_digits (if c && list_all is_digit bs then bs else []) ≡ true → (nat_le 117 b && nat_le b 122) ≡ true
    by true h e = ap (λ (b : ℕ). nat_le 117 b && nat_le b 122) (eqb-true b 120 h)
    by false h e = absurd cc

variable_name : (name : List ℕ) → is_some_digits (digits_behind_x name) ≡ true → begins (λ b. nat_le 117 b && nat_le b 122) name ≡ true
variable_name [] e = absurd cc
variable_name (b ∷ bs) e = first_byte b bs e

pub numbered_is_variable : (o : Occurrence) → is_numbered_variable o ≡ true → is_variable o ≡ true
numbered_is_variable o e =
    let p = parts_hold (o.arity == 0) (is_some_digits (digits_behind_x o.name)) e in
    both_hold (o.arity == 0) (begins (λ b. nat_le 117 b && nat_le b 122) o.name) p.0 (variable_name o.name p.1)

pub no_variable : (o : Occurrence) → is_variable o ≡ false → text_variable o ≡ None
no_variable o e = by (is_numbered_variable o) refl
  where
    by : (b : Bool) → is_numbered_variable o ≡ b → (if b then Some (digits_value 10 (digits_behind_x o.name)) else None) ≡ None
    by true h = let v = numbered_is_variable o h in absurd cc
    by false h = refl
