-- Where no limit is passed, the numbers of a step are small.
use Rattle.std.proofs.Common.{◌≡◌, ◌∙◌, sym, ap, subst, refl, ◌≤◌, Bool, true, false, List, [], ◌∷◌, ◌++◌, length, Option, Some, None, Ok, arith}
use Rattle.std.specs.Prelude.{ℕ, suc, ◌==◌, ◌&&◌, ◌||◌, nat_lt, if◌then◌else◌, codes}
use Rattle.std.specs.List.{list_all}
use Rattle.std.specs.Str.Parse.{digits_value}
use Rattle.std.specs.Cmp.Lexicographic.{bytes_decides}
use Rattle.std.proofs.lemmas.Bool.{leb-false}
use Rattle.sc_term.proofs.SubstitutionLaws.{all_join}
use Rattle.sc_term.specs.declared.symbol.Symbol.{Symbol}
use Rattle.sc_input_rules.specs.declared.token.Token.{Token}
use Rattle.sc_input_rules.specs.declared.token.Token.TheVariants.{Word}
use Rattle.sc_input_rules.specs.declared.token.Sign.TheVariants.{Stop, Colon}
use Rattle.sc_input_rules.specs.Token.{is_sign, same_text}
use Rattle.sc_input_rules.specs.Tokens.{is_digit}
use Rattle.sc_input_rules.specs.Reader.{Name, unexpected, a_word}
use Rattle.sc_input_rules.proofs.Booleans.{parts_hold, neither}
use Rattle.sc_input_rules.proofs.Taken.{Gives, both, same, word_taken}
use Rattle.sc_input_rules.proofs.ClauseWithin.{not_when}
use Rattle.sc_text_rules.specs.TextWords.{is_longer_or_above, a_number_such, a_number}
use Rattle.sc_text_rules.specs.TextPosition.{is_table_row, Formula, formula}
use Rattle.sc_text_rules.specs.TextLimits.{large_number, is_table_name, number_told}
use Rattle.sc_input_rules.proofs.Standing.{HasNoStop}
use Rattle.sc_text.proofs.TextStanding.{InSentence, further, clear_at}
use Rattle.sc_text.proofs.InFormulas.{HasNoColon, no_formula}

-- ---- digits

pub record DigitsRead (ts : List Token) (n : ℕ) (left : List Token) : Type 0 where
  pub at : ℕ
  pub text : List ℕ
  pub tokens : ts ≡ Word at text ∷ left
  pub digits : list_all is_digit text ≡ true
  pub value : digits_value 10 text ≡ n

pub digits_read : (test : ℕ → Bool) (ts : List Token) (n : ℕ) (left : List Token) → Gives (a_number_such test ts) n left → DigitsRead ts n left
digits_read test ts n left e =
    let b = both (a_word ts) _ n left e in
    let t = word_taken ts b.value b.left b.first in
    by b.value b.left (list_all is_digit b.value.text) (test (digits_value 10 b.value.text)) refl t.tokens b.second
  where
    by : (v : Name) (us : List Token) (d c : Bool) → list_all is_digit v.text ≡ d → ts ≡ Word v.at v.text ∷ us
        → Gives (elim (d && c) [ true ↦ Ok (digits_value 10 v.text, us) | false ↦ unexpected ts ]) n left → DigitsRead ts n left
    by v us true true h t e =
        let z = same (digits_value 10 v.text) n us left e in
        record { at = v.at; text = v.text; tokens = t ∙ ap (λ us. Word v.at v.text ∷ us) z.left; digits = h; value = z.value }
    by v us true false h t e = absurd cc
    by v us false c h t e = absurd cc

-- digits are none of the words that begin with a letter
letter_first : (b : ℕ) (bs text : List ℕ) → is_digit b ≡ false → list_all is_digit text ≡ true → same_text (b ∷ bs) text ≡ false
letter_first b bs text letter digits = by (same_text (b ∷ bs) text) refl
  where
    by : (c : Bool) → same_text (b ∷ bs) text ≡ c → c ≡ false
    by true e =
        let name : b ∷ bs ≡ text = (bytes_decides (b ∷ bs) text).0 e in
        let all : (is_digit b && list_all is_digit bs) ≡ true = ap (list_all is_digit) name ∙ digits in
        sym (parts_hold (is_digit b) (list_all is_digit bs) all).0 ∙ letter
    by false e = refl

-- a sentence that begins with digits is no row of a table
pub no_row : (at : ℕ) (text : List ℕ) → list_all is_digit text ≡ true → is_table_row (Word at text ∷ []) ≡ false
no_row at text digits = (λ i. letter_first 102 (codes "unction") text refl digits i || letter_first 112 (codes "redicate") text refl digits i)

-- ---- the limit on numbers

large_unless : Bool → Token → Option ℕ
large_unless b t = if b then None else large_number t

pub small_number : (front : List Token) (at : ℕ) (text : List ℕ) → number_told (record { earlier = front; last = Word at text }) ≡ None → formula front ≡ None → is_table_row front ≡ false → list_all is_digit text ≡ true
    → digits_value 10 text ≤ 4294967295
unfolding large_unless
small_number front at text none outside row digits =
    let no_name : is_table_name front ≡ false = ap (λ (b : Bool). (length front == 1) && b) row ∙ and_false (length front == 1) in
    let told : number_told (record { earlier = front; last = Word at text }) ≡ large_number (Word at text) =
    ap (λ (o : Option Formula). elim o [ None ↦ large_unless (is_table_name front) (Word at text) | Some f ↦ None ]) outside ∙ ap (λ (b : Bool). large_unless b (Word at text)) no_name in
    let fits = not_when (list_all is_digit text && is_longer_or_above 4294967295 text) at (Some at) refl (sym told ∙ none) in
    let above = ap (λ (b : Bool). b && is_longer_or_above 4294967295 text) (sym digits) ∙ fits in
    let k = leb-false (suc 4294967295) (digits_value 10 text) (neither (nat_lt 10 (length text)) (nat_lt 4294967295 (digits_value 10 text)) above).1 in
    omega (arith, k)
  where
    and_false : (a : Bool) → (a && false) ≡ false
    and_false true = refl
    and_false false = refl

-- ---- within a step

module _ (symbols : List Symbol) (whole : List Token) (n : ℕ) (number : List ℕ) (m : ℕ) (name : List ℕ) where
  -- the line's number and the step's name stand before the rest, in which is no colon
  pub record InStep (rest ts : List Token) : Type 0 where
    pub sentence : InSentence symbols whole (Word n number ∷ Word m name ∷ rest) ts
    pub colons : HasNoColon rest

  pub record Somewhere (ts : List Token) : Type 0 where
    pub rest : List Token
    pub here : InStep rest ts

  pub step_further : (rest xs ts : List Token) → HasNoStop xs → HasNoColon xs → InStep rest (xs ++ ts) → InStep (rest ++ xs) ts
  step_further rest xs ts stops colons s =
      record {
        sentence = further symbols whole (Word n number ∷ Word m name ∷ rest) xs ts stops s.sentence;
        colons = all_join (λ t. is_sign Colon t ≡ false) rest xs s.colons colons;
      }

  pub one_token : (ts us : List Token) (t : Token) → ts ≡ t ∷ us → is_sign Stop t ≡ false → is_sign Colon t ≡ false → Somewhere ts → Somewhere us
  one_token ts us t e stop colon s = record { rest = s.rest ++ t ∷ []; here = step_further s.rest (t ∷ []) us (stop, tt) (colon, tt) (subst (InStep s.rest) e s.here) }

  pub record NumberRead (rest : List Token) (k : ℕ) (left : List Token) : Type 0 where
    pub at : ℕ
    pub text : List ℕ
    pub small : k ≤ 4294967295
    pub here : InStep (rest ++ Word at text ∷ []) left

  pub number_at : (rest ts : List Token) (k : ℕ) (left : List Token) → is_table_row (Word n number ∷ []) ≡ false → formula (Word n number ∷ Word m name ∷ rest) ≡ None → InStep rest ts → Gives (a_number ts) k left → NumberRead rest k left
  number_at rest ts k left row outside s e =
      let d = digits_read (λ n. true) ts k left e in
      let here = subst (InStep rest) d.tokens s in
      let clear = clear_at symbols whole (Word n number ∷ Word m name ∷ rest) (Word d.at d.text) left here.sentence in
      record {
        at = d.at;
        text = d.text;
        small = subst (λ (k : ℕ). k ≤ 4294967295) d.value (small_number (Word n number ∷ Word m name ∷ rest) d.at d.text clear.number outside row d.digits);
        here = step_further rest (Word d.at d.text ∷ []) left (refl, tt) (refl, tt) here;
      }

  -- a step that isn't an instance
  module _ (row : is_table_row (Word n number ∷ []) ≡ false) (other : same_text (codes "instance") name ≡ false) where
    pub number_read : (ts : List Token) (k : ℕ) (left : List Token) → Somewhere ts → Gives (a_number ts) k left → (k ≤ 4294967295) × Somewhere left
    number_read ts k left s e =
        let r = number_at s.rest ts k left row (no_formula (Word n number ∷ Word m name ∷ s.rest) row (refl, (refl, s.here.colons)) other) s.here e in
        (r.small, record { rest = s.rest ++ Word r.at r.text ∷ []; here = r.here })
