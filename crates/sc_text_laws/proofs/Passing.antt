-- When no limit is passed at a token of a sentence, and what formula its tokens are.
use Rattle.std.proofs.Common.{◌≡◌, ◌∙◌, ap, refl, ℕ, Bool, true, false, List, [], ◌∷◌, ◌++◌, drop, Option, Some, None}
use Rattle.std.specs.Prelude.{◌&&◌, ◌||◌, ◌==◌, codes, option_and_then, if◌then◌else◌}
use Rattle.std.specs.List.{AllByRecursion, list_all}
use Rattle.std.proofs.lemmas.Bool.{eqb-true, le-ltb}
use Rattle.sc_term.specs.declared.symbol.Symbol.{Symbol}
use Rattle.sc_input_rules.specs.declared.fault.InputKind.{InputKind}
use Rattle.sc_input_rules.specs.declared.fault.InputKind.TheVariants.{UnknownName, OutOfRange, TooMany, TooHeavy, TooDeep}
use Rattle.sc_input_rules.specs.declared.fault.Place.{Place}
use Rattle.sc_input_rules.specs.declared.token.Token.{Token}
use Rattle.sc_input_rules.specs.declared.token.Token.TheVariants.{Word, Punctuation}
use Rattle.sc_input_rules.specs.declared.token.Sign.TheVariants.{Open, Colon}
use Rattle.sc_input_rules.specs.Token.{is_sign, same_text}
use Rattle.sc_input_rules.specs.Tokens.{is_digit}
use Rattle.sc_input_rules.specs.Measures.{weight_so_far, depth_so_far, arguments_so_far}
use Rattle.sc_input_rules.specs.Faults.{place, passed}
use Rattle.sc_input_rules.specs.ClauseLimits.{when, last_at, arity_told, weight_told, depth_told}
use Rattle.sc_input_rules.proofs.Booleans.{parts_hold}
use Rattle.sc_text_rules.specs.TextPosition.{TextPosition, Formula, behind_first, last_term, is_table_row, is_instance, clause_or_term, formula}
use Rattle.sc_text_rules.specs.TextLimits.{name_told, variable_told, large_number, is_table_name, number_told, of_formula, text_bounds, text_limits}
use Rattle.sc_text_laws.proofs.NamesKnown.{NameClear}
use Rattle.sc_text_laws.proofs.ClauseClear.{Measured}

-- ---- one token

abbrev pub Passes : List Symbol → List Token → Token → Type 0
Passes symbols front t = passed (text_limits text_bounds symbols) (record { earlier = front; last = t }) ≡ None

abbrev NamesOf : List Symbol → Option Formula → Token → Type 0
NamesOf symbols None t = large_number t ≡ None
NamesOf symbols (Some f) t = NameClear symbols f.is_term f.tokens t

abbrev MeasuresOf : Option Formula → Type 0
MeasuresOf None = Unit {0}
MeasuresOf (Some f) = Measured f.tokens

then_none : (kind : InputKind) (o : Option ℕ) (p : Option Place) → o ≡ None → (elim o as (λ _. Option Place) [ Some at ↦ Some (place at kind) | None ↦ p ]) ≡ p
then_none kind o p e = ap (λ (o : Option ℕ). elim o as (λ _. Option Place) [ Some at ↦ Some (place at kind) | None ↦ p ]) e

measured_arity : (ts : List Token) → Measured ts → arity_told text_bounds ts ≡ None
measured_arity ts m = ap (λ (b : Bool). when b (last_at ts)) (le-ltb 7 (arguments_so_far ts) m.arity)

measured_weight : (ts : List Token) → Measured ts → weight_told text_bounds ts ≡ None
measured_weight ts m = ap (λ (b : Bool). when b (last_at ts)) (le-ltb 10000 (weight_so_far ts) m.weight)

measured_depth : (ts : List Token) → Measured ts → depth_told text_bounds ts ≡ None
measured_depth ts m = ap (λ (b : Bool). when b (last_at ts)) (le-ltb 256 (depth_so_far ts) m.depth)

of_measured : (told : List Token → Option ℕ) → ((ts : List Token) → Measured ts → told ts ≡ None) → (f : Option Formula) → MeasuresOf f → option_and_then (λ (f : Formula). told f.tokens) f ≡ None
of_measured told h None m = refl
of_measured told h (Some f) m = h f.tokens m

-- nothing is told, by the formulas before and behind the token
pub passes_by : (symbols : List Symbol) (front : List Token) (t : Token) (before after : Option Formula) → formula front ≡ before → formula (front ++ t ∷ []) ≡ after → NamesOf symbols before t → MeasuresOf after → Passes symbols front t
passes_by symbols front t before after b a names measures =
    let p : TextPosition = record { earlier = front; last = t } in
    let behind = λ (n : ℕ). passed (drop n (text_limits text_bounds symbols)) p in
    then_none UnknownName (name_told symbols p) (behind 1) (unknown before b names)
    ∙ then_none OutOfRange (variable_told p) (behind 2) (large before b names)
    ∙ then_none OutOfRange (number_told p) (behind 3) (number before b names)
    ∙ then_none TooMany (of_formula (arity_told text_bounds) p) (behind 4) (measure (arity_told text_bounds) measured_arity)
    ∙ then_none TooHeavy (of_formula (weight_told text_bounds) p) (behind 5) (measure (weight_told text_bounds) measured_weight)
    ∙ then_none TooDeep (of_formula (depth_told text_bounds) p) None (measure (depth_told text_bounds) measured_depth)
  where
    measure : (told : List Token → Option ℕ) → ((ts : List Token) → Measured ts → told ts ≡ None) → option_and_then (λ (f : Formula). told f.tokens) (formula (front ++ t ∷ [])) ≡ None
    measure told h = ap (option_and_then (λ (f : Formula). told f.tokens)) a ∙ of_measured told h after measures

    unknown : (before : Option Formula) → formula front ≡ before → NamesOf symbols before t → name_told symbols (record { earlier = front; last = t }) ≡ None
    unknown None e names = ap (option_and_then _) e
    unknown (Some f) e names = ap (option_and_then _) e ∙ names.known

    large : (before : Option Formula) → formula front ≡ before → NamesOf symbols before t → variable_told (record { earlier = front; last = t }) ≡ None
    large None e names = ap (option_and_then _) e
    large (Some f) e names = ap (option_and_then _) e ∙ names.small

    choose : (b : Bool) (o : Option ℕ) → o ≡ None → (if b then None else o) ≡ None
    choose true o e = refl
    choose false o e = e

    number : (before : Option Formula) → formula front ≡ before → NamesOf symbols before t → number_told (record { earlier = front; last = t }) ≡ None
    number None e names =
        ap (λ (f : Option Formula). elim f as (λ _. Option ℕ) [ None ↦ (if is_table_name front then None else large_number t) | Some f ↦ None ]) e ∙ choose (is_table_name front) (large_number t) names
    number (Some f) e names = ap (λ (f : Option Formula). elim f as (λ _. Option ℕ) [ None ↦ (if is_table_name front then None else large_number t) | Some f ↦ None ]) e

-- ---- formulas

abbrev pub HasNoColon : List Token → Type 0
HasNoColon ts = AllByRecursion (λ t. is_sign Colon t ≡ false) ts

none_before : (test : Token → Bool) (xs ys : List Token) → AllByRecursion (λ t. test t ≡ false) xs → behind_first test (xs ++ ys) ≡ behind_first test ys
none_before test [] ys h = refl
none_before test (x ∷ xs) ys h = ap (λ (b : Bool). if b then Some (xs ++ ys) else behind_first test (xs ++ ys)) h.0 ∙ none_before test xs ys h.1

none_at_all : (test : Token → Bool) (xs : List Token) → AllByRecursion (λ t. test t ≡ false) xs → behind_first test xs ≡ None
none_at_all test [] h = refl
none_at_all test (x ∷ xs) h = ap (λ (b : Bool). if b then Some xs else behind_first test xs) h.0 ∙ none_at_all test xs h.1

digits_differ : (b : ℕ) (bs ds : List ℕ) → is_digit b ≡ false → list_all is_digit ds ≡ true → same_text (b ∷ bs) ds ≡ false
digits_differ b bs [] no_digit e = refl
digits_differ b bs (d ∷ ds) no_digit e = by (b == d) refl
  where
    by : (c : Bool) → (b == d) ≡ c → (c && same_text bs ds) ≡ false
    by true h =
        let p = parts_hold (is_digit d) (list_all is_digit ds) e in
        let is : is_digit b ≡ is_digit d = ap is_digit (eqb-true b d h) in
        absurd cc
    by false h = refl

-- sentences that begin with a number
module _ (at : ℕ) (w : List ℕ) (digits : list_all is_digit w ≡ true) where
  abbrev number : Token
  number = Word at w

  no_row : (ts : List Token) → is_table_row (number ∷ ts) ≡ false
  no_row ts =
      let f = digits_differ 102 (codes "unction") w refl digits in
      let p = digits_differ 112 (codes "redicate") w refl digits in
      (λ i. f i || p i)

  as_formula : (ts : List Token) → formula (number ∷ ts) ≡ clause_or_term (number ∷ ts)
  as_formula ts = ap (λ (b : Bool). elim b [ true ↦ None | false ↦ clause_or_term (number ∷ ts) ]) (no_row ts)

  abbrev terms_in : List Token → Option Formula
  terms_in sentence = elim (is_instance sentence) [
    | true ↦ elim (behind_first (is_sign Open) sentence) [ Some tokens ↦ Some (record { is_term = true; tokens = last_term 0 [] tokens }) | None ↦ None ]
    | false ↦ None
  ]

  by_colon : (ts : List Token) (found : Option (List Token)) → behind_first (is_sign Colon) ts ≡ found
      → formula (number ∷ ts) ≡ elim found as (λ _. Option Formula) [ Some tokens ↦ Some (record { is_term = false; tokens = tokens }) | None ↦ terms_in (number ∷ ts) ]
  by_colon ts found e =
      as_formula ts ∙ ap (λ (o : Option (List Token)). elim o as (λ _. Option Formula) [ Some tokens ↦ Some (record { is_term = false; tokens = tokens }) | None ↦ terms_in (number ∷ ts) ]) e

  pub formula_is_clause : (xs : List Token) (colon : ℕ) (ys : List Token) → HasNoColon xs → formula (number ∷ (xs ++ Punctuation colon Colon ∷ ys)) ≡ Some (record { is_term = false; tokens = ys })
  formula_is_clause xs colon ys h = by_colon (xs ++ Punctuation colon Colon ∷ ys) (Some ys) (none_before (is_sign Colon) xs (Punctuation colon Colon ∷ ys) h)

  pub formula_is_none : (ts : List Token) → HasNoColon ts → is_instance (number ∷ ts) ≡ false → formula (number ∷ ts) ≡ None
  formula_is_none ts h e =
      by_colon ts None (none_at_all (is_sign Colon) ts h)
      ∙ ap (λ (b : Bool). elim b as (λ _. Option Formula) [
        | true ↦ elim (behind_first (is_sign Open) (number ∷ ts)) [ Some tokens ↦ Some (record { is_term = true; tokens = last_term 0 [] tokens }) | None ↦ None ]
        | false ↦ None
      ]) e

  pub formula_is_term : (i j o : ℕ) (v : List ℕ) (us : List Token) → HasNoColon us
      → formula (number ∷ Word i (codes "instance") ∷ Word j v ∷ Punctuation o Open ∷ us) ≡ Some (record { is_term = true; tokens = last_term 0 [] us })
  formula_is_term i j o v us h = by_colon (Word i (codes "instance") ∷ Word j v ∷ Punctuation o Open ∷ us) None (none_at_all (is_sign Colon) us h)

  pub formula_is_open : (i : ℕ) → formula (number ∷ Word i (codes "instance") ∷ []) ≡ None
  formula_is_open i = by_colon (Word i (codes "instance") ∷ []) None refl

  pub formula_is_still_open : (i j : ℕ) (v : List ℕ) → formula (number ∷ Word i (codes "instance") ∷ Word j v ∷ []) ≡ None
  formula_is_still_open i j v = by_colon (Word i (codes "instance") ∷ Word j v ∷ []) None refl
