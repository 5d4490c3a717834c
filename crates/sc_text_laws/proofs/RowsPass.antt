-- No limit is passed at the tokens of a row.
use Rattle.std.proofs.Common.{◌≡◌, ◌∙◌, sym, ap, subst, refl, ℕ, ◌+◌, Bool, true, false, List, [], ◌∷◌, ◌++◌, append_assoc, Option, Some, None}
use Rattle.std.specs.Prelude.{◌&&◌, ◌==◌, codes, decimal, if◌then◌else◌}
use Rattle.std.specs.List.{AllByRecursion, list_all}
use Rattle.std.proofs.lemmas.Bool.{eqb-true}
use Rattle.std.proofs.lemmas.List.{append-nil}
use Rattle.sc_term.proofs.SubstitutionLaws.{all_split, all_join}
use Rattle.sc_term.specs.declared.symbol.Role.{Role}
use Rattle.sc_term.specs.declared.symbol.Role.TheVariants.{Function, Predicate}
use Rattle.sc_term.specs.declared.symbol.Symbol.{Symbol}
use Rattle.sc_input_rules.specs.declared.token.Token.{Token}
use Rattle.sc_input_rules.specs.declared.token.Token.TheVariants.{Word, Punctuation}
use Rattle.sc_input_rules.specs.declared.token.Sign.TheVariants.{Open, Stop, Colon}
use Rattle.sc_input_rules.specs.Token.{is_sign, is_word, same_text}
use Rattle.sc_input_rules.specs.Tokens.{is_digit}
use Rattle.sc_input_rules.specs.ClauseLimits.{when}
use Rattle.sc_input_rules.proofs.Booleans.{parts_hold}
use Rattle.sc_text_rules.specs.TextPosition.{Formula, behind_first, is_table_row, is_instance, last_term, clause_or_term, formula}
use Rattle.sc_text_rules.specs.TextLimits.{large_number}
use Rattle.sc_text_run_rules.specs.ModelText.{role_word}
use Rattle.sc_text_laws.proofs.Walks.{Walk, walk_splits}
use Rattle.sc_text_laws.proofs.WordTokens.{past}
use Rattle.sc_text_laws.proofs.WordRows.{word_tokens}
use Rattle.sc_text_laws.proofs.Passing.{Passes, passes_by}
use Rattle.sc_text_laws.proofs.StepSpelling.{QuietWord}
use Rattle.sc_text_laws.proofs.StepClear.{nothing_measured}

-- ---- formulas behind a word

abbrev pub HasNoColon : List Token → Type 0
HasNoColon ts = AllByRecursion (λ t. is_sign Colon t ≡ false) ts

none_before : (test : Token → Bool) (xs ys : List Token) → AllByRecursion (λ t. test t ≡ false) xs → behind_first test (xs ++ ys) ≡ behind_first test ys
none_before test [] ys h = refl
none_before test (x ∷ xs) ys h = ap (λ (b : Bool). if b then Some (xs ++ ys) else behind_first test (xs ++ ys)) h.0 ∙ none_before test xs ys h.1

abbrev terms_in : List Token → Option Formula
terms_in sentence = elim (is_instance sentence) [
  | true ↦ elim (behind_first (is_sign Open) sentence) [ Some tokens ↦ Some (record { is_term = true; tokens = last_term 0 [] tokens }) | None ↦ None ]
  | false ↦ None
]

-- of a sentence that begins with a word that isn't that of a table
module _ (at : ℕ) (w : List ℕ) (row : is_table_row (Word at w ∷ []) ≡ false) where
  abbrev first : Token
  first = Word at w

  by_colon : (ts : List Token) (found : Option (List Token)) → behind_first (is_sign Colon) ts ≡ found
      → formula (first ∷ ts) ≡ elim found as (λ _. Option Formula) [ Some tokens ↦ Some (record { is_term = false; tokens = tokens }) | None ↦ terms_in (first ∷ ts) ]
  by_colon ts found e =
      ap (λ (b : Bool). elim b as (λ _. Option Formula) [ true ↦ None | false ↦ clause_or_term (first ∷ ts) ]) row
      ∙ ap (λ (o : Option (List Token)). elim o as (λ _. Option Formula) [ Some tokens ↦ Some (record { is_term = false; tokens = tokens }) | None ↦ terms_in (first ∷ ts) ]) e

  pub formula_clause : (xs : List Token) (colon : ℕ) (ys : List Token) → HasNoColon xs → formula (first ∷ (xs ++ Punctuation colon Colon ∷ ys)) ≡ Some (record { is_term = false; tokens = ys })
  formula_clause xs colon ys h = by_colon (xs ++ Punctuation colon Colon ∷ ys) (Some ys) (none_before (is_sign Colon) xs (Punctuation colon Colon ∷ ys) h)

  pub formula_none : (ts : List Token) → HasNoColon ts → is_instance (first ∷ ts) ≡ false → formula (first ∷ ts) ≡ None
  formula_none ts h e =
      by_colon ts None (ap (behind_first (is_sign Colon)) (sym (append-nil ts)) ∙ none_before (is_sign Colon) ts [] h)
      ∙ ap (λ (b : Bool). elim b as (λ _. Option Formula) [
        | true ↦ elim (behind_first (is_sign Open) (first ∷ ts)) [ Some tokens ↦ Some (record { is_term = true; tokens = last_term 0 [] tokens }) | None ↦ None ]
        | false ↦ None
      ]) e

-- ---- tokens of which nothing is told

-- no colon, and no number out of range
pub record IsQuiet (t : Token) : Type 0 where
  pub colon : is_sign Colon t ≡ false
  pub number : large_number t ≡ None

pub quiet_word : (at : ℕ) (w : List ℕ) → QuietWord w → IsQuiet (Word at w)
quiet_word at w h = record { colon = refl; number = ap (λ (b : Bool). when b (Some at)) h }

pub quiet_words : (at : ℕ) (ws : List (List ℕ)) → AllByRecursion QuietWord ws → AllByRecursion IsQuiet (word_tokens at ws)
quiet_words at [] h = tt
quiet_words at (w ∷ ws) h = (quiet_word at w h.0, quiet_words (past w at + 1) ws h.1)

pub quiet_colons : (ts : List Token) → AllByRecursion IsQuiet ts → HasNoColon ts
quiet_colons [] h = tt
quiet_colons (t ∷ ts) h = let q = h.0 in (q.colon, quiet_colons ts h.1)

pub quiet_stop : (at : ℕ) → IsQuiet (Punctuation at Stop)
quiet_stop at = record { colon = refl; number = refl }

pub words_no_stop : (at : ℕ) (ws : List (List ℕ)) → AllByRecursion (λ t. is_sign Stop t ≡ false) (word_tokens at ws)
words_no_stop at [] = tt
words_no_stop at (w ∷ ws) = (refl, words_no_stop (past w at + 1) ws)

-- the word behind the first isn't `instance`
abbrev pub IsNoStep : List Token → Type 0
IsNoStep [] = Unit {0}
IsNoStep (t ∷ ts) = is_word (codes "instance") t ≡ false

step_front : (us more : List Token) → IsNoStep (us ++ more) → IsNoStep us
step_front [] more h = tt
step_front (u ∷ us) more h = h

digits_differ : (b : ℕ) (bs ds : List ℕ) → is_digit b ≡ false → list_all is_digit ds ≡ true → same_text (b ∷ bs) ds ≡ false
digits_differ b bs [] no_digit e = refl
digits_differ b bs (d ∷ ds) no_digit e = by (b == d) refl
  where
    by : (c : Bool) → (b == d) ≡ c → (c && same_text bs ds) ≡ false
    by true h =
        let p = parts_hold (is_digit d) (list_all is_digit ds) e in
        let is : is_digit b ≡ is_digit d = ap is_digit (eqb-true b d h) in
        absurd cc
    by false h = refl

-- a number is none
pub number_no_step : (n : ℕ) → list_all is_digit (decimal n) ≡ true → same_text (codes "instance") (decimal n) ≡ false
number_no_step n digits = digits_differ 105 (codes "nstance") (decimal n) refl digits

module _ (symbols : List Symbol) (at : ℕ) (w : List ℕ) (row : is_table_row (Word at w ∷ []) ≡ false) where
  no_instance : (us : List Token) → IsNoStep us → is_instance (Word at w ∷ us) ≡ false
  no_instance [] h = refl
  no_instance (u ∷ us) h = h

  pub first_passes : QuietWord w → Passes symbols [] (Word at w)
  first_passes h = let q = quiet_word at w h in passes_by symbols [] (Word at w) None None refl (formula_none at w row [] tt refl) q.number tt

  -- such tokens behind the first word pass
  pub quiet_passes : (ts : List Token) → AllByRecursion IsQuiet ts → IsNoStep ts → Walk (Passes symbols) (Word at w ∷ []) ts
  quiet_passes ts h other =
      walk_splits (Passes symbols) (Word at w ∷ []) ts (λ us t more e.
      let parts = all_split IsQuiet us (t ∷ more) (subst (AllByRecursion IsQuiet) e h) in
      let one = parts.1.0 in
      let longer = e ∙ sym (append_assoc us (t ∷ []) more) in
      let before = step_front us (t ∷ more) (subst IsNoStep e other) in
      let behind = step_front (us ++ t ∷ []) more (subst IsNoStep longer other) in
      let all = all_join IsQuiet us (t ∷ []) parts.0 (one, tt) in
      passes_by symbols (Word at w ∷ us) t None None (formula_none at w row us (quiet_colons us parts.0) (no_instance us before))
      (formula_none at w row (us ++ t ∷ []) (quiet_colons (us ++ t ∷ []) all) (no_instance (us ++ t ∷ []) behind)) one.number tt)

  -- and so does a colon behind them
  pub colon_passes : (ts : List Token) (colon : ℕ) → AllByRecursion IsQuiet ts → IsNoStep ts → Passes symbols (Word at w ∷ ts) (Punctuation colon Colon)
  colon_passes ts colon h other =
      let bars = quiet_colons ts h in
      passes_by symbols (Word at w ∷ ts) (Punctuation colon Colon) None (Some (record { is_term = false; tokens = [] })) (formula_none at w row ts bars (no_instance ts other)) (formula_clause at w row ts colon [] bars) refl nothing_measured

-- ---- tables

-- no formula stands behind the word of a table
table_formula : (role : Role) (at : ℕ) (ts : List Token) → formula (Word at (role_word role) ∷ ts) ≡ None
table_formula Function at ts = refl
table_formula Predicate at ts = refl

role_passes : (symbols : List Symbol) (role : Role) (at : ℕ) → Passes symbols [] (Word at (role_word role))
role_passes symbols Function at = refl
role_passes symbols Predicate at = refl

name_passes : (symbols : List Symbol) (role : Role) (at p : ℕ) (name : List ℕ) → Passes symbols (Word at (role_word role) ∷ []) (Word p name)
name_passes symbols Function at p name = refl
name_passes symbols Predicate at p name = refl

module _ (symbols : List Symbol) (role : Role) (at p : ℕ) (name : List ℕ) where
  abbrev head : List Token
  head = Word at (role_word role) ∷ Word p name ∷ []

  pub table_passes : (ts : List Token) → AllByRecursion (λ t. large_number t ≡ None) ts → Walk (Passes symbols) [] (Word at (role_word role) ∷ Word p name ∷ ts)
  table_passes ts h = (
    role_passes symbols role at,
    (
      name_passes symbols role at p name,
      walk_splits (Passes symbols) head ts (λ us t more e.
          let parts = all_split (λ t. large_number t ≡ None) us (t ∷ more) (subst (AllByRecursion (λ t. large_number t ≡ None)) e h) in
          passes_by symbols (head ++ us) t None None (table_formula role at (Word p name ∷ us)) (table_formula role at (Word p name ∷ (us ++ t ∷ []))) parts.1.0 tt),
    ),
  )
