-- The limits of a token, in two parts.
use Rattle.std.proofs.Common.{◌≡◌, ◌∙◌, sym, ap, refl, ℕ, ◌≤◌, Bool, true, false, ◌&&◌, List, [], ◌∷◌, ◌++◌, length, arith}
use Rattle.std.specs.Prelude.{Option, Some, None, option_map, option_and_then, ◌==◌, if◌then◌else◌}
use Rattle.std.proofs.lemmas.Bool.{eqb-true}
use Rattle.sc_term.specs.declared.symbol.Symbol.{Symbol}
use Rattle.sc_input_rules.specs.declared.fault.InputKind.TheVariants.{UnknownName, OutOfRange, TooMany, TooHeavy, TooDeep}
use Rattle.sc_input_rules.specs.declared.fault.Place.{Place}
use Rattle.sc_input_rules.specs.declared.token.Token.{Token}
use Rattle.sc_input_rules.specs.declared.token.Sign.TheVariants.{Open, Colon}
use Rattle.sc_input_rules.specs.Token.{is_sign}
use Rattle.sc_input_rules.specs.declared.written.Occurrence.{Occurrence}
use Rattle.sc_input_rules.specs.Faults.{Limit, place, passed}
use Rattle.sc_input_rules.specs.ClauseLimits.{when, arity_told, weight_told, depth_told}
use Rattle.sc_text_rules.specs.TextWords.{is_large_variable}
use Rattle.sc_text_rules.specs.TextPosition.{TextPosition, Formula, behind_first, is_table_row, is_instance, formula, ended_name, in_term_place}
use Rattle.sc_text_rules.specs.TextLimits.{is_unknown, large_number, is_table_name, of_formula, text_bounds, text_limits}
use Rattle.sc_text_limits.specs.declared.part.SentencePart.{SentencePart}
use Rattle.sc_text_limits.specs.declared.part.SentencePart.TheVariants.{Start, First, FirstOpen, RowName, Row, Step, Instance, Terms, Clause}
use Rattle.sc_text_limits.specs.Parts.{part_of, formula_in, Stands}
use Rattle.sc_text_limits.specs.Limits.{limits_before, fault_in_formula, fault_of_name, fault_of_ended}
use Rattle.sc_text_limits.proofs.Sentences.{at_last}
use Rattle.sc_text_limits.proofs.OneToken.{part_by, part_first}

-- ---- both parts

abbrev pub or_else : Option Place → Option Place → Option Place
or_else o p = elim o [ Some q ↦ Some q | None ↦ p ]

abbrev pub limits_behind : List (Limit TextPosition)
limits_behind =
    record { kind = TooMany; told = of_formula (arity_told text_bounds) } ∷ record { kind = TooHeavy; told = of_formula (weight_told text_bounds) }
    ∷ record { kind = TooDeep; told = of_formula (depth_told text_bounds) } ∷ []

passed_split : {X : Type 0} (ls ms : List (Limit X)) (x : X) → passed (ls ++ ms) x ≡ or_else (passed ls x) (passed ms x)
passed_split [] ms x = refl
passed_split (l ∷ ls) ms x = by (l.told x) (passed_split ls ms x)
  where
    by : (o : Option ℕ) → passed (ls ++ ms) x ≡ or_else (passed ls x) (passed ms x)
        → (elim o [ Some at ↦ Some (place at l.kind) | None ↦ passed (ls ++ ms) x ]) ≡ or_else (elim o [ Some at ↦ Some (place at l.kind) | None ↦ passed ls x ]) (passed ms x)
    by (Some at) e = refl
    by None e = e

pub both_parts : (symbols : List Symbol) (p : TextPosition) → passed (text_limits text_bounds symbols) p ≡ or_else (passed (limits_before symbols) p) (passed limits_behind p)
both_parts symbols p = passed_split (limits_before symbols) limits_behind p

-- ---- of the formula

abbrev behind_by : Option Formula → Option Place
behind_by o =
    passed (
    record { kind = TooMany; told = λ (o : Option Formula). option_and_then (λ f. arity_told text_bounds f.tokens) o } ∷ record { kind = TooHeavy; told = λ o. option_and_then (λ f. weight_told text_bounds f.tokens) o }
    ∷ record { kind = TooDeep; told = λ o. option_and_then (λ f. depth_told text_bounds f.tokens) o } ∷ [])
    o

pub behind_last : (sentence tokens : List Token) (t : Token) (p : SentencePart) → Stands (sentence ++ t ∷ []) p tokens → passed limits_behind (at_last sentence t) ≡ fault_in_formula tokens
behind_last sentence tokens t p h = ap behind_by h.so_far ∙ by p h.none
  where
    by : (p : SentencePart) → (formula_in p tokens ≡ None → tokens ≡ []) → behind_by (formula_in p tokens) ≡ fault_in_formula tokens
    by Start n = ap fault_in_formula (sym (n refl))
    by First n = ap fault_in_formula (sym (n refl))
    by FirstOpen n = ap fault_in_formula (sym (n refl))
    by RowName n = ap fault_in_formula (sym (n refl))
    by Row n = ap fault_in_formula (sym (n refl))
    by Step n = ap fault_in_formula (sym (n refl))
    by Instance n = ap fault_in_formula (sym (n refl))
    by Terms n = refl
    by Clause n = refl

-- ---- of the name and the number

abbrev told_by : List Symbol → Option Formula → Bool → Token → Option Place
told_by symbols o row last =
    passed (
    record { kind = UnknownName; told = λ (o : Option Formula). option_and_then (λ f. option_and_then (λ n. when (is_unknown symbols (in_term_place f last) n) (Some n.at)) (ended_name f.tokens last)) o }
    ∷ record { kind = OutOfRange; told = λ o. option_and_then (λ f. option_and_then (λ n. when (in_term_place f last && is_large_variable n) (Some n.at)) (ended_name f.tokens last)) o }
    ∷ record { kind = OutOfRange; told = λ o. elim o [ None ↦ (if row then None else large_number last) | Some f ↦ None ] } ∷ [])
    o

pub before_name : (symbols : List Symbol) (sentence : List Token) (f : Formula) (t : Token) → formula sentence ≡ Some f → passed (limits_before symbols) (at_last sentence t) ≡ fault_of_ended symbols f t
before_name symbols sentence f t e = ap (λ (o : Option Formula). told_by symbols o (is_table_name sentence) t) e ∙ by (ended_name f.tokens t)
  where
    by_tests : (unknown large : Bool) (at : ℕ)
        → (elim (when unknown (Some at)) [ Some at ↦ Some (place at UnknownName) | None ↦ elim (when large (Some at)) [ Some at ↦ Some (place at OutOfRange) | None ↦ None ] ])
        ≡ (if unknown then Some (place at UnknownName) else if large then Some (place at OutOfRange) else None)
    by_tests true large at = refl
    by_tests false true at = refl
    by_tests false false at = refl

    by : (o : Option Occurrence)
        → (elim (option_and_then (λ n. when (is_unknown symbols (in_term_place f t) n) (Some n.at)) o) [
          | Some at ↦ Some (place at UnknownName)
          | None ↦ elim (option_and_then (λ n. when (in_term_place f t && is_large_variable n) (Some n.at)) o) [ Some at ↦ Some (place at OutOfRange) | None ↦ None ]
        ])
        ≡ option_and_then (λ n. fault_of_name symbols (in_term_place f t) n) o
    by None = refl
    by (Some n) = by_tests (is_unknown symbols (in_term_place f t) n) (in_term_place f t && is_large_variable n) n.at

-- in the name of a row no number is told
abbrev pub is_row_name : SentencePart → Bool
is_row_name Start = false
is_row_name First = false
is_row_name FirstOpen = false
is_row_name RowName = true
is_row_name Row = false
is_row_name Step = false
is_row_name Instance = false
is_row_name Terms = false
is_row_name Clause = false

not_one : (n : ℕ) → 2 ≤ n → (n == 1) ≡ false
not_one n h = by (n == 1) refl
  where
    by : (b : Bool) → (n == 1) ≡ b → b ≡ false
    by true e = absurd (let z = eqb-true n 1 e in omega arith)
    by false e = refl

row_name : (sentence : List Token) → is_table_name sentence ≡ is_row_name (part_of sentence)
row_name [] = refl
row_name (a ∷ []) = by (is_table_row (a ∷ [])) (is_sign Colon a) (is_sign Open a)
  where
    by : (row c o : Bool) → row ≡ is_row_name (part_first row c o)
    by true c o = refl
    by false true o = refl
    by false false true = refl
    by false false false = refl
row_name (a ∷ b ∷ rest) =
    ap (λ (one : Bool). one && is_table_row (a ∷ [])) (not_one (length (a ∷ b ∷ rest)) (omega arith))
    ∙ by (is_table_row (a ∷ [])) (is_instance (a ∷ b ∷ rest)) (behind_first (is_sign Colon) (a ∷ b ∷ rest)) (behind_first (is_sign Open) (a ∷ b ∷ rest))
  where
    by : (row i : Bool) (c o : Option (List Token)) → false ≡ is_row_name (part_by row c i o)
    by true i c o = refl
    by false i (Some ts) o = refl
    by false true None (Some ts) = refl
    by false true None None = refl
    by false false None o = refl

pub before_number : (symbols : List Symbol) (sentence tokens : List Token) (p : SentencePart) (t : Token) → Stands sentence p tokens → formula_in p tokens ≡ None
    → passed (limits_before symbols) (at_last sentence t) ≡ (if is_row_name p then None else option_map (λ at. place at OutOfRange) (large_number t))
before_number symbols sentence tokens p t h e =
    ap (λ (o : Option Formula). told_by symbols o (is_table_name sentence) t) (h.so_far ∙ e)
    ∙ ap (λ (row : Bool). told_by symbols None row t) (row_name sentence ∙ ap is_row_name (sym h.part)) ∙ by (is_row_name p) (large_number t)
  where
    by : (row : Bool) (o : Option ℕ) → (elim (if row then None else o) [ Some at ↦ Some (place at OutOfRange) | None ↦ None ]) ≡ (if row then None else option_map (λ at. place at OutOfRange) o)
    by true o = refl
    by false None = refl
    by false (Some at) = refl
