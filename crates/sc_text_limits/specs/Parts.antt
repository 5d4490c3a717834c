-- Where in its sentence the next token stands, as the loop keeps it, and which of the tokens are the clause or term so far.
use Rattle.std.specs.Prelude.{◌≡◌, Bool, true, false, not, ◌&&◌, List, [], ◌∷◌, ◌++◌, Option, Some, None, codes, if◌then◌else◌}
use Rattle.sc_input_rules.specs.declared.token.Token.{Token}
use Rattle.sc_input_rules.specs.declared.token.Sign.TheVariants.{Open, Comma, Stop, Colon}
use Rattle.sc_input_rules.specs.Token.{is_sign, is_word}
use Rattle.sc_text_rules.specs.TextPosition.{Formula, behind_first, is_table_row, is_instance, formula}
use Rattle.sc_text_limits.specs.declared.part.SentencePart.{SentencePart}
use Rattle.sc_text_limits.specs.declared.part.SentencePart.TheVariants.{Start, First, FirstOpen, RowName, Row, Step, Instance, Terms, Clause}

-- what stands behind the last full stop, or all, behind the earlier tokens
abbrev pub sentence_behind : List Token → List Token → List Token
sentence_behind earlier [] = earlier
sentence_behind earlier (t ∷ tokens) = sentence_behind (if is_sign Stop t then [] else earlier ++ t ∷ []) tokens

-- the sentence so far
abbrev pub sentence_so_far : List Token → List Token
sentence_so_far tokens = sentence_behind [] tokens

-- ---- behind a sentence so far

-- behind one token
abbrev pub part_of_first : Token → SentencePart
part_of_first t = if is_table_row (t ∷ []) then RowName else if is_sign Colon t then Clause else if is_sign Open t then FirstOpen else First

-- behind several, none of which is a `:`
abbrev pub part_of_step : List Token → SentencePart
part_of_step sentence = if is_instance sentence then elim (behind_first (is_sign Open) sentence) [ Some tokens ↦ Terms | None ↦ Instance ] else Step

-- behind any
abbrev pub part_of : List Token → SentencePart
part_of [] = Start
part_of (t ∷ []) = part_of_first t
part_of (t ∷ u ∷ tokens) =
    if is_table_row (t ∷ u ∷ tokens) then Row else
    elim (behind_first (is_sign Colon) (t ∷ u ∷ tokens)) [ Some behind ↦ Clause | None ↦ part_of_step (t ∷ u ∷ tokens) ]

-- the clause or term so far, in a part of a sentence that has one
abbrev pub formula_in : SentencePart → List Token → Option Formula
formula_in Start tokens = None
formula_in First tokens = None
formula_in FirstOpen tokens = None
formula_in RowName tokens = None
formula_in Row tokens = None
formula_in Step tokens = None
formula_in Instance tokens = None
formula_in Terms tokens = Some (record { is_term = true; tokens = tokens })
formula_in Clause tokens = Some (record { is_term = false; tokens = tokens })

-- The next token stands in that part of its sentence, and these are the tokens of the clause or term so far.
pub record Stands (sentence : List Token) (p : SentencePart) (tokens : List Token) : Type 0 where
  pub part : p ≡ part_of sentence
  pub so_far : formula sentence ≡ formula_in p tokens
  pub none : formula_in p tokens ≡ None → tokens ≡ []

-- ---- with one token more

-- behind the second token
abbrev pub behind_second : Bool → Token → SentencePart
behind_second is_open t = if is_sign Colon t then Clause else if is_word (codes "instance") t then (if is_open then Terms else Instance) else Step

-- behind the `:`, or elsewhere
abbrev pub behind_colon : SentencePart → Token → SentencePart
behind_colon otherwise t = if is_sign Colon t then Clause else otherwise

-- behind a token before the `(` of an `instance` step
abbrev pub behind_instance : Token → SentencePart
behind_instance t = behind_colon (if is_sign Open t then Terms else Instance) t

-- where the next token stands, with one token more
abbrev pub part_with : Token → SentencePart → SentencePart
part_with t Start = part_of_first t
part_with t First = behind_second false t
part_with t FirstOpen = behind_second true t
part_with t RowName = Row
part_with t Row = Row
part_with t Step = behind_colon Step t
part_with t Instance = behind_instance t
part_with t Terms = behind_colon Terms t
part_with t Clause = Clause

-- whether a token joins the formula so far, which has no open parenthesis where `is_outer`
abbrev pub joins : SentencePart → Bool → Token → Bool
joins Start is_outer t = false
joins First is_outer t = false
joins FirstOpen is_outer t = is_word (codes "instance") t
joins RowName is_outer t = false
joins Row is_outer t = false
joins Step is_outer t = false
joins Instance is_outer t = false
joins Terms is_outer t = not (is_sign Colon t) && not (is_outer && is_sign Comma t)
joins Clause is_outer t = true
