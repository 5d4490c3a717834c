-- The text of a proof section.
use Rattle.std.specs.Prelude.{ℕ, ◌+◌, List, [], ◌∷◌, ◌++◌, map, codes, decimal}
use Rattle.sc_term.specs.declared.Step.{Step}
use Rattle.sc_term.specs.declared.Step.TheVariants.{Input, Instance, Resolve, Merge, Para, Flip}
use Rattle.sc_term.specs.declared.Side.{Side}
use Rattle.sc_term.specs.declared.Side.TheVariants.{Left, Right}
use Rattle.sc_term.specs.declared.Line.{Line}
use Rattle.sc_term.specs.declared.symbol.Symbol.{Symbol}
use Rattle.sc_text_rules.specs.ClauseText.{joined_by, in_brackets, term_text, clause_text}

-- words with one space between each two
abbrev pub words : List (List ℕ) → List ℕ
words texts = joined_by (codes " ") texts

-- a full stop and the end of the line
abbrev pub ended : List ℕ → List ℕ
ended text = text ++ codes ".\n"

abbrev pub side_word : Side → List ℕ
side_word Left = codes "left"
side_word Right = codes "right"

abbrev pub step_words : List Symbol → Step → List (List ℕ)
step_words symbols (Input k) = codes "input" ∷ decimal k ∷ []
step_words symbols (Instance j terms) = codes "instance" ∷ decimal j ∷ in_brackets (map (term_text symbols) terms) ∷ []
step_words symbols (Resolve j a k b) = codes "resolve" ∷ map decimal (j ∷ a ∷ k ∷ b ∷ [])
step_words symbols (Merge j a) = codes "merge" ∷ map decimal (j ∷ a ∷ [])
step_words symbols (Para j a side k b path) =
    codes "para" ∷ map decimal (j ∷ a ∷ []) ++ side_word side ∷ map decimal (k ∷ b ∷ []) ++ in_brackets (map decimal path) ∷ []
step_words symbols (Flip j a) = codes "flip" ∷ map decimal (j ∷ a ∷ [])

-- number, step, colon, clause
abbrev pub line_text : List Symbol → ℕ → Line → List ℕ
line_text symbols number line =
    ended (words (decimal number ∷ step_words symbols line.step ++ codes ":" ∷ clause_text symbols line.clause ∷ []))

-- the lines, the first with number n
abbrev pub lines_text : List Symbol → ℕ → List Line → List ℕ
lines_text symbols n [] = []
lines_text symbols n (line ∷ lines) = line_text symbols n line ++ lines_text symbols (n + 1) lines

abbrev pub proof_text : List Symbol → List Line → List ℕ
proof_text symbols lines = codes "proof.\n" ++ lines_text symbols 1 lines ++ codes "end_of_proof.\n"
