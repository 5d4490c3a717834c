-- What reading some first tokens of a proof section says of all of it.
use Rattle.std.specs.Prelude.{ℕ, List, length, map, Result}
use Rattle.sc_term.specs.declared.Line.{Line}
use Rattle.sc_term.specs.declared.symbol.Symbol.{Symbol}
use Rattle.sc_input_rules.specs.declared.fault.Place.{Place}
use Rattle.sc_input_rules.specs.declared.token.Token.{Token}
use Rattle.sc_input_rules.specs.Reader.{Read}
use Rattle.sc_input_rules.specs.Tokens.{tokens_behind}
use Rattle.sc_input.specs.Answer.{told_by}
use Rattle.sc_text_rules.specs.ProofGrammar.{proof_section, alone}
use Rattle.sc_text_rules.specs.TextLimits.{text_bounds}
use Rattle.sc_text_rules.specs.ProofReading.{judged_proof}
use Rattle.sc_text_section.specs.Clipped.{clipped_line, clipped_lines}

-- a section behind which nothing stands, its numbers clipped
abbrev pub section : List Symbol → List Token → Read (List Line)
section symbols tokens = alone (proof_section symbols tokens)

abbrev pub clipped_section : List Symbol → List Token → Read (List Line)
clipped_section symbols tokens = clipped_lines (section symbols tokens)

-- what was judged: the lines with their numbers clipped, and the byte behind them
abbrev pub told_lines : ℕ → Result (List Line × List Token) Place → Result (List Line × ℕ) Place
told_lines end judgement = told_by (map clipped_line) end judgement

-- the same of tokens, and of the bytes from one on
abbrev pub judged_tokens : List Symbol → ℕ → List Token → Result (List Line × ℕ) Place
judged_tokens symbols end tokens = told_lines end (judged_proof text_bounds symbols end tokens)

abbrev pub judged_bytes : List Symbol → List ℕ → ℕ → Result (List Line × ℕ) Place
judged_bytes symbols bytes from = judged_tokens symbols (length bytes) (tokens_behind from bytes)
