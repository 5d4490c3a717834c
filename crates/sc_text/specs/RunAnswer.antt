-- What reading some first tokens of a run text says of all of it.
use Rattle.std.specs.Prelude.{ℕ, List, length, Result}
use Rattle.sc_term.specs.declared.symbol.Symbol.{Symbol}
use Rattle.sc_input_rules.specs.declared.fault.Place.{Place}
use Rattle.sc_input_rules.specs.declared.token.Token.{Token}
use Rattle.sc_input_rules.specs.Reader.{Read}
use Rattle.sc_input_rules.specs.Tokens.{tokens_behind}
use Rattle.sc_input.specs.Answer.{told_by}
use Rattle.sc_text_rules.specs.ProofGrammar.{alone}
use Rattle.sc_text_rules.specs.TextLimits.{text_bounds}
use Rattle.sc_text_section.specs.Clipped.{seen_by}
use Rattle.sc_text_run_rules.specs.RunValue.{RunValue}
use Rattle.sc_text_run_rules.specs.RunSection.{run_section}
use Rattle.sc_text_run_rules.specs.RunReading.{judged_run}
use Rattle.sc_text_run_section.specs.Seen.{clipped_run}

-- a run text behind which nothing stands, and the same with its numbers clipped
abbrev pub section : List Symbol → List Token → Read RunValue
section symbols tokens = alone (run_section symbols tokens)

abbrev pub clipped_section : List Symbol → List Token → Read RunValue
clipped_section symbols tokens = seen_by clipped_run (section symbols tokens)

-- what was judged: the run with its numbers clipped, and the byte behind it
abbrev pub told_run : ℕ → Result (RunValue × List Token) Place → Result (RunValue × ℕ) Place
told_run end judgement = told_by clipped_run end judgement

-- the same of tokens, and of the bytes from one on
abbrev pub judged_tokens : List Symbol → ℕ → List Token → Result (RunValue × ℕ) Place
judged_tokens symbols end tokens = told_run end (judged_run text_bounds symbols end tokens)

abbrev pub judged_bytes : List Symbol → List ℕ → ℕ → Result (RunValue × ℕ) Place
judged_bytes symbols bytes from = judged_tokens symbols (length bytes) (tokens_behind from bytes)
