-- The run that a text spells, or where and why it is refused.
use Rattle.std.specs.Prelude.{ℕ, List, length, Result, Ok, Err}
use Rattle.sc_term.specs.declared.symbol.Symbol.{Symbol}
use Rattle.sc_input_rules.specs.declared.fault.Place.{Place}
use Rattle.sc_input_rules.specs.declared.token.Token.{Token}
use Rattle.sc_input_rules.specs.Tokens.{tokens_behind}
use Rattle.sc_input_rules.specs.Faults.{judged}
use Rattle.sc_input_rules.specs.ClauseLimits.{Bounds}
use Rattle.sc_text_rules.specs.TextLimits.{text_bounds, text_fault_at}
use Rattle.sc_text_rules.specs.ProofGrammar.{alone}
use Rattle.sc_text_run_rules.specs.RunValue.{RunValue}
use Rattle.sc_text_run_rules.specs.RunSection.{run_section}

-- a run text behind which nothing stands, judged by the limits of texts that are read back
abbrev pub judged_run : Bounds → List Symbol → ℕ → List Token → Result (RunValue × List Token) Place
judged_run bounds symbols end tokens = judged (text_fault_at bounds symbols) end tokens (alone (run_section symbols tokens))

-- the run, where the bytes from one on are a run text over the symbols, within the bounds
abbrev pub run_within : Bounds → List Symbol → List ℕ → ℕ → Result RunValue Place
run_within bounds symbols bytes from =
    elim (judged_run bounds symbols (length bytes) (tokens_behind from bytes)) [ Ok r ↦ Ok r.0 | Err p ↦ Err p ]

-- the same within the bounds of texts that are read back
abbrev pub run_of : List Symbol → List ℕ → ℕ → Result RunValue Place
run_of symbols bytes from = run_within text_bounds symbols bytes from
