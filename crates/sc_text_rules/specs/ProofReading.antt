-- The lines that a proof section spells, or where and why it is refused.
use Rattle.std.specs.Prelude.{ℕ, List, length, Result, Ok, Err}
use Rattle.sc_term.specs.declared.Line.{Line}
use Rattle.sc_term.specs.declared.symbol.Symbol.{Symbol}
use Rattle.sc_input_rules.specs.declared.fault.Place.{Place}
use Rattle.sc_input_rules.specs.declared.token.Token.{Token}
use Rattle.sc_input_rules.specs.Tokens.{tokens_behind}
use Rattle.sc_input_rules.specs.Faults.{judged}
use Rattle.sc_input_rules.specs.ClauseLimits.{Bounds}
use Rattle.sc_text_rules.specs.TextLimits.{text_bounds, text_fault_at}
use Rattle.sc_text_rules.specs.ProofGrammar.{proof_section, alone}

abbrev pub judged_proof : Bounds → List Symbol → ℕ → List Token → Result (List Line × List Token) Place
judged_proof bounds symbols end tokens = judged (text_fault_at bounds symbols) end tokens (alone (proof_section symbols tokens))

-- the lines, where the bytes from one on are a proof section over the symbols, within the bounds
abbrev pub proof_within : Bounds → List Symbol → List ℕ → ℕ → Result (List Line) Place
proof_within bounds symbols bytes from =
    elim (judged_proof bounds symbols (length bytes) (tokens_behind from bytes)) [ Ok r ↦ Ok r.0 | Err p ↦ Err p ]

abbrev pub proof_of : List Symbol → List ℕ → ℕ → Result (List Line) Place
proof_of symbols bytes from = proof_within text_bounds symbols bytes from
