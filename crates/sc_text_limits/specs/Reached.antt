-- What the loop knows behind some tokens of a text, against the definitions of the limits.
use Rattle.std.specs.Prelude.{◌≡◌, ◌≤◌, ℕ, List, length, take, drop, None}
use Rattle.sc_term.specs.declared.symbol.Symbol.{Symbol}
use Rattle.sc_input_rules.specs.declared.token.Token.{Token}
use Rattle.sc_input_rules.specs.Faults.{first_passed}
use Rattle.sc_text_rules.specs.TextLimits.{text_bounds, text_fault_at}
use Rattle.sc_text_limits.specs.declared.reached.Reached.{Reached}
use Rattle.sc_text_limits.specs.Parts.{Stands, sentence_so_far}
use Rattle.sc_text_limits.specs.Formulas.{IsKept}

-- `front` are the tokens of the text so far, which end with `sentence`
pub record IsWithin (tokens front sentence : List Token) (r : Reached) : Type 0 where
  pub stands : Stands sentence r.part (drop r.formula.start front)
  pub kept : IsKept tokens (drop r.formula.start front) r.formula
  pub start : r.formula.start ≤ length front
  pub weight : r.formula.count.weight ≤ length front
  pub around : r.formula.count.literal.atom.around ≤ length front

-- behind so many tokens of a text, which pass no limit
pub record IsBehind (symbols : List Symbol) (tokens : List Token) (n : ℕ) (r : Reached) : Type 0 where
  pub within : IsWithin tokens (take n tokens) (sentence_so_far (take n tokens)) r
  pub untold : first_passed (text_fault_at text_bounds symbols) (take n tokens) ≡ None
