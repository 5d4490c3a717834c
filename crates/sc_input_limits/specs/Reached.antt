-- What is known behind some tokens.
use Rattle.std.specs.Prelude.{◌≡◌, ◌≤◌, List, ◌∷◌, length, map, drop, flat_map, find, Option, None, is_some}
use Rattle.sc_term.specs.Symbol.{equality}
use Rattle.sc_input_rules.specs.declared.fault.Place.{Place}
use Rattle.sc_input_rules.specs.declared.settings.Home.{Home}
use Rattle.sc_input_rules.specs.declared.token.Token.{Token}
use Rattle.sc_input_rules.specs.Position.{Position, position, clause_so_far}
use Rattle.sc_input_rules.specs.Numbering.{Found, found_in}
use Rattle.sc_input_rules.specs.Faults.{passed, first_passed}
use Rattle.sc_input_rules.specs.ProblemLimits.{written, is_bad_demodulator, demodulators_told, problem_bounds, problem_limits, problem_fault_at}
use Rattle.sc_input_limits.specs.declared.reached.Reached.{Reached}
use Rattle.sc_input_limits.specs.Counted.{Counted}
use Rattle.sc_input_limits.specs.Numbers.{number_of_value}
use Rattle.sc_input_limits.specs.Symbols.{Keeps}

-- the symbols of clauses in the order of the text
abbrev pub found_so_far : List (Home × List Token) → List Found
found_so_far clauses = record { symbol = equality; at = 0 } ∷ flat_map (λ c. flat_map found_in c) (map (λ c. written c.1) clauses)

-- what is kept of a position at which neither a symbol nor a demodulator is refused
pub record Follows (p : Position) (r : Reached) : Type 0 where
  pub home : r.home ≡ p.home
  pub clauses : r.clauses ≡ length p.clauses
  pub symbols : Keeps (found_so_far p.clauses) r.symbols
  pub spoilt : r.spoilt ≡ is_some (find is_bad_demodulator p.clauses)
  pub untold : demodulators_told p ≡ None

-- the place that is told at a position, or what is kept of it
pub record Reaches (p : Position) (r : Reached) (answer : Option Place) : Type 0 where
  pub told : answer ≡ passed (problem_limits problem_bounds) p
  pub follows : answer ≡ None → Follows p r

-- behind tokens that pass no limit
pub record IsBehind (tokens : List Token) (r : Reached) : Type 0 where
  pub follows : Follows (position tokens) r
  pub count : Counted (clause_so_far (position tokens)) r.count
  pub number : (position tokens).home ≡ None → r.number ≡ number_of_value (position tokens).sentence
  pub sentence : (position tokens).sentence ≡ drop r.start tokens
  pub start : r.start ≤ length tokens
  pub clauses : r.clauses ≤ length tokens
  pub weight : r.count.weight ≤ length tokens
  pub around : r.count.literal.atom.around ≤ length tokens
  pub untold : first_passed (problem_fault_at problem_bounds) tokens ≡ None
