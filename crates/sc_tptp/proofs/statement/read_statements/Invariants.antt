use Rattle.std.proofs.Common.{◌≡◌, ◌-◌, length}
use Rattle.sc_input_rules.specs.Reader as spec
use Rattle.sc_input_rules.specs.ProblemGrammar.{at_end}
use Rattle.sc_tptp_rules.specs.CnfGrammar.{statement}
use Rattle.sc_input_grammar.specs.Behind.{behind}
use Rattle.sc_tptp.specs.Statements.{statements_of}
use Rattle.sc_tptp.proofs.statement.read_statements.Given as goal

-- what was read, and then what is read of the rest, is what is read of all
abbrev pub invariant-loop : goal.invariant-loop
invariant-loop l =
    behind (statements_of l.front) (spec.repeated at_end statement (length l.tokens - l.counter) l.rest)
    ≡ spec.repeated at_end statement (length l.tokens) l.tokens
