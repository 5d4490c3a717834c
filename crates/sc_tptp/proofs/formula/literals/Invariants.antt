use Rattle.std.proofs.Common.{◌≡◌, ◌-◌, length}
use Rattle.sc_input_rules.specs.Reader as spec
use Rattle.sc_tptp_rules.specs.CnfGrammar as of
use Rattle.sc_input_rules.specs.declared.token.Sign.TheVariants.{Bar}
use Rattle.sc_input_grammar.specs.Behind.{behind}
use Rattle.sc_tptp.proofs.formula.literals.Given as goal

-- what was read, and then what is read of the rest, is what is read of all
abbrev pub invariant-loop : goal.invariant-loop
invariant-loop l = behind l.front (spec.separated Bar of.cnf_literal (length l.tokens - l.counter) l.rest) ≡ spec.separated Bar of.cnf_literal (length l.tokens) l.tokens
