use Rattle.std.proofs.Common.{Ok, rules}
use Rattle.sc_input_rules.specs.ClauseGrammar.{negated}
use Rattle.sc_tptp_rules.specs.CnfGrammar.{below_tilde}
use Rattle.sc_input_grammar.proofs.Lists.{gives_failure}
use Rattle.sc_tptp.proofs.literal.negative_literal.Goals as goal

pub returns-in_err-literal : goal.returns-in_err-literal
returns-in_err-literal c =
    rw c.in_ok-rest.ensures
    (gives_failure _ _ c.in_err-literal.field-0.0 (below_tilde c.in_ok-rest.rest.now) (λ l. Ok (negated l.0, l.1)) (search rules) c.in_err-literal.ensures)
