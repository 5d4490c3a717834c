-- Statements as code answers them.
use Rattle.std.specs.Prelude.{List, map, Ok}
use Rattle.sc_input_rules.specs.declared.token.Token.{Token}
use Rattle.sc_input_rules.specs.declared.token.Sign.TheVariants.{Minus}
use Rattle.sc_input_rules.specs.declared.written.WrittenLiteral.{WrittenLiteral}
use Rattle.sc_input_rules.specs.Reader.{Read, ◌>>=◌, the_sign}
use Rattle.sc_input_rules.specs.ClauseGrammar.{negated}
use Rattle.sc_tptp_rules.specs.CnfGrammar.{Statement, below_tilde}
use Rattle.sc_tptp.specs.declared.statement.Statement.{Statement as Told}

-- ~ atom; ~ side = side
abbrev pub negative_literal : List Token → Read WrittenLiteral
negative_literal tokens = the_sign Minus tokens >>= λ tilde. below_tilde tilde.1 >>= λ l. Ok (negated l.0, l.1)

-- as a statement of the grammar
abbrev pub statement_of : Told → Statement
statement_of s = record { goal = s.goal; clause = s.clause }

-- the same of a list of them
abbrev pub statements_of : List Told → List Statement
statements_of = map statement_of
