-- The productions literal, formula, item and problem of TPTP's clause form.
use Rattle.std.specs.Prelude.{ℕ, Bool, true, false, List, [], ◌∷◌, length, Ok, Err, codes}
use Rattle.sc_input_rules.specs.declared.fault.InputKind.TheVariants.{Unsupported}
use Rattle.sc_input_rules.specs.declared.token.Token.{Token}
use Rattle.sc_input_rules.specs.declared.token.Sign.TheVariants.{Open, Close, Comma, Stop, Bar, Minus, Equal}
use Rattle.sc_input_rules.specs.declared.written.WrittenLiteral.{WrittenLiteral}
use Rattle.sc_input_rules.specs.Token.{is_sign, is_word, same_text}
use Rattle.sc_input_rules.specs.Tokens.{begins}
use Rattle.sc_input_rules.specs.Syntax.{Side, WrittenClause}
use Rattle.sc_input_rules.specs.Reader.{Read, ◌>>=◌, unexpected, next_is, the_sign, a_word, a_listed_name, separated, repeated}
use Rattle.sc_input_rules.specs.ClauseGrammar.{bracketed, side, right_of, is_equality, negated, without_first}
use Rattle.sc_input_rules.specs.ProblemGrammar.{at_end}
use Rattle.sc_tptp_rules.specs.Placing.{is_upper}

-- ---- words

abbrev pub cnf_words : List (List ℕ)
cnf_words = codes "cnf" ∷ []

abbrev pub unsupported_forms : List (List ℕ)
unsupported_forms = codes "fof" ∷ codes "tff" ∷ codes "tcf" ∷ codes "thf" ∷ codes "include" ∷ []

-- the role of the clauses that a proof starts from
abbrev pub goal_role : List ℕ
goal_role = codes "negated_conjecture"

abbrev pub roles : List (List ℕ)
roles =
    goal_role ∷ codes "axiom" ∷ codes "hypothesis" ∷ codes "definition" ∷ codes "assumption" ∷ codes "lemma" ∷ codes "theorem"
    ∷ codes "corollary" ∷ codes "plain" ∷ []

abbrev pub unsupported_roles : List (List ℕ)
unsupported_roles = codes "conjecture" ∷ []

-- ---- literals

-- a side that is a whole literal; a variable is none
abbrev pub cnf_atom : Bool → Side → List Token → Read WrittenLiteral
cnf_atom positive [] tokens = unexpected tokens
cnf_atom positive (o ∷ os) tokens =
    elim (begins is_upper o.name) [ true ↦ unexpected tokens | false ↦ Ok (record { positive = positive; predicate = o; arguments = os }, tokens) ]

-- atom; side = side; side != side
abbrev pub cnf_positive : List Token → Read WrittenLiteral
cnf_positive tokens = side tokens >>= λ left.
    elim (next_is is_equality left.1) [ true ↦ right_of left.0 left.1 | false ↦ cnf_atom true left.0 left.1 ]

-- atom; side = side
abbrev pub below_tilde : List Token → Read WrittenLiteral
below_tilde tokens = side tokens >>= λ left.
    elim (next_is (is_sign Equal) left.1) [ true ↦ right_of left.0 left.1 | false ↦ cnf_atom true left.0 left.1 ]

-- the same, or `~` and one of the last two
abbrev pub cnf_literal : List Token → Read WrittenLiteral
cnf_literal tokens =
    elim (next_is (is_sign Minus) tokens) [
      | true ↦ the_sign Minus tokens >>= λ tilde. below_tilde tilde.1 >>= λ l. Ok (negated l.0, l.1)
      | false ↦ cnf_positive tokens
    ]

-- ---- formulas

-- `$false`, or literals with `|` between them
abbrev pub disjunction : List Token → Read WrittenClause
disjunction tokens =
    elim (next_is (is_word (codes "$F")) tokens) [
      | true ↦ without_first tokens
      | false ↦ separated Bar cnf_literal (length tokens) tokens
    ]

-- disjunction; ( disjunction )
abbrev pub formula : List Token → Read WrittenClause
formula tokens = elim (next_is (is_sign Open) tokens) [ true ↦ bracketed disjunction tokens | false ↦ disjunction tokens ]

-- ---- items

-- a clause, and whether its role is the one that a proof starts from
pub record Statement : Type 0 where
  pub goal : Bool
  pub clause : WrittenClause

-- `)`; a `,` in its place, which begins annotations, isn't supported
abbrev pub the_end_of_formula : List Token → Read (Unit {0})
the_end_of_formula tokens =
    elim (next_is (is_sign Comma) tokens) [ true ↦ Err (record { left = tokens; kind = Unsupported }) | false ↦ the_sign Close tokens ]

-- cnf ( name , role , formula ) .
abbrev pub statement : List Token → Read Statement
statement tokens = do
  form ← a_listed_name cnf_words unsupported_forms tokens
  opening ← the_sign Open form.1
  name ← a_word opening.1
  behind_name ← the_sign Comma name.1
  role ← a_listed_name roles unsupported_roles behind_name.1
  behind_role ← the_sign Comma role.1
  clause ← formula behind_role.1
  end ← the_end_of_formula clause.1
  stop ← the_sign Stop end.1
  Ok (record { goal = same_text role.0.text goal_role; clause = clause.0 }, stop.1)

abbrev pub statements : List Token → Read (List Statement)
statements tokens = repeated at_end statement (length tokens) tokens
