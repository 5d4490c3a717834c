use Rattle.std.proofs.Common.{ℕ, List, Ok, rules}
use Rattle.std.specs.Prelude.{codes}
use Rattle.sc_input_rules.specs.declared.token.Token.{Token}
use Rattle.sc_input_rules.specs.Reader.{Read, ◌>>=◌, the_word}
use Rattle.sc_input_grammar.proofs.Lists.{fails_on}
use Rattle.sc_text_section.proofs.Sequences.{gives_err, fails_then}
use Rattle.sc_core_rules.specs.declared.row.Cause.{Cause}
use Rattle.sc_core_rules.specs.declared.row.GivenRow.{GivenRow}
use Rattle.sc_text_run_rules.specs.RowWords.{a_row_number, the_row_number, a_cause, a_version_name, a_truth, numbers}
use Rattle.sc_text_run_section.proofs.turns.given_row.Goals as goal

abbrev behind_cause : ℕ → ℕ → Cause × List Token → Read GivenRow
behind_cause t n cause = do
  name ← a_version_name cause.1
  truth ← a_truth name.1
  lengths ← numbers truth.1
  Ok (record { turn = t; number = n; cause = cause.0; name = name.0; truth = truth.0; lengths = lengths.0 }, lengths.1)

abbrev behind_number : ℕ → ℕ × List Token → Read GivenRow
behind_number t n = a_cause n.1 >>= behind_cause t n.0

abbrev behind_turn : ℕ × List Token → Read GivenRow
behind_turn t = a_row_number t.1 >>= behind_number t.0

pub returns-in_err-cause : goal.returns-in_err-cause
returns-in_err-cause c =
    let e = c.in_err-cause.field-0.0 in
    gives_err _ _ e _ (search rules)
    (fails_then e (the_word (codes "given") c.args.tokens.now) tt c.in_ok-rest.rest.now (λ begin. the_row_number c.args.turn begin.1 >>= behind_turn) (search rules)
    (fails_then e (the_row_number c.args.turn c.in_ok-rest.rest.now) c.in_ok-turn.turn c.in_ok-turn.rest.now behind_turn c.in_ok-turn.ensures
    (fails_then e (a_row_number c.in_ok-turn.rest.now) c.in_ok-number.number c.in_ok-number.rest.now (behind_number c.in_ok-turn.turn) c.in_ok-number.ensures
    (fails_on e (a_cause c.in_ok-number.rest.now) (behind_cause c.in_ok-turn.turn c.in_ok-number.number) c.in_err-cause.ensures))))
