use Rattle.std.proofs.Common.{◌≡◌, ◌∙◌, sym, ap, ℕ, List, [], suc, ◌+◌, ◌-◌, length, arith, rules, subst}
use Rattle.sc_input_scan.specs.Told.{Fails}
use Rattle.sc_input_rules.specs.declared.token.Token.{Token}
use Rattle.std.specs.Prelude.{codes}
use Rattle.sc_input_rules.specs.Reader.{Read}
use Rattle.sc_input_grammar.specs.Behind.{behind}
use Rattle.sc_input_grammar.proofs.Lists.{behind_none}
use Rattle.sc_core_rules.specs.declared.row.GivenRow.{GivenRow}
use Rattle.sc_text_run_rules.specs.RowWords.{rows_of}
use Rattle.sc_text_run_rules.specs.RowGrammar.{a_given_row}
use Rattle.sc_text_run_section.proofs.RowsInTurn.{rows_on, rows_end, rows_out, rows_fail}
use Rattle.sc_text_run_section.proofs.turns.given_rows.Goals as goal

abbrev moved : ℕ → GivenRow → ℕ
moved turn row = turn + 1

pub loop-earlier-init : goal.loop-earlier-init
loop-earlier-init c =
    let most = length c.args.tokens.now in
    let all : most - 0 ≡ most = omega arith in
    let read : ℕ → Read (List GivenRow) = λ k. rows_of (codes "given") a_given_row moved k 1 c.args.tokens.now in
    rw c.new-rest.ensures (ap (λ (front : List GivenRow). behind front (read (most - 0))) c.new-front.ensures ∙ ap (λ (k : ℕ). behind [] (read k)) all ∙ behind_none (read most))

pub loop-earlier-preserved : goal.loop-earlier-preserved
loop-earlier-preserved c =
    let most = length c.args.tokens.now in
    let i = c.loop-earlier.earlier in
    let more : most - i ≡ suc (most - (i + 1)) = omega (arith, c.loop-earlier-test.true) in
    rw c.new-rest-in-loop-earlier.ensures (rows_on (codes "given") a_given_row moved most i (i + 1) c.loop-earlier.front c.push.new.self c.in_ok-row.row c.loop-earlier.rest c.in_ok-row.after.now
    more c.in_ok-push.ensures.ok (rw (sym c.tokens-left.ensures) (search rules)) (ap (λ (rest : List Token). a_given_row (i + 1) rest) (sym c.tokens-left.ensures) ∙ c.in_ok-row.ensures) ∙ c.loop-earlier.invariant)

pub returns-then-not-next_is_word : goal.returns-then-not-next_is_word
returns-then-not-next_is_word c =
    rw c.tokens-left.ensures (sym c.loop-earlier.invariant
    ∙ rows_end (codes "given") a_given_row moved (length c.args.tokens.now - c.loop-earlier.earlier) (c.loop-earlier.earlier + 1) c.loop-earlier.front c.loop-earlier.rest (rw (sym c.tokens-left.ensures) (search rules)))

pub returns-in_err-row : goal.returns-in_err-row
returns-in_err-row c =
    let most = length c.args.tokens.now in
    let i = c.loop-earlier.earlier in
    let more : most - i ≡ suc (most - (i + 1)) = omega (arith, c.loop-earlier-test.true) in
    rows_fail (codes "given") a_given_row moved _ _ c.in_err-row.field-0.0 most i (i + 1) c.loop-earlier.front c.loop-earlier.rest _
    more (rw (sym c.tokens-left.ensures) (search rules)) (search rules) (subst (λ (rest : List Token). Fails c.in_err-row.field-0.0 (a_given_row (i + 1) rest)) c.tokens-left.ensures c.in_err-row.ensures) c.loop-earlier.invariant

pub returns : goal.returns
returns c =
    rw c.tokens.ensures (sym c.loop-earlier.invariant
    ∙ rows_out (codes "given") a_given_row moved (length c.args.tokens.now - c.loop-earlier.earlier) (c.loop-earlier.earlier + 1) c.loop-earlier.front c.loop-earlier.rest
    (omega (arith, c.loop-earlier-test.false)))
