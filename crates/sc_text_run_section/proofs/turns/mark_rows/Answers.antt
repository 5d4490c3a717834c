use Rattle.std.proofs.Common.{◌≡◌, ◌∙◌, sym, ap, refl, ℕ, List, [], suc, ◌+◌, ◌-◌, length, arith, rules, subst}
use Rattle.sc_input_scan.specs.Told.{Fails}
use Rattle.sc_input_rules.specs.declared.token.Token.{Token}
use Rattle.sc_input_rules.specs.Reader.{Read}
use Rattle.sc_input_grammar.specs.Behind.{behind}
use Rattle.sc_input_grammar.proofs.Lists.{behind_none}
use Rattle.sc_text_run_rules.specs.declared.run.MarkRow.{MarkRow}
use Rattle.sc_text_run_rules.specs.RowWords.{counted}
use Rattle.sc_text_run_rules.specs.RowGrammar.{a_mark_row}
use Rattle.sc_text_run_section.proofs.Counting.{counted_on, counted_end, counted_fail}
use Rattle.sc_text_run_section.proofs.turns.mark_rows.Goals as goal

pub loop-earlier-init : goal.loop-earlier-init
loop-earlier-init c =
    let most = length c.args.tokens.now in
    let all : most - 0 ≡ most = omega arith in
    let each : c.args.count - 0 ≡ c.args.count = omega arith in
    let read : ℕ → ℕ → Read (List MarkRow) = λ k m. counted a_mark_row k 1 m c.args.tokens.now in
    record {
      read =
          rw c.new-rest.ensures (ap (λ (front : List MarkRow). behind front (read (most - 0) (c.args.count - 0))) c.new-front.ensures
          ∙ (λ j. behind [] (read (all j) (each j))) ∙ behind_none (read most c.args.count));
      within = omega arith;
    }

pub loop-earlier-preserved : goal.loop-earlier-preserved
loop-earlier-preserved c =
    let most = length c.args.tokens.now in
    let i = c.loop-earlier.earlier in
    let more : most - i ≡ suc (most - (i + 1)) = omega (arith, c.loop-earlier-test.true) in
    let still : c.args.count - i ≡ suc (c.args.count - (i + 1)) = omega (arith, c.loop-earlier.invariant.within, c.if-earlier-count.false) in
    record {
      read =
          rw c.new-rest-in-loop-earlier.ensures (counted_on a_mark_row most i c.args.count (i + 1) (i + 1 + 1) c.loop-earlier.front c.push.new.self c.in_ok-mark.mark c.loop-earlier.rest c.in_ok-mark.after.now
          more still refl c.in_ok-push.ensures.ok (ap (λ (rest : List Token). a_mark_row (i + 1) rest) (sym c.tokens-left.ensures) ∙ c.in_ok-mark.ensures) ∙ c.loop-earlier.invariant.read);
      within = omega (arith, c.loop-earlier.invariant.within, c.if-earlier-count.false);
    }

pub returns-in_err-mark : goal.returns-in_err-mark
returns-in_err-mark c =
    let most = length c.args.tokens.now in
    let i = c.loop-earlier.earlier in
    let more : most - i ≡ suc (most - (i + 1)) = omega (arith, c.loop-earlier-test.true) in
    let still : c.args.count - i ≡ suc (c.args.count - (i + 1)) = omega (arith, c.loop-earlier.invariant.within, c.if-earlier-count.false) in
    counted_fail a_mark_row _ _ c.in_err-mark.field-0.0 most i c.args.count (i + 1) c.loop-earlier.front c.loop-earlier.rest _
    more still (search rules) (subst (λ (rest : List Token). Fails c.in_err-mark.field-0.0 (a_mark_row (i + 1) rest)) c.tokens-left.ensures c.in_err-mark.ensures) c.loop-earlier.invariant.read

pub returns-then-earlier-count : goal.returns-then-earlier-count
returns-then-earlier-count c =
    let i = c.loop-earlier.earlier in
    rw c.tokens-left.ensures (sym c.loop-earlier.invariant.read
    ∙ counted_end a_mark_row (length c.args.tokens.now - i) (i + 1) (c.args.count - i) c.loop-earlier.front c.loop-earlier.rest (omega (arith, c.if-earlier-count.true)))
