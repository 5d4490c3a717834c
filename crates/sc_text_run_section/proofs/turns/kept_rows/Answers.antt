use Rattle.std.proofs.Common.{◌≡◌, ◌∙◌, sym, ap, refl, ℕ, List, [], suc, ◌+◌, ◌-◌, length, map, arith, rules, subst}
use Rattle.sc_input_scan.specs.Told.{Fails}
use Rattle.std.specs.Prelude.{codes}
use Rattle.sc_term.specs.declared.symbol.Symbol.{Symbol}
use Rattle.sc_input_rules.specs.declared.token.Token.{Token}
use Rattle.sc_input_rules.specs.Reader.{Read}
use Rattle.sc_input_grammar.specs.Behind.{behind}
use Rattle.sc_input_grammar.proofs.Lists.{behind_none}
use Rattle.sc_core_rules.specs.declared.row.KeptRow.{KeptRow}
use Rattle.sc_text_section.specs.Clipped.{seen_by}
use Rattle.sc_text_run_rules.specs.RowWords.{rows_of}
use Rattle.sc_text_run_rules.specs.RowGrammar.{a_kept_row, kept_rows}
use Rattle.sc_text_run_section.specs.Seen.{clipped_kept, clipped_kept_row}
use Rattle.sc_text_run_section.proofs.RowsInTurn.{rows_on, rows_end, rows_out, rows_fail}
use Rattle.sc_text_run_section.proofs.RowsSeen.{rows_seen}
use Rattle.sc_text_run_section.proofs.turns.kept_rows.Goals as goal

abbrev moved : ℕ → KeptRow → ℕ
moved least row = row.number + 1

whole_seen : (symbols : List Symbol) (tokens : List Token)
    → rows_of (codes "kept") (clipped_kept_row symbols) moved (length tokens) 0 tokens ≡ seen_by (map clipped_kept) (kept_rows symbols 0 tokens)
whole_seen symbols tokens = sym (rows_seen (codes "kept") clipped_kept (a_kept_row symbols) moved (λ s a. refl) (length tokens) 0 tokens)

pub loop-init : goal.loop-init
loop-init c =
    let most = length c.args.tokens.now in
    let all : most - 0 ≡ most = omega arith in
    let read : ℕ → Read (List KeptRow) = λ k. rows_of (codes "kept") (clipped_kept_row c.args.sig.now) moved k 0 c.args.tokens.now in
    record {
      read =
          rw c.new-rest.ensures (ap (λ (front : List KeptRow). behind front (read (most - 0))) c.new-front.ensures ∙ ap (λ (k : ℕ). behind [] (read k)) all ∙ behind_none (read most));
      small = omega arith;
    }

pub loop-preserved : goal.loop-preserved
loop-preserved c =
    let most = length c.args.tokens.now in
    let i = c.loop.counter in
    let more : most - i ≡ suc (most - (i + 1)) = omega (arith, c.loop-test.true) in
    record {
      read =
          rw c.new-rest-in-loop.ensures (ap (λ (least : ℕ). behind c.push.new.self (rows_of (codes "kept") (clipped_kept_row c.args.sig.now) moved (most - (i + 1)) (least + 1) c.in_ok-row.after.now)) c.from-least.ensures
          ∙ rows_on (codes "kept") (clipped_kept_row c.args.sig.now) moved most i c.loop.least c.loop.front c.push.new.self c.in_ok-row.row c.loop.rest c.in_ok-row.after.now
          more c.in_ok-push.ensures.ok (rw (sym c.tokens-left.ensures) (search rules)) (ap (λ (rest : List Token). clipped_kept_row c.args.sig.now c.loop.least rest) (sym c.tokens-left.ensures) ∙ c.in_ok-row.ensures.value) ∙ c.loop.invariant.read);
      small = omega (arith, c.in_ok-row.ensures.small, c.from-least.ensures);
    }

pub returns-then-not-next_is_word : goal.returns-then-not-next_is_word
returns-then-not-next_is_word c =
    rw c.tokens-left.ensures (sym (whole_seen c.args.sig.now c.args.tokens.now) ∙ sym c.loop.invariant.read
    ∙ rows_end (codes "kept") (clipped_kept_row c.args.sig.now) moved (length c.args.tokens.now - c.loop.counter) c.loop.least c.loop.front c.loop.rest (rw (sym c.tokens-left.ensures) (search rules)))

pub returns-in_err-row : goal.returns-in_err-row
returns-in_err-row c =
    let most = length c.args.tokens.now in
    let i = c.loop.counter in
    let more : most - i ≡ suc (most - (i + 1)) = omega (arith, c.loop-test.true) in
    rows_fail (codes "kept") (clipped_kept_row c.args.sig.now) moved _ _ c.in_err-row.field-0.0 most i c.loop.least c.loop.front c.loop.rest _
    more (rw (sym c.tokens-left.ensures) (search rules)) (search rules) (subst (λ (rest : List Token). Fails c.in_err-row.field-0.0 (clipped_kept_row c.args.sig.now c.loop.least rest)) c.tokens-left.ensures c.in_err-row.ensures.value) (c.loop.invariant.read ∙ whole_seen c.args.sig.now c.args.tokens.now)

pub returns : goal.returns
returns c =
    rw c.tokens.ensures (sym (whole_seen c.args.sig.now c.args.tokens.now) ∙ sym c.loop.invariant.read
    ∙ rows_out (codes "kept") (clipped_kept_row c.args.sig.now) moved (length c.args.tokens.now - c.loop.counter) c.loop.least c.loop.front c.loop.rest
    (omega (arith, c.loop-test.false)))
