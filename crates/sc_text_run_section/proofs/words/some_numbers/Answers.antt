use Rattle.std.proofs.Common.{◌≡◌, ◌∙◌, sym, ap, ℕ, List, [], suc, ◌+◌, ◌-◌, length, arith, rules, subst}
use Rattle.sc_input_scan.specs.Told.{Fails}
use Rattle.sc_input_rules.specs.declared.token.Token.{Token}
use Rattle.sc_input_rules.specs.Reader as spec
use Rattle.sc_input_grammar.specs.Behind.{behind}
use Rattle.sc_input_grammar.proofs.Lists.{behind_none, repeats_one, repeats_none, repeats_fails}
use Rattle.sc_text_run_rules.specs.RowWords.{no_digits, a_row_number}
use Rattle.sc_text_run_section.proofs.words.some_numbers.Goals as goal

pub loop-init : goal.loop-init
loop-init c =
    let most = length c.args.tokens.now in
    let all : most - 0 ≡ most = omega arith in
    let read : ℕ → spec.Read (List ℕ) = λ k. spec.repeated no_digits a_row_number k c.args.tokens.now in
    rw c.new-rest.ensures (ap (λ (front : List ℕ). behind front (read (most - 0))) c.new-front.ensures ∙ ap (λ (k : ℕ). behind [] (read k)) all ∙ behind_none (read most))

pub loop-preserved : goal.loop-preserved
loop-preserved c =
    let most = length c.args.tokens.now in
    let more : most - c.loop.counter ≡ suc (most - (c.loop.counter + 1)) = omega (arith, c.loop-test.true) in
    rw c.new-rest-in-loop.ensures (repeats_one no_digits a_row_number most c.loop.counter c.loop.front c.push.new.self c.in_ok-number.number c.loop.rest c.in_ok-number.after.now
    more c.in_ok-push.ensures.ok (rw (sym c.tokens-left.ensures) (search rules)) (ap (λ (rest : List Token). a_row_number rest) (sym c.tokens-left.ensures) ∙ c.in_ok-number.ensures) ∙ c.loop.invariant)

pub returns-then-no_digits : goal.returns-then-no_digits
returns-then-no_digits c =
    rw c.tokens-left.ensures (sym c.loop.invariant ∙ repeats_none no_digits a_row_number (length c.args.tokens.now - c.loop.counter) c.loop.front c.loop.rest (rw (sym c.tokens-left.ensures) (search rules)))

pub returns-in_err-number : goal.returns-in_err-number
returns-in_err-number c =
    let most = length c.args.tokens.now in
    let more : most - c.loop.counter ≡ suc (most - (c.loop.counter + 1)) = omega (arith, c.loop-test.true) in
    repeats_fails _ _ c.in_err-number.field-0.0 no_digits a_row_number most c.loop.counter c.loop.front c.loop.rest _
    more (rw (sym c.tokens-left.ensures) (search rules)) (search rules) (subst (λ (rest : List Token). Fails c.in_err-number.field-0.0 (a_row_number rest)) c.tokens-left.ensures c.in_err-number.ensures) c.loop.invariant
