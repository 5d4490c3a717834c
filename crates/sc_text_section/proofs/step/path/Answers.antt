use Rattle.std.proofs.Common.{◌≡◌, ◌∙◌, ap, refl, ℕ, List, [], ◌∷◌, suc, ◌+◌, ◌-◌, map, arith, rules}
use Rattle.sc_input_rules.specs.Reader as spec
use Rattle.sc_input_rules.specs.declared.token.Token.{Token}
use Rattle.sc_input_rules.specs.declared.token.Sign.TheVariants.{Comma}
use Rattle.sc_input_grammar.specs.Behind.{behind}
use Rattle.sc_input_grammar.proofs.Lists.{behind_none}
use Rattle.sc_text_rules.specs.TextWords.{a_number}
use Rattle.sc_text_section.specs.Clipped.{clipped, seen_by}
use Rattle.sc_text_section.proofs.Sequences.{seen_as, fails_as, gathers_on, gathers_fails}
use Rattle.sc_text_section.proofs.step.path.Goals as goal

abbrev single : ℕ → List ℕ
single n = clipped n ∷ []

-- what is still to be read, as it is read
abbrev read : ℕ → List Token → spec.Read (List ℕ)
read k rest = seen_by (map clipped) (spec.separated Comma a_number k rest)

pub loop-init : goal.loop-init
loop-init c =
    let all : c.args.most - 0 ≡ c.args.most = omega arith in
    ap (λ (rest : List Token). behind c.new-front.result (read (c.args.most - 0) rest)) c.new-rest.ensures
    ∙ ap (λ (front : List ℕ). behind front (read (c.args.most - 0) c.args.tokens.now)) c.new-front.ensures
    ∙ ap (λ (k : ℕ). behind [] (read k c.args.tokens.now)) all ∙ behind_none (read c.args.most c.args.tokens.now)

pub loop-preserved : goal.loop-preserved
loop-preserved c =
    let more : c.args.most - c.loop.counter ≡ suc (c.args.most - (c.loop.counter + 1)) = omega (arith, c.loop-test.true) in
    ap (λ (rest : List Token). behind c.push.new.self (read (c.args.most - (c.loop.counter + 1)) rest)) c.new-rest-in-loop.ensures
    ∙ gathers_on Comma a_number single (map clipped) refl (λ x xs. refl) c.args.most c.loop.counter c.loop.front c.push.new.self (c.in_ok-number.number ∷ []) c.tokens-left.result.now c.in_ok-number.after.now c.in_ok-next.next.now
    more c.in_ok-push.ensures.ok (seen_as clipped (λ k. k ∷ []) (a_number c.tokens-left.result.now) c.in_ok-number.number c.in_ok-number.after.now c.in_ok-number.ensures) (search rules) c.in_ok-next.ensures
    ∙ ap (λ (rest : List Token). behind c.loop.front (read (c.args.most - c.loop.counter) rest)) c.tokens-left.ensures ∙ c.loop.invariant

pub returns-in_err-number : goal.returns-in_err-number
returns-in_err-number c =
    let more : c.args.most - c.loop.counter ≡ suc (c.args.most - (c.loop.counter + 1)) = omega (arith, c.loop-test.true) in
    gathers_fails Comma a_number single (map clipped) refl (λ x xs. refl) _ _ c.in_err-number.field-0.0 c.args.most c.loop.counter c.loop.front c.tokens-left.result.now _
    more (search rules) (fails_as clipped (λ k. k ∷ []) (a_number c.tokens-left.result.now) c.in_err-number.field-0.0 c.in_err-number.ensures)
    (ap (λ (rest : List Token). behind c.loop.front (read (c.args.most - c.loop.counter) rest)) c.tokens-left.ensures ∙ c.loop.invariant)
