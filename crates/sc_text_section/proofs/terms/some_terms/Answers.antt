use Rattle.std.proofs.Common.{◌≡◌, ◌∙◌, sym, ap, refl, ℕ, List, [], suc, ◌+◌, ◌-◌, length, arith, rules}
use Rattle.std.specs.List.{flat_map}
use Rattle.std.proofs.lemmas.List.Concat.{flat_map-cons}
use Rattle.sc_term.specs.declared.Term.{Term}
use Rattle.sc_term.specs.declared.symbol.Symbol.{Symbol}
use Rattle.sc_input_rules.specs.declared.token.Token.{Token}
use Rattle.sc_input_rules.specs.Reader as spec
use Rattle.sc_input_rules.specs.ClauseGrammar.{side}
use Rattle.sc_input_rules.specs.Numbering.{terms_of}
use Rattle.sc_input_rules.specs.declared.token.Sign.TheVariants.{Comma}
use Rattle.sc_input_grammar.specs.Behind.{behind}
use Rattle.sc_input_grammar.proofs.Lists.{behind_none}
use Rattle.sc_text_section.specs.Clipped.{seen_by}
use Rattle.sc_text_section.specs.Numerals.{clipped_variable}
use Rattle.sc_text_section.proofs.Sequences.{gathers_on, gathers_last, gathers_fails}
use Rattle.sc_text_section.proofs.terms.some_terms.Goals as goal

-- what is still to be read, as it is read
abbrev read : List Symbol → ℕ → List Token → spec.Read (List Term)
read symbols k rest = seen_by (flat_map (terms_of clipped_variable symbols)) (spec.separated Comma side k rest)

pub loop-init : goal.loop-init
loop-init c =
    let most = length c.args.tokens.now in
    let all : most - 0 ≡ most = omega arith in
    let read_all : ℕ → spec.Read (List Term) = λ k. read c.args.sig.now k c.args.tokens.now in
    ap (λ (rest : List Token). behind c.new-front.result (read c.args.sig.now (most - 0) rest)) c.new-rest.ensures
    ∙ ap (λ (front : List Term). behind front (read_all (most - 0))) c.new-front.ensures ∙ ap (λ (k : ℕ). behind [] (read_all k)) all ∙ behind_none (read_all most)

pub loop-preserved : goal.loop-preserved
loop-preserved c =
    let most = length c.args.tokens.now in
    let more : most - c.loop.counter ≡ suc (most - (c.loop.counter + 1)) = omega (arith, c.loop-test.true) in
    let one = terms_of clipped_variable c.args.sig.now in
    ap (λ (rest : List Token). behind c.append.new.self (read c.args.sig.now (most - (c.loop.counter + 1)) rest)) c.new-rest-in-loop.ensures
    ∙ gathers_on Comma side one (flat_map one) refl (flat_map-cons one) most c.loop.counter c.loop.front c.append.new.self c.in_ok-terms.terms c.tokens-left.result.now c.in_ok-terms.after.now c.in_ok-next.next.now
    more c.in_ok-append.ensures c.in_ok-terms.ensures (search rules) c.in_ok-next.ensures
    ∙ ap (λ (rest : List Token). behind c.loop.front (read c.args.sig.now (most - c.loop.counter) rest)) c.tokens-left.ensures ∙ c.loop.invariant

pub returns-in_err-terms : goal.returns-in_err-terms
returns-in_err-terms c =
    let most = length c.args.tokens.now in
    let more : most - c.loop.counter ≡ suc (most - (c.loop.counter + 1)) = omega (arith, c.loop-test.true) in
    let one = terms_of clipped_variable c.args.sig.now in
    gathers_fails Comma side one (flat_map one) refl (flat_map-cons one) _ _ c.in_err-terms.field-0.0 most c.loop.counter c.loop.front c.tokens-left.result.now _
    more (search rules) c.in_err-terms.ensures
    (ap (λ (rest : List Token). behind c.loop.front (read c.args.sig.now (most - c.loop.counter) rest)) c.tokens-left.ensures ∙ c.loop.invariant)

pub returns-then-not-next_is_sign : goal.returns-then-not-next_is_sign
returns-then-not-next_is_sign c =
    let most = length c.args.tokens.now in
    let more : most - c.loop.counter ≡ suc (most - (c.loop.counter + 1)) = omega (arith, c.loop-test.true) in
    let one = terms_of clipped_variable c.args.sig.now in
    sym (ap (λ (rest : List Token). behind c.loop.front (read c.args.sig.now (most - c.loop.counter) rest)) c.tokens-left.ensures ∙ c.loop.invariant)
    ∙ gathers_last Comma side one (flat_map one) refl (flat_map-cons one) most c.loop.counter c.loop.front c.append.new.self c.in_ok-terms.terms c.tokens-left.result.now c.in_ok-terms.after.now
    more c.in_ok-append.ensures c.in_ok-terms.ensures (search rules)
