use Rattle.std.proofs.Common.{◌≡◌, ◌∙◌, ap, ℕ, List, [], suc, ◌+◌, ◌-◌, length, arith, rules}
use Rattle.sc_input_rules.specs.Reader as spec
use Rattle.sc_tptp_rules.specs.CnfGrammar as of
use Rattle.sc_input_rules.specs.declared.token.Sign.TheVariants.{Bar}
use Rattle.sc_input_rules.specs.declared.token.Token.{Token}
use Rattle.sc_input_rules.specs.Syntax.{WrittenClause}
use Rattle.sc_input_grammar.specs.Behind.{behind}
use Rattle.sc_input_grammar.proofs.Lists.{behind_none, goes_on}
use Rattle.sc_tptp.proofs.formula.literals.Goals as goal

pub loop-init : goal.loop-init
loop-init c =
    let most = length c.args.tokens.now in
    let all : most - 0 ≡ most = omega arith in
    ap (λ (rest : List Token). behind c.new-front.result (spec.separated Bar of.cnf_literal (most - 0) rest)) c.new-rest.ensures
    ∙ ap (λ (front : WrittenClause). behind front (spec.separated Bar of.cnf_literal (most - 0) c.args.tokens.now)) c.new-front.ensures
    ∙ ap (λ (k : ℕ). behind [] (spec.separated Bar of.cnf_literal k c.args.tokens.now)) all ∙ behind_none (spec.separated Bar of.cnf_literal most c.args.tokens.now)

pub loop-preserved : goal.loop-preserved
loop-preserved c =
    let most = length c.args.tokens.now in
    let more : most - c.loop.counter ≡ suc (most - (c.loop.counter + 1)) = omega (arith, c.loop-test.true) in
    ap (λ (rest : List Token). behind c.push.new.self (spec.separated Bar of.cnf_literal (most - (c.loop.counter + 1)) rest)) c.new-rest-in-loop.ensures
    ∙ goes_on Bar of.cnf_literal most c.loop.counter c.loop.front c.push.new.self c.in_ok-literal.literal c.tokens-left.result.now c.in_ok-literal.after.now c.in_ok-next.next.now
    more c.in_ok-push.ensures.ok c.in_ok-literal.ensures (search rules) c.in_ok-next.ensures
    ∙ ap (λ (rest : List Token). behind c.loop.front (spec.separated Bar of.cnf_literal (most - c.loop.counter) rest)) c.tokens-left.ensures ∙ c.loop.invariant
