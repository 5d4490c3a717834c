use Rattle.std.proofs.Common.{◌≡◌, ◌∙◌, sym, ap, ℕ, List, [], suc, ◌+◌, ◌-◌, length, codes, arith, rules}
use Rattle.sc_input_rules.specs.Reader as spec
use Rattle.sc_input_rules.specs.declared.token.Token.{Token}
use Rattle.sc_input_rules.specs.ProblemGrammar as of
use Rattle.sc_input_rules.specs.Syntax.{WrittenClause}
use Rattle.sc_input_grammar.specs.Behind.{behind}
use Rattle.sc_input_grammar.proofs.Lists.{behind_none, repeats_one, repeats_none, repeats_fails}
use Rattle.sc_input_grammar.proofs.item.clauses.Goals as goal

pub loop-init : goal.loop-init
loop-init c =
    let most = length c.args.tokens.now in
    let all : most - 0 ≡ most = omega arith in
    let read : ℕ → spec.Read (List WrittenClause) = λ k. spec.repeated (of.next_is_word (codes "end_of_list")) of.ended_clause k c.args.tokens.now in
    ap (λ (rest : List Token). behind c.new-front.result (spec.repeated (of.next_is_word (codes "end_of_list")) of.ended_clause (most - 0) rest)) c.new-rest.ensures
    ∙ ap (λ (front : List WrittenClause). behind front (read (most - 0))) c.new-front.ensures
    ∙ ap (λ (k : ℕ). behind [] (read k)) all ∙ behind_none (read most)

-- what is still to be read, as it is read
abbrev read : ℕ → List Token → spec.Read (List WrittenClause)
read k rest = spec.repeated (of.next_is_word (codes "end_of_list")) of.ended_clause k rest

pub loop-preserved : goal.loop-preserved
loop-preserved c =
    let most = length c.args.tokens.now in
    let more : most - c.loop.counter ≡ suc (most - (c.loop.counter + 1)) = omega (arith, c.loop-test.true) in
    ap (λ (rest : List Token). behind c.push.new.self (read (most - (c.loop.counter + 1)) rest)) c.new-rest-in-loop.ensures
    ∙ repeats_one (of.next_is_word (codes "end_of_list")) of.ended_clause most c.loop.counter c.loop.front c.push.new.self c.in_ok-clause.clause c.tokens-left.result.now c.in_ok-clause.after.now
    more c.in_ok-push.ensures.ok (search rules) c.in_ok-clause.ensures
    ∙ ap (λ (rest : List Token). behind c.loop.front (read (most - c.loop.counter) rest)) c.tokens-left.ensures ∙ c.loop.invariant

pub returns-then-at_end_of_list : goal.returns-then-at_end_of_list
returns-then-at_end_of_list c =
    sym (ap (λ (rest : List Token). behind c.loop.front (read (length c.args.tokens.now - c.loop.counter) rest)) c.tokens-left.ensures ∙ c.loop.invariant)
    ∙ repeats_none (of.next_is_word (codes "end_of_list")) of.ended_clause (length c.args.tokens.now - c.loop.counter) c.loop.front c.tokens-left.result.now (search rules)

pub returns-in_err-clause : goal.returns-in_err-clause
returns-in_err-clause c =
    let most = length c.args.tokens.now in
    let more : most - c.loop.counter ≡ suc (most - (c.loop.counter + 1)) = omega (arith, c.loop-test.true) in
    repeats_fails _ _ c.in_err-clause.field-0.0 (of.next_is_word (codes "end_of_list")) of.ended_clause most c.loop.counter c.loop.front c.tokens-left.result.now _
    more (search rules) (search rules) c.in_err-clause.ensures
    (ap (λ (rest : List Token). behind c.loop.front (read (most - c.loop.counter) rest)) c.tokens-left.ensures ∙ c.loop.invariant)
