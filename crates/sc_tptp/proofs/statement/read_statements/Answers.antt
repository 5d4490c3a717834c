use Rattle.std.proofs.Common.{◌≡◌, ◌∙◌, sym, ap, ℕ, List, [], suc, ◌+◌, ◌-◌, length, arith, rules}
use Rattle.std.proofs.lemmas.List.{map_push}
use Rattle.sc_input_rules.specs.Reader as spec
use Rattle.sc_input_rules.specs.declared.token.Token.{Token}
use Rattle.sc_input_rules.specs.ProblemGrammar.{at_end}
use Rattle.sc_input_grammar.specs.Behind.{behind}
use Rattle.sc_input_grammar.proofs.Lists.{behind_none, repeats_one, repeats_none, repeats_fails}
use Rattle.sc_tptp_rules.specs.CnfGrammar.{Statement, statement}
use Rattle.sc_tptp.specs.declared.statement.Statement.{Statement as Told}
use Rattle.sc_tptp.specs.Statements.{statement_of, statements_of}
use Rattle.sc_tptp.proofs.statement.read_statements.Goals as goal

-- what is still to be read, as it is read
abbrev read : ℕ → List Token → spec.Read (List Statement)
read k rest = spec.repeated at_end statement k rest

pub loop-init : goal.loop-init
loop-init c =
    let most = length c.args.tokens.now in
    let all : most - 0 ≡ most = omega arith in
    ap (λ (rest : List Token). behind (statements_of c.new-front.result) (read (most - 0) rest)) c.new-rest.ensures
    ∙ ap (λ (front : List Told). behind (statements_of front) (read (most - 0) c.args.tokens.now)) c.new-front.ensures
    ∙ ap (λ (k : ℕ). behind [] (read k c.args.tokens.now)) all ∙ behind_none (read most c.args.tokens.now)

pub loop-preserved : goal.loop-preserved
loop-preserved c =
    let most = length c.args.tokens.now in
    let more : most - c.loop.counter ≡ suc (most - (c.loop.counter + 1)) = omega (arith, c.loop-test.true) in
    ap (λ (rest : List Token). behind (statements_of c.push.new.self) (read (most - (c.loop.counter + 1)) rest)) c.new-rest-in-loop.ensures
    ∙ repeats_one at_end statement most c.loop.counter (statements_of c.loop.front) (statements_of c.push.new.self) (statement_of c.in_ok-statement.statement) c.tokens-left.result.now c.in_ok-statement.after.now
    more (ap statements_of c.in_ok-push.ensures.ok ∙ map_push statement_of c.loop.front c.in_ok-statement.statement) (search rules) c.in_ok-statement.ensures
    ∙ ap (λ (rest : List Token). behind (statements_of c.loop.front) (read (most - c.loop.counter) rest)) c.tokens-left.ensures ∙ c.loop.invariant

pub returns-then-is_at_end : goal.returns-then-is_at_end
returns-then-is_at_end c =
    sym (ap (λ (rest : List Token). behind (statements_of c.loop.front) (read (length c.args.tokens.now - c.loop.counter) rest)) c.tokens-left.ensures ∙ c.loop.invariant)
    ∙ repeats_none at_end statement (length c.args.tokens.now - c.loop.counter) (statements_of c.loop.front) c.tokens-left.result.now (search rules)

pub returns-in_err-statement : goal.returns-in_err-statement
returns-in_err-statement c =
    let most = length c.args.tokens.now in
    let more : most - c.loop.counter ≡ suc (most - (c.loop.counter + 1)) = omega (arith, c.loop-test.true) in
    repeats_fails _ _ c.in_err-statement.field-0.0 at_end statement most c.loop.counter (statements_of c.loop.front) c.tokens-left.result.now _
    more (search rules) (search rules) c.in_err-statement.ensures
    (ap (λ (rest : List Token). behind (statements_of c.loop.front) (read (most - c.loop.counter) rest)) c.tokens-left.ensures ∙ c.loop.invariant)
