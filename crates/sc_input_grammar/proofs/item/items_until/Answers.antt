use Rattle.std.proofs.Common.{◌≡◌, ◌∙◌, sym, ap, ℕ, List, [], suc, ◌+◌, ◌-◌, length, arith, rules}
use Rattle.std.proofs.lemmas.List.{map_push}
use Rattle.sc_input_rules.specs.Reader as spec
use Rattle.sc_input_rules.specs.declared.token.Token.{Token}
use Rattle.sc_input_rules.specs.ProblemGrammar.{Item}
use Rattle.sc_input_grammar.specs.declared.item.Ending.{Ending}
use Rattle.sc_input_grammar.specs.declared.item.Item.{Item as Told}
use Rattle.sc_input_grammar.specs.Behind.{behind}
use Rattle.sc_input_grammar.specs.Items.{item_of, items_of, told_item, ends_at}
use Rattle.sc_input_grammar.proofs.Lists.{behind_none, repeats_one, repeats_none, repeats_fails}
use Rattle.sc_input_grammar.proofs.item.items_until.Goals as goal

pub loop-init : goal.loop-init
loop-init c =
    let most = length c.args.tokens.now in
    let all : most - 0 ≡ most = omega arith in
    let read : ℕ → spec.Read (List Item) = λ k. spec.repeated (ends_at c.args.ending) told_item k c.args.tokens.now in
    ap (λ (rest : List Token). behind (items_of c.new-front.result) (spec.repeated (ends_at c.args.ending) told_item (most - 0) rest)) c.new-rest.ensures
    ∙ ap (λ (front : List Told). behind (items_of front) (read (most - 0))) c.new-front.ensures
    ∙ ap (λ (k : ℕ). behind [] (read k)) all ∙ behind_none (read most)

-- what is still to be read, as it is read
abbrev read : Ending → ℕ → List Token → spec.Read (List Item)
read ending k rest = spec.repeated (ends_at ending) told_item k rest

pub loop-preserved : goal.loop-preserved
loop-preserved c =
    let most = length c.args.tokens.now in
    let more : most - c.loop.counter ≡ suc (most - (c.loop.counter + 1)) = omega (arith, c.loop-test.true) in
    ap (λ (rest : List Token). behind (items_of c.push.new.self) (read c.args.ending (most - (c.loop.counter + 1)) rest)) c.new-rest-in-loop.ensures
    ∙ repeats_one (ends_at c.args.ending) told_item most c.loop.counter (items_of c.loop.front) (items_of c.push.new.self) (item_of c.in_ok-item.item) c.tokens-left.result.now c.in_ok-item.after.now
    more (ap items_of c.in_ok-push.ensures.ok ∙ map_push item_of c.loop.front c.in_ok-item.item) (search rules) c.in_ok-item.ensures
    ∙ ap (λ (rest : List Token). behind (items_of c.loop.front) (read c.args.ending (most - c.loop.counter) rest)) c.tokens-left.ensures ∙ c.loop.invariant

pub returns-then-ends : goal.returns-then-ends
returns-then-ends c =
    sym (ap (λ (rest : List Token). behind (items_of c.loop.front) (read c.args.ending (length c.args.tokens.now - c.loop.counter) rest)) c.tokens-left.ensures ∙ c.loop.invariant)
    ∙ repeats_none (ends_at c.args.ending) told_item (length c.args.tokens.now - c.loop.counter) (items_of c.loop.front) c.tokens-left.result.now (search rules)

pub returns-in_err-item : goal.returns-in_err-item
returns-in_err-item c =
    let most = length c.args.tokens.now in
    let more : most - c.loop.counter ≡ suc (most - (c.loop.counter + 1)) = omega (arith, c.loop-test.true) in
    repeats_fails _ _ c.in_err-item.field-0.0 (ends_at c.args.ending) told_item most c.loop.counter (items_of c.loop.front) c.tokens-left.result.now _
    more (search rules) (search rules) c.in_err-item.ensures
    (ap (λ (rest : List Token). behind (items_of c.loop.front) (read c.args.ending (most - c.loop.counter) rest)) c.tokens-left.ensures ∙ c.loop.invariant)
