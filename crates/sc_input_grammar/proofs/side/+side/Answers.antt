use Rattle.std.proofs.Common.{◌≡◌, ◌∙◌, sym, ap, ℕ, List, suc, ◌+◌, ◌-◌, arith, rules}
use Rattle.sc_input_rules.specs.Reader as spec
use Rattle.sc_input_rules.specs.declared.token.Sign.TheVariants.{Comma}
use Rattle.sc_input_rules.specs.declared.token.Token.{Token}
use Rattle.sc_input_rules.specs.ClauseGrammar.{side_within}
use Rattle.sc_input_grammar.specs.Behind.{behind, sides_behind}
use Rattle.sc_input_grammar.proofs.Sides.{goes_on, one_side}
use Rattle.sc_input_grammar.proofs.side.+side.Goals as goal

pub side_within-returns : goal.side_within-returns
side_within-returns t c =
    let more : c.args.n ≡ suc (c.args.n - 1) = omega (arith, c.if-n-eq0.false) in
    ap (λ (k : ℕ). behind c.args.names.now (side_within k c.args.tokens.now)) more
    ∙ one_side (c.args.n - 1) c.len-place.result c.in_ok-arity.arity c.args.names.now c.push.new.self c.arguments.new.names c.set.new.self c.args.tokens.now c.in_ok-at.rest.now c.in_ok-arity.rest.now _ _
    c.in_ok-at.ensures c.len-place.ensures c.in_ok-push.ensures.ok c.in_ok-arity.ensures c.set.ensures

pub sides-loop-preserved : goal.sides-loop-preserved
sides-loop-preserved t c =
    let more : c.args.most - c.loop.counter ≡ suc (c.args.most - (c.loop.counter + 1)) = omega (arith, c.loop-test.true) in
    record {
      so_far = ap (λ (rest : List Token). sides_behind (c.loop.count + 1) c.side_within.new.names (spec.separated Comma (side_within c.args.n) (c.args.most - (c.loop.counter + 1)) rest)) c.new-rest-in-loop.ensures
          ∙ goes_on (side_within c.args.n) c.loop.count c.loop.names c.side_within.new.names (c.args.most - (c.loop.counter + 1)) c.tokens-left.result.now _ _ c.in_ok-after.ensures (search rules) c.in_ok-next.ensures
          ∙ ap (λ (k : ℕ). sides_behind c.loop.count c.loop.names (spec.separated Comma (side_within c.args.n) k c.tokens-left.result.now)) (sym more)
          ∙ ap (λ (rest : List Token). sides_behind c.loop.count c.loop.names (spec.separated Comma (side_within c.args.n) (c.args.most - c.loop.counter) rest)) c.tokens-left.ensures ∙ c.loop.invariant.so_far;
      counted = omega (arith, c.loop.invariant.counted);
    }
