use Rattle.std.proofs.Common.{◌∙◌, ap}
use Rattle.sc_term.specs.Symbol.{same_symbol}
use Rattle.sc_input_values.specs.Once.{with_each}
use Rattle.sc_input_values.specs.Names.{literal_symbols, clause_symbols}
use Rattle.sc_input_values.proofs.OnceLaws.{with_each-turn}
use Rattle.sc_input_values.proofs.JoinLaws.{flat_turn, join_turn}
use Rattle.sc_input_values.proofs.symbols.add_clause.Goals as goal

pub add_literal-requires : goal.add_literal-requires
add_literal-requires c =
    let all = c.args.clause.now in
    let i = c.loop-literal.literal-index in
    let one = c.literal-item.result in
    join_turn clause_symbols c.args.sig.now all i one (literal_symbols one) c.loop-literal.sig (flat_turn literal_symbols all i one c.loop-literal-test.true c.literal-item.is) c.requires c.loop-literal.invariant

pub loop-literal-preserved : goal.loop-literal-preserved
loop-literal-preserved c =
    let all = c.args.clause.now in
    let i = c.loop-literal.literal-index in
    let one = c.literal-item.result in
    c.in_ok-add_literal.ensures ∙ ap (λ ss. with_each same_symbol ss (literal_symbols one)) c.loop-literal.invariant
    ∙ with_each-turn same_symbol clause_symbols c.args.sig.now all i one (literal_symbols one) (flat_turn literal_symbols all i one c.loop-literal-test.true c.literal-item.is)
