use Rattle.std.proofs.Common.{◌∙◌, ap, sym, subst, flat_map}
use Rattle.sc_term.specs.Symbol.{same_symbol}
use Rattle.sc_input_values.specs.Once.{with_each}
use Rattle.sc_input_values.specs.Names.{clause_symbols, MayJoin}
use Rattle.sc_input_values.proofs.OnceLaws.{with_each-turn}
use Rattle.sc_input_values.proofs.JoinLaws.{flat_turn, join_turn}
use Rattle.sc_input_values.proofs.symbols.add_clauses.Goals as goal

pub add_clause-requires : goal.add_clause-requires
add_clause-requires c =
    let all = c.args.clauses.now in
    let i = c.loop-clause.clause-index in
    let one = c.clause-item.result in
    subst (λ ls. MayJoin c.loop-clause.sig (clause_symbols ls)) (sym c.as_slice.ensures)
    (join_turn (flat_map clause_symbols) c.args.sig.now all i one (clause_symbols one) c.loop-clause.sig (flat_turn clause_symbols all i one c.loop-clause-test.true c.clause-item.is) c.requires c.loop-clause.invariant)

pub loop-clause-preserved : goal.loop-clause-preserved
loop-clause-preserved c =
    let all = c.args.clauses.now in
    let i = c.loop-clause.clause-index in
    let one = c.clause-item.result in
    c.in_ok-add_clause.ensures ∙ ap (λ ls. with_each same_symbol c.loop-clause.sig (clause_symbols ls)) c.as_slice.ensures
    ∙ ap (λ ss. with_each same_symbol ss (clause_symbols one)) c.loop-clause.invariant
    ∙ with_each-turn same_symbol (flat_map clause_symbols) c.args.sig.now all i one (clause_symbols one) (flat_turn clause_symbols all i one c.loop-clause-test.true c.clause-item.is)
