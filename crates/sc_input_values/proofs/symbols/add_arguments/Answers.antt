use Rattle.std.proofs.Common.{◌∙◌, sym, ap, [], ◌∷◌}
use Rattle.sc_term.specs.declared.symbol.Role.TheVariants.{Function}
use Rattle.sc_term.specs.Symbol.{same_symbol}
use Rattle.sc_input_values.specs.Once.{with_each}
use Rattle.sc_input_values.specs.Names.{symbol_at, argument_symbols}
use Rattle.sc_input_values.proofs.OnceLaws.{with_each-turn}
use Rattle.sc_input_values.proofs.JoinLaws.{function_turn, variable_turn, join_turn}
use Rattle.sc_input_values.proofs.symbols.add_arguments.Goals as goal
use Rattle.sc_input_values.proofs.symbols.add_arguments.Goals.{then-not-is_variable+in_ok-add_symbol, else-not-is_variable}

pub add_symbol-requires : goal.add_symbol-requires
add_symbol-requires c =
    let os = c.args.occurrences.now in
    let i = c.loop-occurrence.occurrence-index in
    let o = c.occurrence-item.result in
    join_turn argument_symbols c.args.sig.now os i o (symbol_at Function o ∷ []) c.loop-occurrence.sig
    (function_turn os i o c.loop-occurrence-test.true c.occurrence-item.is (sym c.is_variable.ensures ∙ c.if-not-is_variable.true)) c.requires c.loop-occurrence.invariant

pub loop-occurrence-preserved : goal.loop-occurrence-preserved
loop-occurrence-preserved c =
    let os = c.args.occurrences.now in
    let i = c.loop-occurrence.occurrence-index in
    let o = c.occurrence-item.result in
    elim c.if-not-is_variable.branch [
      | then-not-is_variable+in_ok-add_symbol w ↦
          w.sig-is ∙ (w.in_ok-add_symbol).ensures ∙ ap (λ ss. with_each same_symbol ss (symbol_at Function o ∷ [])) c.loop-occurrence.invariant
          ∙ with_each-turn same_symbol argument_symbols c.args.sig.now os i o (symbol_at Function o ∷ [])
          (function_turn os i o c.loop-occurrence-test.true c.occurrence-item.is (sym c.is_variable.ensures ∙ (w.if-not-is_variable).true))
      | else-not-is_variable w ↦
          w.sig-is ∙ c.loop-occurrence.invariant
          ∙ with_each-turn same_symbol argument_symbols c.args.sig.now os i o []
          (variable_turn os i o c.loop-occurrence-test.true c.occurrence-item.is (sym c.is_variable.ensures ∙ (w.if-not-is_variable).false))
    ]
