use Rattle.std.proofs.Common.{◌∙◌, sym, subst, ℕ, [], ◌∷◌}
use Rattle.std.specs.Prelude.{Option}
use Rattle.sc_input_rules.specs.Numbering.{function_at}
use Rattle.sc_input_limits.specs.Symbols.{FindsMore}
use Rattle.sc_input_limits.proofs.Finds.{at_function}
use Rattle.sc_input_limits.proofs.symbols.add_functions.Goals as goal

pub returns-in-Some : goal.returns-in-Some
returns-in-Some c =
    let x = c.name-item.result in
    let P : Option ℕ → Type 0 = λ told. FindsMore (function_at x ∷ []) c.loop-name.symbols c.add_occurrence.new.symbols told in
    at_function c.args.names.now c.loop-name.name-index x c.args.symbols.now c.loop-name.symbols c.add_occurrence.new.symbols c.in-Some.at c.loop-name-test.true c.name-item.is
    (sym c.is_variable.ensures ∙ c.if-not-is_variable.true) c.loop-name.invariant (subst P c.in-Some.is c.in_ok-at.ensures)
