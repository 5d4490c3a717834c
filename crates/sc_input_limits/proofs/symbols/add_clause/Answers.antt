use Rattle.std.proofs.Common.{subst, ℕ}
use Rattle.std.specs.Prelude.{Option}
use Rattle.sc_input_rules.specs.Numbering.{found_in}
use Rattle.sc_input_limits.specs.Symbols.{FindsMore}
use Rattle.sc_input_limits.proofs.Finds.{at_literal}
use Rattle.sc_input_limits.proofs.symbols.add_clause.Goals as goal

pub returns-in-Some : goal.returns-in-Some
returns-in-Some c =
    let x = c.literal-item.result in
    let P : Option ℕ → Type 0 = λ told. FindsMore (found_in x) c.loop-literal.symbols c.add_literal.new.symbols told in
    at_literal c.args.clause.now c.loop-literal.literal-index x c.args.symbols.now c.loop-literal.symbols c.add_literal.new.symbols c.in-Some.at c.loop-literal-test.true c.literal-item.is
    c.loop-literal.invariant (subst P c.in-Some.is c.in_ok-at.ensures)
