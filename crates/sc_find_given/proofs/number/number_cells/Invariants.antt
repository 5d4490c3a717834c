use Rattle.std.proofs.Common.{ℕ, List, length}
use Rattle.sc_cells.specs.Cells.{Entry}
use Rattle.sc_find_given.specs.Numbering.{HaveRows, AreApart, AreBlank, AreNumbered}
use Rattle.sc_find_given.proofs.number.number_cells.Given as goal

abbrev pub invariant-loop-number : goal.invariant-loop-number
invariant-loop-number l =
    (size : ℕ) (entries : List Entry) → HaveRows size l.initial.rows entries l.cells
    → HaveRows size l.rows entries l.cells × (AreApart entries → AreBlank size l.initial.rows (length entries) → AreNumbered l.number size l.rows entries)
