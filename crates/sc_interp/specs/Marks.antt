-- The mark of a clause in tables.
use Rattle.std.specs.Prelude.{◌≤◌, ◌<◌, ℕ, ◌^◌, length}
use Rattle.sc_term.specs.declared.Clause.{Clause}
use Rattle.sc_term.specs.Clause.{variables, firsts}
use Rattle.sc_interp.specs.declared.plain.Truth.{Truth}
use Rattle.sc_interp.specs.declared.plain.Truth.TheVariants.{True, False, Wide}
use Rattle.sc_interp.specs.Structure.{Structure, Satisfies}

-- the number of assignments of elements to the distinct variables of the clause
abbrev pub assignments : ℕ → Clause → ℕ
assignments size c = size ^ length (firsts (variables c))

-- Wide exactly where there are more than 4,096 assignments, otherwise whether all of them make some literal true
abbrev pub IsMark : Structure → Clause → Truth → Type 0
IsMark t c Wide = 4096 < assignments t.size c
IsMark t c True = (assignments t.size c ≤ 4096) × Satisfies t c
IsMark t c False = (assignments t.size c ≤ 4096) × (¬ Satisfies t c)
