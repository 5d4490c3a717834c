-- What ends the start.
use Rattle.std.specs.Prelude.{◌≡◌, ℕ, Option, Some, None}
use Rattle.sc_steps.specs.declared.derivations.derivation.Derived.{Derived}
use Rattle.sc_core_rules.specs.Book.{with_derived}
use Rattle.sc_keep.specs.Lists.{book_of}
use Rattle.sc_keep.specs.declared.start.Ending.{Ending}
use Rattle.sc_keep.specs.declared.start.Started.{Started}

-- an empty clause of that number is the goal, or one that is made joins the derived clauses with the next number
abbrev pub EndsIn : Started → ℕ → Option Derived → ℕ → Started → Type 0
EndsIn old n None next new = (book_of new.lists ≡ book_of old.lists) × (new.goal ≡ Some n)
EndsIn old n (Some made) next new = (book_of new.lists ≡ with_derived (book_of old.lists) made.clause made.lines) × (new.goal ≡ Some next)

-- the same, or nothing changes
abbrev pub IsEndedBy : Started → Option Ending → ℕ → Started → Type 0
IsEndedBy old None next new = (book_of new.lists ≡ book_of old.lists) × (new.goal ≡ old.goal)
IsEndedBy old (Some ending) next new = EndsIn old ending.number ending.made next new
