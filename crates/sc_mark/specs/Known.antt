-- What is known of a clause that is marked: its truth, and where it is false an assignment that shows it.
use Rattle.std.specs.Prelude.{◌≡◌, ℕ, List, false, length}
use Rattle.sc_term.specs.declared.Clause.{Clause}
use Rattle.sc_term.specs.Clause.{width}
use Rattle.sc_interp.specs.declared.plain.Truth.{Truth}
use Rattle.sc_interp.specs.declared.plain.Truth.TheVariants as truth
use Rattle.sc_interp.specs.Structure.{Structure}
use Rattle.sc_interp.specs.Assignments.{AreElements, assignment_number, holds_at}
use Rattle.sc_interp.specs.Marks.{IsMark}
use Rattle.sc_mark.specs.declared.known.Known.{Known}
use Rattle.sc_mark.specs.declared.known.Known.TheVariants.{True, False, Wide}

-- the truth alone
abbrev pub truth_known : Known → Truth
truth_known True = truth.True
truth_known (False number) = truth.False
truth_known Wide = truth.Wide

-- the assignment with this number makes no literal of the clause true
pub record IsFalsifiedBy (t : Structure) (c : Clause) (number : ℕ) : Type 0 where
  pub values : List ℕ
  pub long : length values ≡ width c
  pub elements : AreElements t.size values
  pub numbered : assignment_number t.size values ≡ number
  pub none : holds_at t.size t.tables c values ≡ false

-- the mark of the clause, and where it is False an assignment that makes no literal true
abbrev pub IsKnown : Structure → Clause → Known → Type 0
IsKnown t c True = IsMark t c truth.True
IsKnown t c (False number) = IsMark t c truth.False × IsFalsifiedBy t c number
IsKnown t c Wide = IsMark t c truth.Wide
