-- What the prover is seen as.
use Rattle.std.specs.Prelude.{◌⊎◌, ◌≤◌, ℕ, List, [], ◌∷◌, ◌++◌, map, length, Bool, true, Option, Some, None, replicate, AllPairs}
use Rattle.std.specs.List.{AllZip, AllByRecursion}
use Rattle.sc_input_rules.specs.Problem.{Stated}
use Rattle.sc_interp.specs.Versions.{ClaimedStructure}
use Rattle.sc_core_rules.specs.declared.row.GivenRow.{GivenRow}
use Rattle.sc_core_rules.specs.declared.row.Outcome.{Outcome}
use Rattle.sc_core_rules.specs.declared.row.Outcome.TheVariants as outcome
use Rattle.sc_core_rules.specs.Book.{Book}
use Rattle.sc_core_rules.specs.Selection.{Seen}
use Rattle.sc_core_rules.specs.Turn.{Run}
use Rattle.sc_core_rules.specs.Run.{IsRun, started, prefixes, looks_of}
use Rattle.sc_core_laws.specs.LeavesInTime.{WasPut, HasTurn, WasGivenBy, IsDeletedBy, last_turn}
use Rattle.sc_core.specs.declared.end.TurnEnd.{TurnEnd}
use Rattle.sc_core.specs.declared.end.TurnEnd.TheVariants as end

-- a problem, the versions of each finder that are seen, the run so far, and whether the prover is whole: want of memory
-- may have left it halfway
pub record ProverState : Type 0 where
  pub problem : Stated
  pub seen : Seen
  pub run : Run
  pub whole : Bool

-- no version is seen of any of so many finders
abbrev pub none_seen : ℕ → Seen
none_seen lists = replicate lists []

-- after the start of the problem's run
abbrev pub at_start : Stated → ℕ → Book → Option ℕ → ProverState
at_start problem lists book goal = record { problem = problem; seen = none_seen lists; run = started book goal; whole = true }

-- ---- the looks that led to a run

-- the look that a row tells: of each finder as many versions as it says
abbrev pub look_told : Seen → GivenRow → Seen
look_told seen row = prefixes row.lengths seen

-- one look for each row and, where the run has ended, the last once more
abbrev pub looks_led : Option Outcome → List GivenRow → Seen → List Seen
looks_led None rows seen = map (look_told seen) rows
looks_led (Some o) rows seen = looks_of rows seen

-- the numbers are lengths of fronts of the lists, one each
abbrev pub AreLengthsIn : Seen → GivenRow → Type 0
AreLengthsIn seen row = AllZip (λ (n : ℕ) (versions : List ClaimedStructure). n ≤ length versions) row.lengths seen

-- of each finder no fewer versions were seen at the later row
abbrev pub SeesNoFewer : GivenRow → GivenRow → Type 0
SeesNoFewer earlier later = AllZip (λ (m n : ℕ). m ≤ n) earlier.lengths later.lengths

-- the run is that over the looks that its rows tell, each of fronts of what is seen, which never shrink
pub record IsReached (problem : Stated) (seen : Seen) (run : Run) : Type 0 where
  pub is_run : IsRun problem (looks_led run.ended run.given seen) run
  pub told : AllByRecursion (AreLengthsIn seen) run.given
  pub grow : AllPairs SeesNoFewer run.given

-- each clause that was put in sos was given or deleted by its last turn, where the run over those looks has that turn
abbrev pub LeaveInTimeSoFar : Stated → Seen → Run → Type 0
LeaveInTimeSoFar problem seen run =
    (n t : ℕ) → WasPut problem run.book.kept n t → HasTurn run.given (last_turn problem n t)
    → WasGivenBy run.given n (last_turn problem n t) ⊎ IsDeletedBy problem (looks_led run.ended run.given seen) n (last_turn problem n t)

-- what a turn answers: that the run goes on, or how it ended
abbrev pub end_of : Option Outcome → TurnEnd
end_of None = end.Went
end_of (Some outcome.Proof) = end.Proof
end_of (Some outcome.SosEmpty) = end.SosEmpty
end_of (Some (outcome.GivenLimit n)) = end.GivenLimit
end_of (Some (outcome.KeptLimit n)) = end.KeptLimit
end_of (Some (outcome.WorkLimit n)) = end.WorkLimit
