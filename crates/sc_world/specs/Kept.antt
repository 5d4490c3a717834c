-- What a machine over events keeps, whatever happens.
use Rattle.std.specs.Prelude.{◌≡◌, ◌≤◌, ◌⊎◌, ◌^◌, ℕ, List, [], ◌∷◌, ◌++◌, map, length, Option, Some, None, AllPairs}
use Rattle.std.specs.List.{All, AllByRecursion}
use Rattle.sc_term.specs.declared.Line.{Line}
use Rattle.sc_term.specs.Proof.{IsProof}
use Rattle.sc_term.specs.Refuted.{IsRefuted}
use Rattle.sc_steps.specs.Splice.{IsSplice}
use Rattle.sc_input_rules.specs.Problem.{Stated}
use Rattle.sc_input_rules.specs.WellFormed.{IsProblem}
use Rattle.sc_interp.specs.Versions.{ClaimedStructure}
use Rattle.sc_core_rules.specs.declared.row.GivenRow.{GivenRow}
use Rattle.sc_core_rules.specs.declared.row.Outcome.{Outcome}
use Rattle.sc_core_rules.specs.declared.row.Outcome.TheVariants.{Proof, SosEmpty, GivenLimit, KeptLimit, WorkLimit}
use Rattle.sc_core_rules.specs.Selection.{Seen}
use Rattle.sc_core_rules.specs.Turn.{Run}
use Rattle.sc_core_rules.specs.Run.{IsRun}
use Rattle.sc_core_laws.specs.TrueRows.{IsFrontOf, IsTrueRow}
use Rattle.sc_core_laws.specs.LeavesInTime.{WasPut, HasTurn, WasGivenBy, IsDeletedBy, last_turn}
use Rattle.sc_core.specs.State.{look_told, AreLengthsIn, SeesNoFewer}
use Rattle.sc_world.specs.Events.{Machine, Event, IsAfter}

-- ---- the looks of the turns

-- one look for each turn that was made: for each given row as many of the published versions as it tells, and where a
-- turn ended the run without a row, this last one
abbrev pub looks_made : Option Outcome → List GivenRow → Seen → Seen → List Seen
looks_made None rows published last = map (look_told published) rows
looks_made (Some Proof) rows published last = map (look_told published) rows
looks_made (Some (WorkLimit n)) rows published last = map (look_told published) rows
looks_made (Some SosEmpty) rows published last = map (look_told published) rows ++ last ∷ []
looks_made (Some (GivenLimit n)) rows published last = map (look_told published) rows ++ last ∷ []
looks_made (Some (KeptLimit n)) rows published last = map (look_told published) rows ++ last ∷ []

-- the looks of the turns of a machine, where a last one without a row was this
abbrev pub looks_of_turns : Machine → Seen → List Seen
looks_of_turns m last = looks_made m.run.ended m.run.given m.published last

-- The run is the one over a look for each turn that was made, whatever a last one without a row was. Each row tells no
-- more of a finder than is seen, and no less than the rows before it; and a run that ended with a proof has its goal.
pub record IsMade (problem : Stated) (m : Machine) : Type 0 where
  pub is_run : (last : Seen) → IsRun problem (looks_of_turns m last) m.run
  pub told : AllByRecursion (AreLengthsIn m.seen) m.run.given
  pub grow : AllPairs SeesNoFewer m.run.given
  pub goal : m.run.ended ≡ Some Proof → (n : ℕ) × (m.run.goal ≡ Some n)

-- ---- what follows

-- each clause that was put in the set of support was given or deleted by its last turn, where the run has that turn
abbrev pub LeaveInTime : Stated → Machine → Type 0
LeaveInTime problem m =
    (last : Seen) (n t : ℕ) → WasPut problem m.run.book.kept n t → HasTurn m.run.given (last_turn problem n t)
    → WasGivenBy m.run.given n (last_turn problem n t) ⊎ IsDeletedBy problem (looks_of_turns m last) n (last_turn problem n t)

-- the run has found an empty clause, and the lines put together for it are a proof and refute the problem's clauses
pub record Refutes (problem : Stated) (run : Run) : Type 0 where
  pub goal : ℕ
  pub found : run.goal ≡ Some goal
  pub proof : (lines : List Line) → IsSplice problem.inputs run.book.derived goal lines → IsProof problem.inputs lines
  pub refuted : (lines : List Line) → IsSplice problem.inputs run.book.derived goal lines → IsRefuted problem.inputs

-- all that holds after any events: each seen list begins its finder's published list; the run is that of the turns that
-- were made; each given row has the mark of its clause in the version that it names, which was published or is the
-- opening one; every clause leaves the set of support in time; and a proof refutes
pub record Holds (problem : Stated) (m : Machine) : Type 0 where
  pub prefixes : IsFrontOf m.published m.seen
  pub made : IsMade problem m
  pub true_rows : AllByRecursion (IsTrueRow problem m.published m.run.book) m.run.given
  pub in_time : LeaveInTime problem m
  pub refutes : m.run.ended ≡ Some Proof → Refutes problem m.run

-- it holds after every list of events
abbrev pub EventsKeep : Type 0
EventsKeep = (problem : Stated) (finders : ℕ) (events : List Event) (m : Machine) → IsProblem problem → IsAfter problem finders events m → Holds problem m

-- no list is longer than its places can be told
abbrev pub AreShort : Seen → Type 0
AreShort lists = All (λ (versions : List ClaimedStructure). length versions ≤ 2 ^ 31) lists
