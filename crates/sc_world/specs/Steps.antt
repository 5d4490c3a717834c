-- A turn, and the candidate that is worked after it.
use Rattle.std.specs.Prelude.{◌≡◌, ◌<◌, ◌^◌, [], None, IsSomeAnd, length, true}
use Rattle.sc_term.specs.Numbering.{numbered}
use Rattle.sc_core_rules.specs.Order.{Where}
use Rattle.sc_core_rules.specs.Selection.{Seen}
use Rattle.sc_core_rules.specs.Turn.{Turns}
use Rattle.sc_text_run_rules.specs.declared.run.FinderEnd.{FinderEnd}
use Rattle.sc_text_run_rules.specs.declared.run.FinderEnd.TheVariants as ends
use Rattle.sc_core.specs.State.{ProverState}
use Rattle.sc_guide.specs.Guided.{grown}
use Rattle.sc_worker.specs.declared.worked.Worked.{Worked}
use Rattle.sc_worker.specs.declared.worked.Worked.TheVariants.{Joined, Skipped, Done, Wide}
use Rattle.sc_worker.specs.Choosing.{Choice, IsTooWide, IsWorked}

-- there is a first list, and it may take one version more
abbrev pub MayGrow : Seen → Type 0
MayGrow seen = IsSomeAnd (numbered seen 1) (λ versions. length versions < 2 ^ 31)

-- the prover made a turn over what it sees
pub record IsTurned (old new : ProverState) : Type 0 where
  pub turns : Turns old.problem old.run old.seen new.run
  pub same : new.problem ≡ old.problem
  pub sees : new.seen ≡ old.seen
  pub whole : new.whole ≡ true

-- the prover sees the version that joined, at the end of the list of finder 1, and otherwise what it saw
abbrev pub seeing : Worked → ProverState → ProverState
seeing (Joined v) prover = record prover { seen = grown prover.seen 1 v }
seeing (Skipped reason) prover = prover
seeing Done prover = prover
seeing Wide prover = prover

-- the next candidate was worked, and what became of it is seen
pub record IsNextWorked (old new : ProverState) (choice next : Choice) : Type 0 where
  pub worked : Worked
  pub works : IsWorked choice next worked
  pub sees : new ≡ seeing worked old

-- a turn was made, and then, where the run goes on, the next candidate worked
pub record IsStep (old new : ProverState) (choice next : Choice) : Type 0 where
  pub turned : ProverState
  pub turn : IsTurned old turned
  pub works : Where (turned.run.ended ≡ None) (IsNextWorked turned new choice next) ((new ≡ turned) × (next ≡ choice))

-- how the chooser ends: Done where no candidate is left, else Wide where there are too many cells, else Stopped
abbrev pub IsEnd : Choice → FinderEnd → Type 0
IsEnd choice end = Where (choice.left ≡ []) (end ≡ ends.Done) (Where (IsTooWide choice) (end ≡ ends.Wide) (end ≡ ends.Stopped))
