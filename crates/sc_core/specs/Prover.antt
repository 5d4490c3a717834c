-- What a prover of these parts is seen as, and what it keeps.
use Rattle.std.specs.Prelude.{◌≡◌, ◌≤◌, Bool, true, length}
use Rattle.sc_interp.specs.Versions.{opening}
use Rattle.sc_mark.specs.Marked.{Marked}
use Rattle.sc_guide.specs.Guided.{Guided}
use Rattle.sc_core.specs.declared.turning.Running.{Running}
use Rattle.sc_core.specs.Marking.{AreRight}
use Rattle.sc_core.specs.Turning.{run_of}
use Rattle.sc_core.specs.State.{ProverState, IsReached}

-- the parts as a state
abbrev pub state_of : Running → Guided → Bool → ProverState
state_of running guide whole = record { problem = running.book.problem; seen = guide.seen; run = run_of running; whole = whole }

-- the guide begins with the opening version of the problem, there are 1 to 8 lists, and while the prover is whole, so is its book, its
-- run is that over the looks that its rows tell, and its marks are right
pub record IsProver (guide : Guided) (marks : Marked) (running : Running) (whole : Bool) : Type 0 where
  pub opens : guide.opening_version ≡ opening running.book.problem.symbols
  pub some : 1 ≤ length guide.seen
  pub few : length guide.seen ≤ 8
  pub book : whole ≡ true → running.book.whole ≡ true
  pub reached : whole ≡ true → IsReached running.book.problem guide.seen (run_of running)
  pub marked : whole ≡ true → AreRight running.book.problem guide.seen running.book.book marks
