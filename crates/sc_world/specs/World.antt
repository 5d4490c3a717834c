-- What a world is seen as.
use Rattle.std.specs.Prelude.{◌≡◌, ℕ, List, Bool, true, IsSomeAnd, take}
use Rattle.sc_term.specs.Numbering.{numbered, with_element}
use Rattle.sc_input_rules.specs.Problem.{Stated}
use Rattle.sc_interp.specs.Versions.{ClaimedStructure}
use Rattle.sc_core_rules.specs.Selection.{Seen}
use Rattle.sc_core_rules.specs.Turn.{Run}
use Rattle.sc_core_rules.specs.Run.{IsPrefixOf}
use Rattle.sc_core_laws.specs.TrueRows.{IsFrontOf}
use Rattle.sc_core.specs.State.{ProverState}
use Rattle.sc_world.specs.Events.{Machine}
use Rattle.sc_world.specs.Kept.{IsMade, AreShort}

-- a problem, the versions that each finder has published, those of each that the prover sees, the run so far, and whether
-- the prover is whole: want of memory may have left it halfway
pub record WorldState : Type 0 where
  pub problem : Stated
  pub published : Seen
  pub seen : Seen
  pub run : Run
  pub whole : Bool

-- the state of the machine over events
abbrev pub machine_of : WorldState → Machine
machine_of w = record { published = w.published; seen = w.seen; run = w.run }

-- the prover
abbrev pub prover_of : WorldState → ProverState
prover_of w = record { problem = w.problem; seen = w.seen; run = w.run; whole = w.whole }

-- the world of these lists and this prover
abbrev pub world_of : Seen → ProverState → WorldState
world_of published prover = record { problem = prover.problem; published = published; seen = prover.seen; run = prover.run; whole = prover.whole }

-- of that finder no less is seen than before, and no more than was published; all else is as it was
abbrev pub SeesMore : ℕ → WorldState → WorldState → Type 0
SeesMore f old new =
    IsSomeAnd (numbered old.published f) (λ versions. IsSomeAnd (numbered old.seen f) (λ before.
    (now : List ClaimedStructure) × IsPrefixOf before now × IsPrefixOf now versions × (new ≡ record old { seen = with_element old.seen f now })))

-- of that finder the prover sees the first n of these versions; all else is as it was
abbrev pub SeesUpTo : ℕ → List ClaimedStructure → ℕ → ProverState → ProverState → Type 0
SeesUpTo f versions n old new = new ≡ record old { seen = with_element old.seen f (take n versions) }

-- what a world keeps: each seen list begins its finder's published list, which is no longer than its places can be told,
-- and while the prover is whole, the run is that of the turns that were made
pub record IsWorld (published : Seen) (prover : ProverState) : Type 0 where
  pub prefixes : IsFrontOf published prover.seen
  pub short : AreShort published
  pub made : prover.whole ≡ true → IsMade prover.problem (machine_of (world_of published prover))
