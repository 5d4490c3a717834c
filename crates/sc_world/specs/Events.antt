-- The machine over events: finders publish versions, the prover looks at what was published, and it makes turns.
use Rattle.std.specs.Prelude.{◌≡◌, ℕ, List, [], ◌∷◌, ◌++◌, Option, IsSomeAnd, replicate}
use Rattle.sc_term.specs.Numbering.{numbered, with_element}
use Rattle.sc_input_rules.specs.Problem.{Stated}
use Rattle.sc_input_rules.specs.WellFormed.{IsProblem}
use Rattle.sc_interp.specs.Versions.{ClaimedStructure}
use Rattle.sc_core_rules.specs.Book.{Book}
use Rattle.sc_core_rules.specs.Start.{Starts}
use Rattle.sc_core_rules.specs.Selection.{Seen}
use Rattle.sc_core_rules.specs.Turn.{Run}
use Rattle.sc_core_rules.specs.Run.{Goes, started}

-- the versions that each finder has published, those of each that the prover sees, and the run so far
pub record Machine : Type 0 where
  pub published : Seen
  pub seen : Seen
  pub run : Run

-- a finder, by its number from 1, publishes a version; the prover looks at a finder's list; it makes a turn
pub data Event : Type 0 where
  Publish : ℕ → ClaimedStructure → Event
  Look : ℕ → Event
  Turn : Event

-- the event leads from the one state to the other
abbrev pub Happens : Stated → Machine → Event → Machine → Type 0
-- the version joins the end of the finder's published list, which is there
Happens problem old (Publish f v) new =
    IsSomeAnd (numbered old.published f) (λ versions. new ≡ record old { published = with_element old.published f (versions ++ v ∷ []) })
-- the prover sees all that the finder, which is there, has published
Happens problem old (Look f) new =
    IsSomeAnd (numbered old.published f) (λ versions. new ≡ record old { seen = with_element old.seen f versions })
-- the run goes on by a turn with what is seen; one that has ended stays
Happens problem old Turn new = (run : Run) × Goes problem old.run old.seen run × (new ≡ record old { run = run })

-- the events, in order, lead from the one state to the other
abbrev pub HappenAll : Stated → Machine → List Event → Machine → Type 0
HappenAll problem old [] new = new ≡ old
HappenAll problem old (e ∷ es) new = (mid : Machine) × Happens problem old e mid × HappenAll problem mid es new

-- none of so many finders has published, nothing is seen, and the run has made its start
abbrev pub IsAtStart : Stated → ℕ → Machine → Type 0
IsAtStart problem finders m =
    (book : Book) × (goal : Option ℕ) × Starts problem book goal
    × (m ≡ record { published = replicate finders []; seen = replicate finders []; run = started book goal })

-- the machine that so many finders start, after these events
abbrev pub IsAfter : Stated → ℕ → List Event → Machine → Type 0
IsAfter problem finders events m = (first : Machine) × IsAtStart problem finders first × HappenAll problem first events m

-- so many finders and a list of events lead to one machine
abbrev pub EventsAreOne : Type 0
EventsAreOne = (problem : Stated) (finders : ℕ) (events : List Event) (m other : Machine) → IsProblem problem → IsAfter problem finders events m → IsAfter problem finders events other → m ≡ other
