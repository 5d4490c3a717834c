-- The events that a text of a run tells: before each turn what was published since the turn before and a look at each
-- finder's list, and at the end the rest.
use Rattle.std.specs.Prelude.{◌≡◌, ℕ, suc, List, [], ◌∷◌, ◌++◌, map, length, replicate, take, drop, Some}
use Rattle.sc_input_rules.specs.Problem.{Stated}
use Rattle.sc_input_rules.specs.WellFormed.{IsProblem}
use Rattle.sc_interp.specs.Versions.{ClaimedStructure}
use Rattle.sc_core_rules.specs.Selection.{Seen}
use Rattle.sc_core_rules.specs.Turn.{Run}
use Rattle.sc_core_rules.specs.declared.row.GivenRow.{GivenRow}
use Rattle.sc_core_rules.specs.declared.row.Outcome.{Outcome}
use Rattle.sc_core_rules.specs.declared.row.Outcome.TheVariants.{Proof, SosEmpty, GivenLimit, KeptLimit, WorkLimit}
use Rattle.sc_text_run_rules.specs.RunValue.{RunValue}
use Rattle.sc_world.specs.Events.{Event, Publish, Look, Turn, IsAfter}
use Rattle.sc_world.specs.Recorded.{Tells}

-- finder after finder, from finder f: it publishes the versions of its list from the one place up to the other, and the
-- prover looks at its list
abbrev pub sights : ℕ → List ℕ → List ℕ → Seen → List Event
sights f (from ∷ froms) (up ∷ ups) (list ∷ lists) = map (Publish f) (drop from (take up list)) ++ Look f ∷ sights (suc f) froms ups lists
sights f [] ups lists = []
sights f (from ∷ froms) [] lists = []
sights f (from ∷ froms) (up ∷ ups) [] = []

-- for each row what was published until then of each finder, and a look at it; and the turn
abbrev pub turns_told : List ℕ → List GivenRow → Seen → List Event
turns_told before [] lists = []
turns_told before (row ∷ rows) lists = sights 1 before row.lengths lists ++ Turn ∷ turns_told row.lengths rows lists

-- the lengths of the last row
abbrev pub last_lengths : List ℕ → List GivenRow → List ℕ
last_lengths before [] = before
last_lengths before (row ∷ rows) = last_lengths row.lengths rows

-- a turn that ended the run and gave no clause
abbrev pub ending_turn : Outcome → List Event
ending_turn Proof = []
ending_turn (WorkLimit n) = []
ending_turn SosEmpty = Turn ∷ []
ending_turn (GivenLimit n) = Turn ∷ []
ending_turn (KeptLimit n) = Turn ∷ []

-- before the first row nothing was published
abbrev pub at_first_row : Seen → List ℕ
at_first_row lists = replicate (length lists) 0

-- all that the text tells, whose finders have published these lists
abbrev pub events_told : RunValue → Seen → List Event
events_told text lists =
    turns_told (at_first_row lists) text.given lists ++ ending_turn text.outcome
    ++ sights 1 (last_lengths (at_first_row lists) text.given) (map (λ (list : List ClaimedStructure). length list) lists) lists

-- by these events the machine comes to a run that the text tells, in which all that was published was seen
pub record IsOfEvents (problem : Stated) (versions : Seen) (text : RunValue) : Type 0 where
  pub run : Run
  pub after : IsAfter problem (length versions) (events_told text versions) (record { published = versions; seen = versions; run = run })
  pub given : text.given ≡ run.given
  pub kept : text.kept ≡ run.book.kept
  pub outcome : run.ended ≡ Some text.outcome

-- every text that tells a run over such lists tells such events
abbrev pub TextIsOfEvents : Type 0
TextIsOfEvents = (problem : Stated) (versions : Seen) (text : RunValue) → IsProblem problem → Tells problem versions text → IsOfEvents problem versions text
