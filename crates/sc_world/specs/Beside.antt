-- The record of a run with finders beside the prover.
use Rattle.std.specs.Prelude.{◌≡◌, ℕ, ◌-◌, List, [], ◌∷◌, ◌++◌, map, length, get_or}
use Rattle.sc_term.specs.Numbering.{numbered}
use Rattle.std.specs.Prelude.{Some}
use Rattle.sc_input_rules.specs.Problem.{Stated}
use Rattle.sc_interp.specs.Versions.{ClaimedStructure}
use Rattle.sc_shelf.specs.State.{WindowState}
use Rattle.sc_core_rules.specs.Order.{Where}
use Rattle.sc_core_rules.specs.Selection.{Seen}
use Rattle.sc_core_rules.specs.declared.row.GivenRow.{GivenRow}
use Rattle.sc_core_rules.specs.declared.row.Outcome.{Outcome}
use Rattle.sc_core_rules.specs.declared.row.Outcome.TheVariants.{Proof, SosEmpty, GivenLimit, KeptLimit, WorkLimit}
use Rattle.sc_text_run_rules.specs.declared.run.FinderEnd.{FinderEnd}
use Rattle.sc_text_run_rules.specs.RunValue.{RunValue}
use Rattle.sc_worker.specs.declared.plan.Plan.{Plan}
use Rattle.sc_worker.specs.Finding.{IsFound}
use Rattle.sc_world.specs.Recorded.{Tells, IsRecord}
use Rattle.sc_world.specs.EventsTold.{IsOfEvents}

-- one end and one list for each finder of the plan: how it ended, and what it published for the candidates that it worked
pub record AllFound (problem : Stated) (plan : Plan) (told : List FinderEnd) (versions : Seen) : Type 0 where
  pub ends : length told ≡ plan.finders
  pub lists : length versions ≡ plan.finders
  pub each : (f : ℕ) (end : FinderEnd) (list : List ClaimedStructure) → numbered told f ≡ Some end → numbered versions f ≡ Some list → IsFound problem plan f end list

-- The text records a run of the problem beside the plan's finders, whose whole lists are printed: it tells the run over the
-- looks at these lists that its given rows tell, and how each finder ended. The run is also what the machine over events
-- comes to by the events that the text tells.
pub record IsBeside (problem : Stated) (plan : Plan) (versions : Seen) (text : RunValue) : Type 0 where
  pub tells : Tells problem versions text
  pub found : AllFound problem plan text.ends versions
  pub events : IsOfEvents problem versions text

-- the record of a run by the plan: with one finder between the turns where it asks for none beside the prover
abbrev pub IsRecorded : Stated → Plan → Seen → RunValue → Type 0
IsRecorded problem plan versions text = Where (plan.finders ≡ 0) (IsRecord problem plan versions text) (IsBeside problem plan versions text)

-- ---- the prover's windows

-- how many versions of finder f each row tells
abbrev pub column : ℕ → List GivenRow → List ℕ
column f rows = map (λ (row : GivenRow). get_or row.lengths (f - 1) 0) rows

-- a window's looks during the turns: one for each row, and one more where the last turn gave no clause
abbrev pub AreLooksOfTurns : Outcome → List ℕ → List ℕ → Type 0
AreLooksOfTurns Proof told looks = looks ≡ told
AreLooksOfTurns (WorkLimit n) told looks = looks ≡ told
AreLooksOfTurns SosEmpty told looks = (last : ℕ) × (looks ≡ told ++ last ∷ [])
AreLooksOfTurns (GivenLimit n) told looks = (last : ℕ) × (looks ≡ told ++ last ∷ [])
AreLooksOfTurns (KeptLimit n) told looks = (last : ℕ) × (looks ≡ told ++ last ∷ [])

-- the window has seen finder f's whole list, and has looked once before each turn and once after all had ended
pub record IsWindowOf (text : RunValue) (f : ℕ) (list : List ClaimedStructure) (w : WindowState) : Type 0 where
  pub seen : w.seen ≡ list
  pub turns : List ℕ
  pub of_turns : AreLooksOfTurns text.outcome (column f text.given) turns
  pub looks : w.looks ≡ turns ++ length list ∷ []

-- one window for each finder
pub record AreWindows (text : RunValue) (versions : Seen) (windows : List WindowState) : Type 0 where
  pub one_each : length windows ≡ length versions
  pub each : (f : ℕ) (list : List ClaimedStructure) (w : WindowState) → numbered versions f ≡ Some list → numbered windows f ≡ Some w → IsWindowOf text f list w
