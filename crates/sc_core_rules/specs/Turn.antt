-- The turns of the given-clause machine.
use Rattle.std.specs.Prelude.{◌≡◌, ◌≤◌, ℕ, ◌+◌, List, [], ◌∷◌, ◌++◌, Option, Some, None, length, map}
use Rattle.sc_input_rules.specs.Problem.{Stated}
use Rattle.sc_term.specs.declared.Numbered.{Numbered}
use Rattle.sc_interp.specs.Versions.{ClaimedStructure}
use Rattle.sc_interp.specs.declared.plain.VersionName.{VersionName}
use Rattle.sc_interp.specs.declared.plain.Truth.{Truth}
use Rattle.sc_core_rules.specs.declared.row.Cause.{Cause}
use Rattle.sc_core_rules.specs.declared.row.GivenRow.{GivenRow}
use Rattle.sc_core_rules.specs.declared.row.Outcome.{Outcome}
use Rattle.sc_core_rules.specs.declared.row.Outcome.TheVariants.{Proof, SosEmpty, GivenLimit, KeptLimit, WorkLimit}
use Rattle.sc_core_rules.specs.Sites.{Site, AreSites}
use Rattle.sc_core_rules.specs.Book.{Book, leaving_out}
use Rattle.sc_core_rules.specs.WorkList.{At, Finish, Done, Found, TooMany, Works}
use Rattle.sc_interp.specs.Marks.{IsMark}
use Rattle.sc_core_rules.specs.Selection.{Seen, IsGuide, Selects}
use Rattle.sc_core_rules.specs.Order.{Where}

-- a run so far: the book, the rows of given clauses, and how it ended
pub record Run : Type 0 where
  pub book : Book
  pub given : List GivenRow
  pub ended : Option Outcome
  -- the number of the empty clause
  pub goal : Option ℕ

-- what ends the run in this turn, and the empty clause then
abbrev pub outcome_of : ℕ → Finish → Option Outcome
outcome_of turn Done = None
outcome_of turn (Found n) = Some Proof
outcome_of turn TooMany = Some (WorkLimit turn)

abbrev pub goal_of : Finish → Option ℕ
goal_of Done = None
goal_of (Found n) = Some n
goal_of TooMany = None

-- the given clause moves from sos to the end of usable
abbrev pub with_given : Book → Numbered → Book
with_given book p = record book { usable = book.usable ++ p ∷ []; sos = leaving_out (p ∷ []) book.sos }

-- a site that a turn passes over, though it stands in the work list and counts there: there is none
abbrev pub IsPassedOver : Site → Type 0
IsPassedOver site = ⊥

-- a clause is selected under the guide, its row is written, it moves to usable, and all its sites are worked
pub record Infer (problem : Stated) (turn : ℕ) (old : Run) (seen : Seen) (new : Run) : Type 0 where
  pub name : VersionName
  pub guide : ClaimedStructure
  pub guides : IsGuide problem seen name guide
  pub given : Numbered
  pub cause : Cause
  pub selects : Selects problem old.book.sos turn name guide given cause
  pub truth : Truth
  pub marked : IsMark guide.tables given.clause truth
  -- one more than are worked shows that there are too many
  pub sites : List Site
  pub are_sites : AreSites problem.flags given (with_given old.book given).usable 100001 sites
  pub book : Book
  pub finish : Finish
  pub works : Works problem turn given (with_given old.book given).usable IsPassedOver 100000 (with_given old.book given) (map At sites) book finish
  pub goes_to : new ≡ record {
    book = book;
    given = old.given ++ record { turn = turn; number = given.number; cause = cause; name = name; truth = truth; lengths = map (λ (vs : List ClaimedStructure). length vs) seen } ∷ [];
    ended = outcome_of turn finish;
    goal = goal_of finish;
  }

-- the run with this outcome
abbrev pub with_end : Run → Outcome → Run
with_end run outcome = record run { ended = Some outcome }

-- one turn of a run that hasn't ended: sos is empty, or as many clauses as may be were given, or were kept, or a clause
-- is given
abbrev pub Turns : Stated → Run → Seen → Run → Type 0
Turns problem old seen new =
    Where (old.book.sos ≡ []) (new ≡ with_end old SosEmpty)
    (Where (length old.given ≡ problem.params.max_given) (new ≡ with_end old (GivenLimit (length old.given)))
    (Where (problem.params.max_kept ≤ length old.book.kept) (new ≡ with_end old (KeptLimit (length old.book.kept)))
    (Infer problem (length old.given + 1) old seen new)))
