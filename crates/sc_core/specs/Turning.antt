-- A turn by its parts.
use Rattle.std.specs.Prelude.{◌≡◌, ◌≢◌, ◌≤◌, ◌<◌, ℕ, List, [], ◌∷◌, ◌++◌, Option, Some, None, length, map}
use Rattle.sc_term.specs.declared.Numbered.{Numbered}
use Rattle.sc_input_rules.specs.Problem.{Stated}
use Rattle.sc_core_rules.specs.declared.row.Outcome.{Outcome}
use Rattle.sc_core_rules.specs.declared.row.Outcome.TheVariants as outcome
use Rattle.sc_core_rules.specs.Book.{Book}
use Rattle.sc_core_rules.specs.Order.{Where}
use Rattle.sc_core_rules.specs.Sites.{Site, AreSites}
use Rattle.sc_core_rules.specs.WorkList.{At, Finish, Works}
use Rattle.sc_core_rules.specs.Turn.{Run, IsPassedOver, with_given, outcome_of, goal_of}
use Rattle.sc_core.specs.declared.choosing.GivenChoice.{GivenChoice}
use Rattle.sc_core.specs.declared.turning.Running.{Running}

-- the run that the program holds
abbrev pub run_of : Running → Run
run_of r = record { book = r.book.book; given = r.given; ended = r.ended; goal = r.goal }

-- the run ends so before a clause is given: sos is empty, or as many clauses as may be were given, or were kept; or it
-- goes on
abbrev pub Stops : Stated → Run → Option Outcome → Type 0
Stops problem run None = (run.book.sos ≢ []) × (length run.given ≢ problem.params.max_given) × (length run.book.kept < problem.params.max_kept)
Stops problem run (Some o) =
    Where (run.book.sos ≡ []) (o ≡ outcome.SosEmpty)
    (Where (length run.given ≡ problem.params.max_given) (o ≡ outcome.GivenLimit (length run.given))
    ((problem.params.max_kept ≤ length run.book.kept) × (o ≡ outcome.KeptLimit (length run.book.kept))))

-- all sites of the given clause are worked, in a book where it is usable
pub record AreWorked (problem : Stated) (turn : ℕ) (given : Numbered) (old new : Book) (finish : Finish) : Type 0 where
  pub sites : List Site
  pub are_sites : AreSites problem.flags given old.usable 100001 sites
  pub works : Works problem turn given old.usable IsPassedOver 100000 old (map At sites) new finish

-- the chosen clause is given in this turn: it moves to usable, its row is written, and all its sites are worked
pub record IsGiven (problem : Stated) (turn : ℕ) (choice : GivenChoice) (old new : Run) : Type 0 where
  pub book : Book
  pub finish : Finish
  pub worked : AreWorked problem turn choice.given (with_given old.book choice.given) book finish
  pub goes_to : new ≡ record { book = book; given = old.given ++ choice.row ∷ []; ended = outcome_of turn finish; goal = goal_of finish }
