-- Every clause leaves the set of support in time: clause n within n times r further turns.
use Rattle.std.specs.Prelude.{◌≡◌, ◌≢◌, ◌≤◌, ◌⊎◌, ℕ, ◌+◌, ◌*◌, List, ◌++◌, Contains, length}
use Rattle.sc_term.specs.declared.Numbered.{Numbered}
use Rattle.sc_input_rules.specs.Problem.{Stated}
use Rattle.sc_input_rules.specs.declared.settings.Home.TheVariants.{Sos}
use Rattle.sc_core_rules.specs.declared.row.GivenRow.{GivenRow}
use Rattle.sc_core_rules.specs.declared.row.KeptRow.{KeptRow}
use Rattle.sc_core_rules.specs.Book.{Book, live}
use Rattle.sc_core_rules.specs.Start.{input_clauses, IsAtHome}
use Rattle.sc_core_rules.specs.Selection.{Seen, ratio}
use Rattle.sc_core_rules.specs.Turn.{Run}
use Rattle.sc_core_rules.specs.Run.{IsRun}

-- clause n was put in sos in turn t: it is an input clause of that list, put there at the start, which is turn 0, or one
-- of these rows says that it was kept in turn t
abbrev pub WasPut : Stated → List KeptRow → ℕ → ℕ → Type 0
WasPut problem kept n t =
    ((p : Numbered) × Contains (input_clauses problem) p × IsAtHome problem Sos p × (p.number ≡ n) × (t ≡ 0))
    ⊎ ((row : KeptRow) × Contains kept row × (row.number ≡ n) × (row.turn ≡ t))

-- one of the rows is that of the clause given in turn t
abbrev pub HasTurn : List GivenRow → ℕ → Type 0
HasTurn given t = (row : GivenRow) × Contains given row × (row.turn ≡ t)

-- one of the rows says that clause n was given in turn t or before
abbrev pub WasGivenBy : List GivenRow → ℕ → ℕ → Type 0
WasGivenBy given n t = (row : GivenRow) × Contains given row × (row.number ≡ n) × (row.turn ≤ t)

-- no live clause has the number n
abbrev pub IsDeleted : Book → ℕ → Type 0
IsDeleted book n = (p : Numbered) → Contains (live book) p → p.number ≢ n

-- clause n was deleted by turn t: right after that turn, in which the t-th clause was given, no live clause has its number
abbrev pub IsDeletedBy : Stated → List Seen → ℕ → ℕ → Type 0
IsDeletedBy problem looks n t =
    (earlier later : List Seen) × (mid : Run) × (earlier ++ later ≡ looks) × IsRun problem earlier mid × (length mid.given ≡ t) × IsDeleted mid.book n

-- the turn by which clause n, put in sos in turn t, leaves it: n times r turns later
abbrev pub last_turn : Stated → ℕ → ℕ → ℕ
last_turn problem n t = t + n * ratio problem

-- a clause that was put in sos was given or deleted by that turn, where the run has it, whatever the looks are
abbrev pub LeavesInTime : Type 0
LeavesInTime =
    (problem : Stated) (looks : List Seen) (run : Run) (n t : ℕ) → IsRun problem looks run → WasPut problem run.book.kept n t → HasTurn run.given (last_turn problem n t)
    → WasGivenBy run.given n (last_turn problem n t) ⊎ IsDeletedBy problem looks n (last_turn problem n t)
