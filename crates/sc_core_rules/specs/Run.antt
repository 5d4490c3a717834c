-- Runs of the given-clause machine over a list of looks.
use Rattle.std.specs.Prelude.{◌≡◌, ℕ, List, [], ◌∷◌, ◌++◌, Option, Some, IsSome, option_map, map, take, AllPairs}
use Rattle.std.specs.List.{AllZip}
use Rattle.sc_term.specs.declared.Line.{Line}
use Rattle.sc_term.specs.Proof.{IsProof}
use Rattle.sc_term.specs.Refuted.{IsRefuted}
use Rattle.sc_steps.specs.Splice.{IsSplice}
use Rattle.sc_input_rules.specs.Problem.{Stated}
use Rattle.sc_core_rules.specs.declared.row.GivenRow.{GivenRow}
use Rattle.sc_core_rules.specs.declared.row.Outcome.TheVariants.{Proof}
use Rattle.sc_core_rules.specs.Book.{Book}
use Rattle.sc_input_rules.specs.WellFormed.{IsProblem}
use Rattle.sc_core_rules.specs.Start.{Starts}
use Rattle.sc_core_rules.specs.Selection.{Seen}
use Rattle.sc_core_rules.specs.Turn.{Run, Turns}
use Rattle.sc_core_rules.specs.Order.{Where}

-- ---- looks

-- the one list begins the other
abbrev pub IsPrefixOf : {X : Type 0} → List X → List X → Type 0
IsPrefixOf {X} xs ys = (rest : List X) × (xs ++ rest ≡ ys)

-- each list of a look begins with that finder's list of the looks before
abbrev pub Grow : List Seen → Type 0
Grow looks = AllPairs (λ earlier later. AllZip IsPrefixOf earlier later) looks

-- ---- runs

-- the run goes on by a turn with this look. A run that has ended takes none
abbrev pub Goes : Stated → Run → Seen → Run → Type 0
Goes problem old look new = Where (IsSome old.ended) (new ≡ old) (Turns problem old look new)

-- a turn for each look, in order
abbrev pub GoesOver : Stated → Run → List Seen → Run → Type 0
GoesOver problem old [] new = new ≡ old
GoesOver problem old (look ∷ looks) new = (mid : Run) × Goes problem old look mid × GoesOver problem mid looks new

-- after the start, before the first turn
abbrev pub started : Book → Option ℕ → Run
started book goal = record { book = book; given = []; ended = option_map (λ n. Proof) goal; goal = goal }

-- the start, and then a turn for each look
pub record IsRun (problem : Stated) (looks : List Seen) (run : Run) : Type 0 where
  pub book : Book
  pub goal : Option ℕ
  pub starts : Starts problem book goal
  pub goes : GoesOver problem (started book goal) looks run

-- the looks determine the run
abbrev pub RunIsOne : Type 0
RunIsOne = (problem : Stated) (looks : List Seen) (run other : Run) → IsProblem problem → IsRun problem looks run → IsRun problem looks other → run ≡ other

-- ---- the looks of a text

-- of each list as many versions as the lengths say
abbrev pub prefixes : List ℕ → Seen → Seen
prefixes [] lists = []
prefixes (n ∷ ns) [] = []
prefixes (n ∷ ns) (list ∷ lists) = take n list ∷ prefixes ns lists

-- one look for each given row, and then the last once more; where there is no given row, one look of empty lists
abbrev pub looks_after : Seen → List GivenRow → Seen → List Seen
looks_after last [] lists = last ∷ []
looks_after last (row ∷ rows) lists = prefixes row.lengths lists ∷ looks_after (prefixes row.lengths lists) rows lists

abbrev pub looks_of : List GivenRow → Seen → List Seen
looks_of rows lists = looks_after (map (λ versions. []) lists) rows lists

-- ---- a proof

-- where a run has found the empty clause, the lines put together for it are a proof, and the input clauses are refuted
abbrev pub RunRefutes : Type 0
RunRefutes = (problem : Stated) (looks : List Seen) (run : Run) (goal : ℕ) (lines : List Line) → IsProblem problem → IsRun problem looks run → run.goal ≡ Some goal
    → IsSplice problem.inputs run.book.derived goal lines → IsProof problem.inputs lines × IsRefuted problem.inputs
