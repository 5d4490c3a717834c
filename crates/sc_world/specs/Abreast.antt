-- A prover and its windows on the finders' shelves, turn after turn.
use Rattle.std.specs.Prelude.{◌≡◌, ◌<◌, ◌≤◌, ◌^◌, ◌+◌, ℕ, List, [], ◌∷◌, ◌++◌, All, map, length, get_or, Option, Some, None, true}
use Rattle.std.specs.List.{AllZip}
use Rattle.sc_input_rules.specs.Problem.{Stated}
use Rattle.sc_shelf.specs.Entries.{StartsWith}
use Rattle.sc_shelf.specs.State.{WindowState}
use Rattle.sc_core_rules.specs.declared.row.GivenRow.{GivenRow}
use Rattle.sc_core_rules.specs.declared.row.Outcome.{Outcome}
use Rattle.sc_core_rules.specs.Selection.{Seen}
use Rattle.sc_core_rules.specs.Turn.{Turns}
use Rattle.sc_core.specs.State.{ProverState}
use Rattle.sc_world.specs.Beside.{column, AreLooksOfTurns}

-- a window before and after a look that was Ok
pub record IsLook (before after : WindowState) : Type 0 where
  pub symbols : after.symbols ≡ before.symbols
  pub grows : StartsWith after.seen before.seen
  pub looks : after.looks ≡ before.looks ++ length after.seen ∷ []
  pub few : length after.seen ≤ 2 ^ 31

-- what the windows have seen
abbrev pub seen_of : List WindowState → Seen
seen_of windows = map (λ (w : WindowState). w.seen) windows

-- a window's looks so far, where the rows tell so many versions of its finder: one for each row, and where the run has
-- ended as its outcome says
abbrev pub AreLooksSoFar : Option Outcome → List ℕ → List ℕ → Type 0
AreLooksSoFar None told looks = looks ≡ told
AreLooksSoFar (Some outcome) told looks = AreLooksOfTurns outcome told looks

-- each window has looked once before each turn
abbrev pub HaveLooked : Option Outcome → List GivenRow → List WindowState → Type 0
HaveLooked ended rows windows = (k : ℕ) (d : WindowState) → k < length windows → AreLooksSoFar ended (column (k + 1) rows) (get_or windows k d).looks

-- the prover, which had memory for each turn, sees what its windows have seen, which are on shelves of its problem
pub record IsAbreast (problem : Stated) (prover : ProverState) (windows : List WindowState) : Type 0 where
  pub same : prover.problem ≡ problem
  pub whole : prover.whole ≡ true
  pub sees : prover.seen ≡ seen_of windows
  pub symbols : All (λ (w : WindowState). w.symbols ≡ problem.symbols) windows
  pub looked : HaveLooked prover.run.ended prover.run.given windows

-- a look at every shelf, and a turn with what was seen
pub record IsTurnBeside (old new : ProverState) (before after : List WindowState) : Type 0 where
  pub looked : AllZip IsLook before after
  pub sees : new.seen ≡ seen_of after
  pub turns : Turns old.problem old.run new.seen new.run
  pub same : new.problem ≡ old.problem
  pub whole : new.whole ≡ true

-- ---- loops

-- the first i were changed by R, the others are as they were
pub record Upto {A : Type 0} (R : A → A → Type 0) (xs ys : List A) (i : ℕ) : Type 0 where
  pub done : (k : ℕ) (d : A) → k < i → R (get_or xs k d) (get_or ys k d)
  pub rest : (k : ℕ) (d : A) → i ≤ k → get_or ys k d ≡ get_or xs k d

-- the first i lists are those of the windows, the others are as they were
pub record CaughtUp (first now : Seen) (windows : List WindowState) (i : ℕ) : Type 0 where
  pub done : (k : ℕ) (d : WindowState) → k < i → get_or now k [] ≡ (get_or windows k d).seen
  pub rest : (k : ℕ) → i ≤ k → get_or now k [] ≡ get_or first k []
  pub long : length now ≡ length first

-- the prover sees so much of the lists, all else is as it was
pub record IsCatchingUp (first now : ProverState) (windows : List WindowState) (i : ℕ) : Type 0 where
  pub others : now ≡ record first { seen = now.seen }
  pub lists : CaughtUp first.seen now.seen windows i
