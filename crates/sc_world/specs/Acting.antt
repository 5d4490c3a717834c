-- A finder on a thread of its own: how it begins, what its thread does to it, and how its shelf is closed.
use Rattle.std.specs.Prelude.{◌≡◌, ◌<◌, ◌≤◌, ◌+◌, ℕ, List, [], ◌∷◌, ◌++◌, map, length, get_or, Some, false}
use Rattle.std.specs.List.{AllZip}
use Rattle.sc_input_rules.specs.Problem.{Stated}
use Rattle.sc_shelf.specs.Entries.{StartsWith}
use Rattle.sc_shelf.specs.State.{WindowState, listed, is_closed, new_press}
use Rattle.sc_core_rules.specs.declared.row.Outcome.{Outcome}
use Rattle.sc_core.specs.State.{ProverState}
use Rattle.sc_text_run_rules.specs.declared.run.FinderEnd.{FinderEnd}
use Rattle.sc_worker.specs.declared.plan.Plan.{Plan}
use Rattle.sc_worker.specs.Choosing.{at_first}
use Rattle.sc_worker.specs.Finding.{IsFound}
use Rattle.sc_world.specs.Abreast.{IsAbreast}
use Rattle.sc_world.specs.declared.actors.Actor.{Actor}

-- nothing was worked, by finder f of the plan, and nothing published
pub record IsOpened (problem : Stated) (plan : Plan) (f : ℕ) (a : Actor) : Type 0 where
  pub choice : a.finder.choice ≡ at_first problem plan f
  pub press : a.finder.press ≡ new_press problem.symbols

-- the finders from number 1 on
abbrev pub AreOpened : Stated → Plan → List Actor → Type 0
AreOpened problem plan actors = (k : ℕ) (d : Actor) → k < length actors → IsOpened problem plan (k + 1) (get_or actors k d)

-- one more stands at the end, of which P holds
abbrev pub HasOne : {A : Type 0} → (A → Type 0) → List A → List A → Type 0
HasOne {A} P old new = (x : A) × P x × (new ≡ old ++ x ∷ [])

-- a finder that may begin, on a new shelf
pub record IsReady (a : Actor) : Type 0 where
  pub press : a.finder.press ≡ new_press a.finder.choice.problem.symbols
  pub few : length a.finder.choice.left ≤ 128

-- a finder before and after its work, which tells how it ended
pub record Acted (before after : Actor) : Type 0 where
  pub found : (plan : Plan) (f : ℕ) → before.finder.choice ≡ at_first before.finder.choice.problem plan f
      → IsFound before.finder.choice.problem plan f after.end (listed after.finder.press)
  pub symbols : after.finder.press.symbols ≡ before.finder.press.symbols
  pub unclosed : is_closed after.finder.press ≡ false

-- a finder and the window on its shelf before and after the close: the window has looked once more, and has seen all
pub record Closed (a : Actor) (w : WindowState) (b : Actor) (v : WindowState) : Type 0 where
  pub seen : v.seen ≡ listed a.finder.press
  pub looks : v.looks ≡ w.looks ++ length v.seen ∷ []
  pub grows : StartsWith v.seen w.seen
  pub end : b.end ≡ a.end

-- each finder with its window
abbrev pub AllClosed : List Actor → List WindowState → List Actor → List WindowState → Type 0
AllClosed before ws after vs = (k : ℕ) (d : Actor) (e : WindowState) → k < length before → Closed (get_or before k d) (get_or ws k e) (get_or after k d) (get_or vs k e)

-- each window is on its finder's shelf
abbrev pub AreOnShelves : List Actor → List WindowState → Type 0
AreOnShelves actors windows = (k : ℕ) (d : Actor) (e : WindowState) → k < length actors → (get_or windows k e).symbols ≡ (get_or actors k d).finder.press.symbols

-- How a run of the problem came to its end beside these finders: they acted while the prover made its turns, abreast of its
-- windows, and then each shelf was closed.
pub record HasRun (problem : Stated) (outcome : Outcome) (prover : ProverState) (first last : List Actor) (windows_last : List WindowState) : Type 0 where
  pub acting : List Actor
  pub windows : List WindowState
  pub acted : AllZip Acted first acting
  pub abreast : IsAbreast problem prover windows
  pub ended : prover.run.ended ≡ Some outcome
  pub closed : AllClosed acting windows last windows_last
  pub kept : length last ≡ length acting
  pub many : length windows ≡ length acting
  pub wide : length windows_last ≡ length acting

-- how each finder ended
abbrev pub ends_of : List Actor → List FinderEnd
ends_of actors = map (λ (a : Actor). a.end) actors

-- a loop over pairs: the first i were changed by R, the others are as they were
pub record UptoBoth {A B : Type 0} (R : A → B → A → B → Type 0) (xs : List A) (ys : List B) (xs' : List A) (ys' : List B) (i : ℕ) : Type 0 where
  pub done : (k : ℕ) (d : A) (e : B) → k < i → R (get_or xs k d) (get_or ys k e) (get_or xs' k d) (get_or ys' k e)
  pub firsts : (k : ℕ) (d : A) → i ≤ k → get_or xs' k d ≡ get_or xs k d
  pub seconds : (k : ℕ) (e : B) → i ≤ k → get_or ys' k e ≡ get_or ys k e
