-- What a chooser keeps: where it stands among the input clauses, and what is known of its claims.
use Rattle.std.specs.Prelude.{◌≡◌, ◌≤◌, ◌<◌, ◌+◌, ◌↔◌, ℕ, Bool, IsTrue, List, Option, Some, All, take, drop, filter, length, slice_get}
use Rattle.sc_term.specs.declared.Clause.{Clause}
use Rattle.sc_term.specs.declared.Numbered.{Numbered}
use Rattle.sc_term.specs.Clause.{weight}
use Rattle.sc_term.specs.declared.symbol.Symbol.{Symbol}
use Rattle.sc_input_rules.specs.Problem.{Stated}
use Rattle.sc_input_rules.specs.WellFormed.{IsOver}
use Rattle.sc_interp.specs.declared.plain.Claim.{Claim}
use Rattle.sc_interp.specs.Structure.{Structure}
use Rattle.sc_cells.specs.Cells.{cell_count}
use Rattle.sc_core_rules.specs.Start.{numbered_from}
use Rattle.sc_worker.specs.FinderList.{is_light}
use Rattle.sc_worker.specs.Choosing.{Choice}
use Rattle.sc_worker.specs.Present.{IsPresent}

-- the input clauses from that place on that weigh at most 100
abbrev pub light_from : List Clause → ℕ → List Numbered
light_from clauses place = filter is_light (numbered_from (place + 1) (drop place clauses))

-- the claims so far, and so many candidates at most from that place on
abbrev pub choice_of : Stated → ℕ → ℕ → List Claim → ℕ → ℕ → Choice
choice_of problem size budget claims place room =
    record { problem = problem; size = size; budget = budget; claims = claims; left = take room (light_from problem.inputs place) }

-- the clauses of the claims are over these symbols
abbrev pub AreClaimsOver : List Symbol → List Claim → Type 0
AreClaimsOver symbols claims = All (λ (claim : Claim). IsOver symbols claim.clause) claims

-- the place is that of a candidate or the end; claims and candidates are few; whether there are too many cells is known; and
-- the tables that are kept are those of the claims
pub record IsChooser (problem : Stated) (size : ℕ) (claims : List Claim) (present : Option Structure) (place room : ℕ) (wide : Bool) : Type 0 where
  pub some : 1 ≤ size
  pub small : size ≤ 8
  pub within : place ≤ length problem.inputs
  pub light : (c : Clause) → slice_get problem.inputs place ≡ Some c → weight c ≤ 100
  pub over : AreClaimsOver problem.symbols claims
  pub kept : IsPresent problem size claims present
  pub few : length claims + room ≤ 128
  pub cells : IsTrue wide ↔ (4096 < cell_count problem.symbols size)
