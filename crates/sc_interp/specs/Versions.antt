-- Tables with input clauses that they make true.
use Rattle.std.specs.Prelude.{ℕ, ◌-◌, List, [], IsSomeAnd, All, take}
use Rattle.sc_term.specs.Numbering.{numbered}
use Rattle.sc_term.specs.declared.symbol.Symbol.{Symbol}
use Rattle.sc_interp.specs.declared.plain.Claim.{Claim}
use Rattle.sc_interp.specs.Structure.{Structure, IsStructure, Satisfies, zeros}

-- tables, and what is claimed of them
pub record ClaimedStructure : Type 0 where
  pub tables : Structure
  pub claims : List Claim

-- every claim is true in the structure
abbrev pub AreTrue : Structure → List Claim → Type 0
AreTrue t claims = All (λ (claim : Claim). Satisfies t claim.clause) claims

-- what every version keeps
pub record IsVersion (v : ClaimedStructure) : Type 0 where
  pub tables : IsStructure v.tables
  pub claims : AreTrue v.tables v.claims

-- claim number n of the list, from 1, is the first that isn't true
pub record IsFirstFalse (t : Structure) (claims : List Claim) (n : ℕ) : Type 0 where
  pub before : AreTrue t (take (n - 1) claims)
  pub here : IsSomeAnd (numbered claims n) (λ claim. ¬ Satisfies t claim.clause)

-- size 2, every entry 0, no claims
abbrev pub opening : List Symbol → ClaimedStructure
opening symbols = record { tables = zeros symbols 2; claims = [] }
