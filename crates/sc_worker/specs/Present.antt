-- The tables of the last version that a chooser published, and the claims with one more.
use Rattle.std.specs.Prelude.{◌≡◌, ℕ, List, [], ◌∷◌, ◌++◌, Option, Some, None}
use Rattle.sc_term.specs.declared.Clause.{Clause}
use Rattle.sc_input_rules.specs.Problem.{Stated}
use Rattle.sc_interp.specs.declared.plain.Claim.{Claim}
use Rattle.sc_interp.specs.Structure.{Structure}
use Rattle.sc_find.specs.Models.{IsFirstModel}
use Rattle.sc_worker.specs.declared.trying.Tried.{Tried}
use Rattle.sc_worker.specs.declared.trying.Tried.TheVariants.{Found, GivenUp}
use Rattle.sc_worker.specs.FinderList.{task_for}

-- where tables are kept, they are those of the first model of the claims
abbrev pub IsPresent : Stated → ℕ → List Claim → Option Structure → Type 0
IsPresent problem size claims None = Unit {0}
IsPresent problem size claims (Some t) = IsFirstModel (task_for problem size claims) None t

-- the last claim is that of the clause, and the tables that are kept are those of the claims before it
pub record IsOneMore (problem : Stated) (size : ℕ) (claims : List Claim) (c : Clause) (present : Option Structure) : Type 0 where
  pub before : List Claim
  pub number : ℕ
  pub claims_are : claims ≡ before ++ record { number = number; clause = c } ∷ []
  pub kept : IsPresent problem size before present

-- the tables of the version that was found; where none was, those that were kept
abbrev pub tables_after : Tried → Option Structure → Option Structure
tables_after (Found v) old = Some v.tables
tables_after (GivenUp reason) old = old

-- after these claims were tried, the tables are those of a version of theirs, or what was kept of the claims before
abbrev pub IsKeptAfter : Stated → ℕ → List Claim → Option Structure → Option Structure → Tried → Type 0
IsKeptAfter problem size claims old new (Found v) = IsPresent problem size claims new
IsKeptAfter problem size claims old new (GivenUp reason) = new ≡ old
