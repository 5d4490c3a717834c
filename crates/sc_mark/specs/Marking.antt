-- How marks are kept: what is known of each clause stands at the clause's number.
use Rattle.std.specs.Prelude.{◌≡◌, ◌≢◌, ℕ, List, Option, None, Some, IsSomeAnd, All, AllPairs, slice_index_or}
use Rattle.sc_term.specs.declared.Numbered.{Numbered}
use Rattle.sc_term.specs.Clause.{IsCanonical, IsWithinLimits}
use Rattle.sc_interp.specs.Structure.{Structure}
use Rattle.sc_mark.specs.declared.known.Known.{Known}
use Rattle.sc_mark.specs.Known.{IsKnown}
use Rattle.sc_mark.specs.Marked.{Marked, HasNumber}

-- what stands at place n, None past the end
abbrev pub known_at : List (Option Known) → ℕ → Option Known
known_at stored n = slice_index_or stored n None

-- the same stands everywhere
abbrev pub AreSame : List (Option Known) → List (Option Known) → Type 0
AreSame old new = (n : ℕ) → known_at new n ≡ known_at old n

-- the entry stands at place n, and elsewhere what stood there before
pub record IsPut (n : ℕ) (entry : Option Known) (old new : List (Option Known)) : Type 0 where
  pub here : known_at new n ≡ entry
  pub elsewhere : (m : ℕ) → m ≢ n → known_at new m ≡ known_at old m

-- what stands at the clause's number is known of it in the tables
abbrev pub IsKnownAt : Structure → List (Option Known) → Numbered → Type 0
IsKnownAt t stored p = IsSomeAnd (known_at stored p.number) (IsKnown t p.clause)

-- what is known of each of the clauses stands at its number, and nothing stands elsewhere
pub record AreKnown (t : Structure) (clauses : List Numbered) (stored : List (Option Known)) : Type 0 where
  pub each : All (IsKnownAt t stored) clauses
  pub only : (n : ℕ) (known : Known) → known_at stored n ≡ Some known → HasNumber clauses n

-- clauses that can be marked together: canonical, within the limits, and no number stands twice
pub record MayBeMarked (clauses : List Numbered) : Type 0 where
  pub apart : AllPairs (λ (p q : Numbered). p.number ≢ q.number) clauses
  pub canonical : All (λ (p : Numbered). IsCanonical p.clause) clauses
  pub within : All (λ (p : Numbered). IsWithinLimits p.clause) clauses

-- what all marks keep: what is stored is known of the clauses in the version, and the register is as wide as any clause
pub record IsMarking (marked : Marked) (stored : List (Option Known)) (width : ℕ) : Type 0 where
  pub known : AreKnown marked.version.tables marked.clauses stored
  pub clauses : MayBeMarked marked.clauses
  pub register : width ≡ 10000
