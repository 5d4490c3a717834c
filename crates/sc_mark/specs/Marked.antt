-- What contracts see of marks: one version, its name, and the clauses that are marked in it.
use Rattle.std.specs.Prelude.{◌≡◌, ℕ, List, [], ◌∷◌, ◌++◌, Contains, filter, not, nat_eq}
use Rattle.sc_term.specs.declared.Clause.{Clause}
use Rattle.sc_term.specs.declared.Numbered.{Numbered}
use Rattle.sc_term.specs.declared.symbol.Symbol.{Symbol}
use Rattle.sc_interp.specs.declared.plain.Truth.{Truth}
use Rattle.sc_interp.specs.declared.plain.Truth.TheVariants.{False}
use Rattle.sc_interp.specs.declared.plain.VersionName.{VersionName}
use Rattle.sc_interp.specs.Marks.{IsMark}
use Rattle.sc_interp.specs.Versions.{ClaimedStructure, opening}
use Rattle.sc_core_rules.specs.Selection.{opening_name}

-- the version that every mark names, and the clauses that are marked in it, with their numbers
pub record Marked : Type 0 where
  pub name : VersionName
  pub version : ClaimedStructure
  pub clauses : List Numbered

-- no clause is marked, in the opening version
abbrev pub unmarked : List Symbol → Marked
unmarked symbols = record { name = opening_name; version = opening symbols; clauses = [] }

-- one of the clauses has number n
abbrev pub HasNumber : List Numbered → ℕ → Type 0
HasNumber clauses n = (p : Numbered) × Contains clauses p × (p.number ≡ n)

-- clause n is marked
abbrev pub HasMark : Marked → ℕ → Type 0
HasMark marked n = HasNumber marked.clauses n

-- clause n is marked, and this is its truth in the version
abbrev pub HasTruth : Marked → ℕ → Truth → Type 0
HasTruth marked n truth = (p : Numbered) × Contains marked.clauses p × (p.number ≡ n) × IsMark marked.version.tables p.clause truth

-- clause n is marked False
abbrev pub IsMarkedFalse : Marked → ℕ → Type 0
IsMarkedFalse marked n = HasTruth marked n False

-- this clause is marked too, as number n
abbrev pub with_mark : Marked → ℕ → Clause → Marked
with_mark marked n c = record marked { clauses = marked.clauses ++ record { number = n; clause = c } ∷ [] }

-- the clauses other than n
abbrev pub without_number : List Numbered → ℕ → List Numbered
without_number clauses n = filter (λ (p : Numbered). not (nat_eq p.number n)) clauses

-- clause n isn't marked any more
abbrev pub without_mark : Marked → ℕ → Marked
without_mark marked n = record marked { clauses = without_number marked.clauses n }
