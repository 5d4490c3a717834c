-- The clauses that have given numbers.
use Rattle.std.specs.Prelude.{◌≡◌, ◌≢◌, ℕ, List, All, AllPairs, Contains, Some}
use Rattle.sc_term.specs.declared.Clause.{Clause}
use Rattle.sc_term.specs.declared.Numbered.{Numbered}
use Rattle.sc_term.specs.Numbering.{numbered}

-- a clause has the number
abbrev pub HasNumber : List Numbered → ℕ → Type 0
HasNumber ps n = (p : Numbered) × Contains ps p × (p.number ≡ n)

-- the clauses that have these numbers, each once
pub record AreParents (clauses : List Clause) (numbers : List ℕ) (parents : List Numbered) : Type 0 where
  pub differ : AllPairs (λ p q. p.number ≢ q.number) parents
  pub stand : All (λ p. numbered clauses p.number ≡ Some p.clause) parents
  pub named : All (λ p. Contains numbers p.number) parents
  pub all : All (HasNumber parents) numbers
