-- Clauses in the order of their numbers.
use Rattle.std.specs.Prelude.{◌<◌, List, map, AllPairs}
use Rattle.std.specs.List.Sorted.{IsPermutation}
use Rattle.std.specs.Borrow.{Bor}
use Rattle.sc_term.specs.declared.Numbered.{Numbered}

-- what is seen through references
abbrev pub seen : List (Bor Numbered) → List Numbered
seen = map (λ p. p.now)

-- these are the same clauses, in rising order of their numbers
pub record AreByNumber (clauses ordered : List Numbered) : Type 0 where
  pub same : IsPermutation clauses ordered
  pub rising : AllPairs (λ p q. p.number < q.number) ordered
