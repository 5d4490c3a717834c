-- The live clauses of one literal.
use Rattle.std.specs.Prelude.{◌≡◌, ◌<◌, List, [], ◌∷◌, ◌++◌, length, Contains, AllPairs}
use Rattle.sc_term.specs.declared.Numbered.{Numbered}
use Rattle.sc_core_rules.specs.Order.{Where}

-- the clause has one literal
abbrev pub HasOneLiteral : Numbered → Type 0
HasOneLiteral p = length p.clause.literals ≡ 1

-- the clause is added to the list where it has one literal
abbrev pub IsNoted : Numbered → List Numbered → List Numbered → Type 0
IsNoted p before after = Where (HasOneLiteral p) (after ≡ before ++ p ∷ []) (after ≡ before)

-- the units are those of the clauses that have one literal, in rising order of their numbers
pub record AreUnitsInOrder (clauses units : List Numbered) : Type 0 where
  pub rising : AllPairs (λ p q. p.number < q.number) units
  pub only : (u : Numbered) → Contains units u → Contains clauses u
  pub all : (u : Numbered) → Contains clauses u → HasOneLiteral u → Contains units u
