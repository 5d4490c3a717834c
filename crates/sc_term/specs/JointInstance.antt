-- Parents renamed apart, and their joint instance.
use Rattle.std.specs.Prelude.{◌≡◌, ℕ, ◌+◌, List, [], ◌∷◌, map, nat_eq}
use Rattle.std.specs.List.{position_or_len}
use Rattle.sc_term.specs.declared.Term.{Var}
use Rattle.sc_term.specs.declared.Clause.{Clause}
use Rattle.sc_term.specs.Term.{joined}
use Rattle.sc_term.specs.Clause.{width, variables, firsts}
use Rattle.sc_term.specs.declared.Pair.{Pair}
use Rattle.sc_term.specs.Substitution.{Substitution, clause_under, IsMostGeneralUnifier}

-- each variable greater by the number
abbrev pub shift : ℕ → Clause → Clause
shift by c = clause_under (λ n. Var (n + by)) c

-- the variables of each clause are above those of the clauses before it
abbrev pub apart_above : ℕ → List Clause → List Clause
apart_above low [] = []
apart_above low (c ∷ cs) = shift low c ∷ apart_above (low + width c) cs

abbrev pub apart : List Clause → List Clause
apart cs = apart_above 0 cs

-- a variable becomes the number of those that first occur before it
abbrev pub renumbering : List ℕ → Substitution
renumbering order n = Var (position_or_len (nat_eq n) order)

-- the clauses with their variables numbered by first occurrence, over all of them
abbrev pub renumbered : List Clause → List Clause
renumbered cs = map (clause_under (renumbering (firsts (joined (map variables cs))))) cs

abbrev pub canonical : Clause → Clause
canonical c = clause_under (renumbering (firsts (variables c))) c

-- the parts of the parents in their joint instance, which makes the pairs equal. The pairs are of the parents
-- renamed apart
abbrev pub IsJointInstance : List Clause → List Pair → List Clause → Type 0
IsJointInstance parents pairs parts =
    (s : Substitution) × IsMostGeneralUnifier pairs s × (parts ≡ renumbered (map (clause_under s) (apart parents)))

-- the joint instance as one list of literals
abbrev pub whole : List Clause → Clause
whole parts = record { literals = joined (map (λ (c : Clause). c.literals) parts) }

-- the joint instance is the same for every most general unifier
abbrev pub JointInstanceIsOne : Type 0
JointInstanceIsOne = (parents : List Clause) (pairs : List Pair) (parts others : List Clause)
    → IsJointInstance parents pairs parts → IsJointInstance parents pairs others → parts ≡ others
