-- Literals that can be resolved on, or merged.
use Rattle.std.specs.Prelude.{◌≡◌, List, [], ◌∷◌, Bool, not, ◌&&◌, nat_eq, if◌then◌else◌}
use Rattle.sc_term.specs.declared.Literal.{Literal}
use Rattle.sc_term.specs.declared.Pair.{Pair}
use Rattle.sc_term.specs.Substitution.{Unify}

-- the pair of the two literals
abbrev pub pair_of : Literal → Literal → List Pair
pair_of l m = record { left = l; right = m } ∷ []

-- by their signs and predicates they may be resolved on
abbrev pub may_resolve : Literal → Literal → Bool
may_resolve l m = (if l.positive then not m.positive else m.positive) && nat_eq l.pred.0 m.pred.0

-- by their signs and predicates they may be merged
abbrev pub may_merge : Literal → Literal → Bool
may_merge l m = (if l.positive then m.positive else not m.positive) && nat_eq l.pred.0 m.pred.0

-- the two have opposite signs and unify
pub record AreResolvable (l m : Literal) : Type 0 where
  pub signs : l.positive ≡ not m.positive
  pub unify : Unify (pair_of l m)

-- the two have the same sign and unify
pub record AreMergeable (l m : Literal) : Type 0 where
  pub signs : l.positive ≡ m.positive
  pub unify : Unify (pair_of l m)
