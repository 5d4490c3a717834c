-- Subsumption and tautologies.
use Rattle.std.specs.Prelude.{◌≤◌, ◌⊎◌, List, All, Contains, length, true}
use Rattle.sc_term.specs.declared.Term.{Term}
use Rattle.sc_term.specs.declared.Literal.{Literal}
use Rattle.sc_term.specs.declared.Clause.{Clause}
use Rattle.sc_term.specs.Clause.{literal_instance}
use Rattle.sc_term.specs.Refuted.{equation}
use Rattle.sc_term.specs.Proof.{AreOpposite}

-- some terms take each literal of c to one of d, and c has no more literals than d
pub record Subsumes (c d : Clause) : Type 0 where
  pub terms : List Term
  pub each : All (λ l. Contains d.literals (literal_instance terms l)) c.literals
  pub no_longer : length c.literals ≤ length d.literals

-- it has two literals of opposite signs with the same atom, or a positive t = t
abbrev pub IsTautology : Clause → Type 0
IsTautology c =
    ((l : Literal) × (m : Literal) × Contains c.literals l × Contains c.literals m × AreOpposite l m)
    ⊎ ((t : Term) × Contains c.literals (equation true t t))
