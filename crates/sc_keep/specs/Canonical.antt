-- The terms and the line that take a clause to its canonical form.
use Rattle.std.specs.Prelude.{◌≡◌, ℕ, zero, suc, List, [], ◌∷◌, ◌++◌, nat_eq, nat_lt, length, if◌then◌else◌}
use Rattle.std.specs.List.{position_or_len}
use Rattle.sc_term.specs.declared.Term.{Term, Var}
use Rattle.sc_term.specs.declared.Clause.{Clause}
use Rattle.sc_term.specs.declared.Line.{Line}
use Rattle.sc_term.specs.declared.Step.TheVariants.{Instance}
use Rattle.sc_term.specs.JointInstance.{canonical}
use Rattle.sc_core_rules.specs.Derivation.{AreTermsTo}

-- the place of the number, and 0 where it isn't there
abbrev pub place_or_first : List ℕ → ℕ → ℕ
place_or_first order n = let at = position_or_len (nat_eq n) order in if nat_lt at (length order) then at else 0

-- a variable for each number below the count, whose number is its place
unfoldable pub place_terms : List ℕ → ℕ → List Term
place_terms order zero = []
place_terms order (suc n) = place_terms order n ++ Var (place_or_first order n) ∷ []

-- the line has the canonical form of the clause, by terms that take the clause to it
pub record IsCanonicalLine (c : Clause) (of : ℕ) (line : Line) : Type 0 where
  pub terms : List Term
  pub are_terms : AreTermsTo c (canonical c) terms
  pub step : line.step ≡ Instance of terms
  pub clause : line.clause ≡ canonical c
