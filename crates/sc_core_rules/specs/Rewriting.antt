-- Rewriting by demodulators.
use Rattle.std.specs.Prelude.{◌≡◌, ◌<◌, ◌≤◌, ◌⊎◌, ℕ, List, [], ◌∷◌, Contains, Some, true, length, count_by, nat_eq}
use Rattle.sc_term.specs.declared.Term.{Term}
use Rattle.sc_term.specs.declared.Literal.{Literal}
use Rattle.sc_term.specs.declared.Clause.{Clause}
use Rattle.sc_term.specs.declared.Line.{Line}
use Rattle.sc_term.specs.declared.Step.TheVariants.{Para}
use Rattle.sc_term.specs.declared.Side.TheVariants.{Left}
use Rattle.sc_term.specs.Numbering.{numbered}
use Rattle.sc_term.specs.Path.{IsSubtermAt}
use Rattle.sc_term.specs.Term.{term_instance, term_weight, term_variables}
use Rattle.sc_term.specs.Clause.{IsWithinLimits, instance}
use Rattle.sc_term.specs.Refuted.{equation}
use Rattle.sc_term.specs.declared.Numbered.{Numbered}
use Rattle.sc_core_rules.specs.Paramodulation.{IsCompound}
use Rattle.sc_steps.specs.Derivation.{last_clause}
use Rattle.sc_core_rules.specs.Derivation.{Adds, AddsPart}
use Rattle.sc_core_rules.specs.Order.{IsLeast, ExhaustsWithin}

-- clauses are ordered by their numbers
abbrev pub number_of : Numbered → List ℕ
number_of p = p.number ∷ []

-- the clause is the one positive equation of these sides
abbrev pub IsEquation : Clause → Term → Term → Type 0
IsEquation c left right = c.literals ≡ equation true left right ∷ []

-- s is an instance of the demodulator's left side
abbrev pub Fits : Numbered → Term → Type 0
Fits d s = (left : Term) × (right : Term) × (terms : List Term) × IsEquation d.clause left right × (s ≡ term_instance terms left)

-- ---- redexes

-- s, the subterm of literal b at the path, is no variable and an instance of a demodulator's left side
pub record IsRedex (demods : List Numbered) (c : Clause) (b : ℕ) (path : List ℕ) (s : Term) : Type 0 where
  pub literal : Literal
  pub literal_there : numbered c.literals b ≡ Some literal
  pub subterm : IsSubtermAt literal.args path s
  pub compound : IsCompound s
  pub demodulator : Numbered
  pub listed : Contains demods demodulator
  pub fits : Fits demodulator s

-- a path comes after its extensions, and otherwise smaller places come first
abbrev pub IsBeforeInPostOrder : List ℕ → List ℕ → Type 0
IsBeforeInPostOrder [] q = ⊥
IsBeforeInPostOrder (i ∷ p) [] = Unit {0}
IsBeforeInPostOrder (i ∷ p) (j ∷ q) = (i < j) ⊎ ((i ≡ j) × IsBeforeInPostOrder p q)

-- the first redex: in the first literal that has one, and there first in post-order
pub record IsFirstRedex (demods : List Numbered) (c : Clause) (b : ℕ) (path : List ℕ) (s : Term) : Type 0 where
  pub redex : IsRedex demods c b path s
  pub first_literal : (a : ℕ) (p : List ℕ) (t : Term) → a < b → ¬ IsRedex demods c a p t
  pub first_path : (p : List ℕ) (t : Term) → IsBeforeInPostOrder p path → ¬ IsRedex demods c b p t

-- the clause has a redex by this demodulator
abbrev pub HasRedex : Clause → Numbered → Type 0
HasRedex c d = (b : ℕ) × (path : List ℕ) × (s : Term) × IsRedex (d ∷ []) c b path s

-- ---- rewriting

-- the first redex is replaced by the demodulator of least number that fits; the results are within the limits
pub record RewritesOnce (demods : List Numbered) (before after : List Line) : Type 0 where
  pub clause : Clause
  pub clause_last : last_clause before ≡ Some clause
  pub b : ℕ
  pub path : List ℕ
  pub redex : Term
  pub first : IsFirstRedex demods clause b path redex
  pub demodulator : Numbered
  pub least : IsLeast number_of (λ d. Fits d redex) demods demodulator
  pub terms : List Term
  pub value : Term
  pub is_value : IsEquation (instance terms demodulator.clause) redex value
  pub mid : List Line
  pub k : ℕ
  pub shows : AddsPart before demodulator (instance terms demodulator.clause) mid k
  pub replaces : Adds mid (Para k 1 Left (length before) b path) after
  pub result : Clause
  pub result_last : last_clause after ≡ Some result
  pub instance_within : IsWithinLimits (instance terms demodulator.clause)
  pub result_within : IsWithinLimits result

-- rewriting goes on until nothing is left to do, and at most as often as the limit says
abbrev pub Rewrites : List Numbered → ℕ → List Line → List Line → Type 0
Rewrites demods limit before after = ExhaustsWithin (RewritesOnce demods) limit before after

-- ---- demodulators

-- a positive unit equation whose left side is no variable and holds every variable of the right side
pub record IsDemodulator (c : Clause) : Type 0 where
  pub left : Term
  pub right : Term
  pub equates : IsEquation c left right
  pub compound : IsCompound left
  pub no_other : (v : ℕ) → Contains (term_variables right) v → Contains (term_variables left) v

-- a positive unit equation whose left side is no variable and weighs more than its right, and no variable occurs more
-- often on the right than on the left
pub record BecomesDemodulator (c : Clause) : Type 0 where
  pub left : Term
  pub right : Term
  pub equates : IsEquation c left right
  pub compound : IsCompound left
  pub lighter : term_weight right < term_weight left
  pub fewer : (v : ℕ) → count_by (nat_eq v) (term_variables right) ≤ count_by (nat_eq v) (term_variables left)
