-- A conclusion is rewritten, flipped, cut by units, merged and made canonical.
use Rattle.std.specs.Prelude.{◌≡◌, ◌<◌, ◌-◌, ℕ, List, [], ◌∷◌, Contains, Some, IsSomeAnd, not, length, take}
use Rattle.sc_term.specs.declared.Term.{Term}
use Rattle.sc_term.specs.declared.Literal.{Literal}
use Rattle.sc_term.specs.declared.Clause.{Clause}
use Rattle.sc_term.specs.declared.Line.{Line}
use Rattle.sc_term.specs.declared.Step.TheVariants.{Flip, Resolve, Merge}
use Rattle.sc_term.specs.Numbering.{numbered}
use Rattle.sc_term.specs.Term.{term_weight}
use Rattle.sc_term.specs.Clause.{literal_instance}
use Rattle.sc_term.specs.Refuted.{atom_of}
use Rattle.sc_term.specs.declared.Numbered.{Numbered}
use Rattle.sc_input_rules.specs.declared.settings.Flags.{Flags}
use Rattle.sc_core_rules.specs.Rewriting.{number_of, IsEquation, Rewrites}
use Rattle.sc_steps.specs.Derivation.{last_clause}
use Rattle.sc_core_rules.specs.Derivation.{Adds, AddsPart, EndsCanonical}
use Rattle.sc_core_rules.specs.Order.{Where, With, IsLeast, Exhausts}

-- ---- flip

-- a positive unit equation whose right side weighs more than its left
abbrev pub IsUphill : Clause → Type 0
IsUphill c = (left : Term) × (right : Term) × IsEquation c left right × (term_weight left < term_weight right)

-- such a clause is flipped, and another left as it is
abbrev pub Orients : List Line → List Line → Type 0
Orients before after = IsSomeAnd (last_clause before) (λ c.
    Where (IsUphill c) (Adds before (Flip (length before) 1) after) (after ≡ before))

-- ---- unit deletion

-- u is a unit of the sign opposite to l, whose atom has that of l as an instance
abbrev pub Removes : Literal → Numbered → Type 0
Removes l u = (m : Literal) × (terms : List Term) × (u.clause.literals ≡ m ∷ []) × (l.positive ≡ not m.positive)
    × (atom_of l ≡ atom_of (literal_instance terms m))

-- some unit removes literal a
abbrev pub IsRemovable : List Numbered → Clause → ℕ → Type 0
IsRemovable units c a = IsSomeAnd (numbered c.literals a) (λ l. (u : Numbered) × Contains units u × Removes l u)

-- the first removable literal is removed by the unit of least number
pub record DeletesOnce (units : List Numbered) (before after : List Line) : Type 0 where
  pub clause : Clause
  pub clause_last : last_clause before ≡ Some clause
  pub a : ℕ
  pub literal : Literal
  pub literal_there : numbered clause.literals a ≡ Some literal
  pub first : (b : ℕ) → b < a → ¬ IsRemovable units clause b
  pub removing : Numbered
  pub least : IsLeast number_of (Removes literal) units removing
  pub mid : List Line
  pub k : ℕ
  pub shows : AddsPart before removing (record { literals = record literal { positive = not literal.positive } ∷ [] }) mid k
  pub resolves : Adds mid (Resolve (length before) a k 1) after

-- ---- merge

-- literal a equals an earlier one
abbrev pub IsRepeated : Clause → ℕ → Type 0
IsRepeated c a = IsSomeAnd (numbered c.literals a) (λ l. Contains (take (a - 1) c.literals) l)

-- the first literal that equals an earlier one is removed
pub record MergesOnce (before after : List Line) : Type 0 where
  pub clause : Clause
  pub clause_last : last_clause before ≡ Some clause
  pub a : ℕ
  pub repeated : IsRepeated clause a
  pub first : (b : ℕ) → b < a → ¬ IsRepeated clause b
  pub merges : Adds before (Merge (length before) a) after

-- ---- all of it

-- the five in order: rewritten; flipped, with `dynamic_demod`; cut by units, with `unit_deletion`; merged; canonical
pub record Simplifies (flags : Flags) (demod_limit : ℕ) (demods units : List Numbered) (before after : List Line) : Type 0 where
  pub rewritten : List Line
  pub oriented : List Line
  pub cut : List Line
  pub merged : List Line
  pub rewrites : Rewrites demods demod_limit before rewritten
  pub orients : With flags.dynamic_demod (Orients rewritten oriented) (oriented ≡ rewritten)
  pub cuts : With flags.unit_deletion (Exhausts (DeletesOnce units) oriented cut) (cut ≡ oriented)
  pub merges : Exhausts MergesOnce cut merged
  pub canonical_last : EndsCanonical merged after
