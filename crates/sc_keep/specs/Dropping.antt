-- Why a conclusion is dropped.
use Rattle.std.specs.Prelude.{◌≡◌, ◌<◌, ℕ, Bool, true, List, Option, Some, None, Contains, length}
use Rattle.sc_term.specs.declared.Clause.{Clause}
use Rattle.sc_term.specs.declared.Numbered.{Numbered}
use Rattle.sc_term.specs.Clause.{weight}
use Rattle.sc_input_rules.specs.declared.settings.Flags.{Flags}
use Rattle.sc_input_rules.specs.declared.settings.Params.{Params}
use Rattle.sc_term.specs.Subsumption.{Subsumes, IsTautology}
use Rattle.sc_core_rules.specs.declared.fate.Fate.{Fate}
use Rattle.sc_core_rules.specs.declared.fate.Fate.TheVariants.{Kept, Empty, Taut, Heavy, Long, Subsumed}
use Rattle.sc_core_rules.specs.Rewriting.{number_of}
use Rattle.sc_core_rules.specs.Order.{IsLeast}

-- subsumption is asked for, and a live clause subsumes this one
abbrev pub IsSubsumed : Bool → List Numbered → Clause → Type 0
IsSubsumed for_sub live c = (for_sub ≡ true) × ((m : Numbered) × Contains live m × Subsumes m.clause c)

-- the number is the least of a live clause that subsumes this one
abbrev pub IsSubsumedBy : Bool → List Numbered → Clause → ℕ → Type 0
IsSubsumedBy for_sub live c k = (for_sub ≡ true) × ((m : Numbered) × IsLeast number_of (λ p. Subsumes p.clause c) live m × (m.number ≡ k))

-- it is too heavy, or has too many literals
abbrev pub IsHeavy : Params → Clause → Type 0
IsHeavy params c = params.max_weight < weight c

abbrev pub IsLong : Params → Clause → Type 0
IsLong params c = params.max_literals < length c.literals

-- the fate is the first of the four that applies, or none of them does
abbrev pub IsDropped : Flags → Params → List Numbered → Clause → Option Fate → Type 0
IsDropped flags params live c None = (¬ IsTautology c) × (¬ IsHeavy params c) × (¬ IsLong params c) × (¬ IsSubsumed flags.for_sub live c)
IsDropped flags params live c (Some Taut) = IsTautology c
IsDropped flags params live c (Some Heavy) = (¬ IsTautology c) × IsHeavy params c
IsDropped flags params live c (Some Long) = (¬ IsTautology c) × (¬ IsHeavy params c) × IsLong params c
IsDropped flags params live c (Some (Subsumed k)) = (¬ IsTautology c) × (¬ IsHeavy params c) × (¬ IsLong params c) × IsSubsumedBy flags.for_sub live c k
IsDropped flags params live c (Some (Kept k)) = ⊥
IsDropped flags params live c (Some (Empty k)) = ⊥
