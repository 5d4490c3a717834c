-- What a reader of options keeps while it goes through the words.
use Rattle.std.specs.Prelude.{◌≡◌, ◌≤◌, ⊤, ℕ, List, [], ◌∷◌, Option, Some, None, IfSome}
use Rattle.sc_top_words.specs.declared.options.OptionName.{OptionName}
use Rattle.sc_top_words.specs.declared.options.OptionName.TheVariants.{Finders, Size, Upto, Nodes, Candidates, Workers}
use Rattle.sc_top_words.specs.declared.options.Row.{Row}
use Rattle.sc_top_words.specs.declared.taking.Taken.{Taken}
use Rattle.sc_top_words.specs.Options.{Given, Spell, row_of, values_of, IsValue, IsKept}

-- the number that is kept for the name
abbrev pub kept_for : OptionName → Taken → Option ℕ
kept_for Finders taken = taken.finders
kept_for Size taken = taken.size
kept_for Upto taken = taken.upto
kept_for Nodes taken = taken.nodes
kept_for Candidates taken = taken.candidates
kept_for Workers taken = taken.workers

-- the number is kept for the name
abbrev pub with_kept : OptionName → ℕ → Taken → Taken
with_kept Finders n taken = record taken { finders = Some n }
with_kept Size n taken = record taken { size = Some n }
with_kept Upto n taken = record taken { upto = Some n }
with_kept Nodes n taken = record taken { nodes = Some n }
with_kept Candidates n taken = record taken { candidates = Some n }
with_kept Workers n taken = record taken { workers = Some n }

-- the words spell options, of whose values these numbers are kept
pub record AreTaken (words : List (List ℕ)) (taken : Taken) : Type 0 where
  pub options : List Given
  pub spelled : Spell words options
  pub kept : (name : OptionName) → IsKept (row_of name) (kept_for name taken) (values_of name options)

-- there is one value at most, and it is in the range
abbrev pub FitValues : Row → List (List ℕ) → Type 0
FitValues row [] = ⊤
FitValues row (value ∷ []) = (n : ℕ) × IsValue row.low row.high value n
FitValues row (value ∷ other ∷ values) = ⊥

-- the words spell options of which each name is given once at most, with a value in its range
pub record AreFit (words : List (List ℕ)) : Type 0 where
  pub options : List Given
  pub spelled : Spell words options
  pub fit : (name : OptionName) → FitValues (row_of name) (values_of name options)

-- nothing was kept for the name, and the value spells a number in its range
abbrev pub MayBeTaken : Taken → Given → Type 0
MayBeTaken taken option = (kept_for option.name taken ≡ None) × (n : ℕ) × IsValue (row_of option.name).low (row_of option.name).high option.value n

-- the option was taken
pub record IsTakenIn (old new : Taken) (option : Given) : Type 0 where
  pub blank : kept_for option.name old ≡ None
  pub number : ℕ
  pub value : IsValue (row_of option.name).low (row_of option.name).high option.value number
  pub kept : new ≡ with_kept option.name number old

-- the number is one that may be kept for the name
abbrev pub IsIn : Row → ℕ → Type 0
IsIn row n = (row.low ≤ n) × (n ≤ row.high)

-- each number that is kept is in its range
abbrev pub AreInRange : Taken → Type 0
AreInRange taken = (name : OptionName) → IfSome (kept_for name taken) (IsIn (row_of name))

-- the number for the name, which is the usual one where none is kept
abbrev pub chosen_for : OptionName → Taken → ℕ
chosen_for name taken = elim (kept_for name taken) [ None ↦ (row_of name).usual | Some n ↦ n ]

-- the last size, where one is kept, isn't below the first one
abbrev pub AreInOrder : Taken → Type 0
AreInOrder taken = IfSome taken.upto (λ (last : ℕ). chosen_for Size taken ≤ last)
