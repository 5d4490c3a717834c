-- When an interpretation makes clauses true.
use Rattle.std.specs.Prelude.{ℕ, List, Bool, All}
use Rattle.sc_term.specs.declared.SymId.{SymId}
use Rattle.sc_term.specs.declared.Clause.{Clause}
use Rattle.sc_term.specs.Interpretation.{IsTrueIn}

-- every clause is true, where symbols mean this over these elements
abbrev pub IsModel : (ℕ → Type 0) → (SymId → List ℕ → ℕ) → (SymId → List ℕ → Bool) → List Clause → Type 0
IsModel IsElement function predicate clauses = All (IsTrueIn IsElement (record { function = function; predicate = predicate })) clauses
