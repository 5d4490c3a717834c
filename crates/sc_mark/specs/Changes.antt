-- Which symbols have other entries in one structure than in another, and which clauses read one of them.
use Rattle.std.specs.Prelude.{◌≡◌, ℕ, List, Bool, true, false, ◌||◌, map, slice_index_or}
use Rattle.std.specs.List.{list_any}
use Rattle.sc_term.specs.declared.Term.{Term, fold-Term}
use Rattle.sc_term.specs.declared.Term.TheOpen.{Term-F}
use Rattle.sc_term.specs.declared.Term.TheOpen as at
use Rattle.sc_term.specs.declared.Literal.{Literal}
use Rattle.sc_term.specs.declared.Clause.{Clause}
use Rattle.sc_term.specs.Numbering.{numbered}
use Rattle.sc_interp.specs.declared.table.Table.{Table}
use Rattle.sc_interp.specs.Structure.{entry_in}

-- whether an entry of symbol n may differ, by a list with a place for each symbol: where it has none, it may
abbrev pub is_changed : List Bool → ℕ → Bool
is_changed changes n = slice_index_or changes n true

-- every entry of symbol n is the same in both
abbrev pub IsAlike : List Table → List Table → ℕ → Type 0
IsAlike old new n = (place : ℕ) → entry_in (numbered new n) place ≡ entry_in (numbered old n) place

-- symbols that aren't said to differ have the same entries in both
abbrev pub AreChanges : List Table → List Table → List Bool → Type 0
AreChanges old new changes = (n : ℕ) → is_changed changes n ≡ false → IsAlike old new n

-- whether some symbol of the term may differ
abbrev pub changed_step : List Bool → Term-F Bool → Bool
changed_step changes (at.Var n) = false
changed_step changes (at.App f args) = is_changed changes f.0 || list_any (λ b. b) args

abbrev pub term_changed : List Bool → Term → Bool
term_changed changes = fold-Term Bool (changed_step changes)

-- whether the predicate or a symbol of an argument may differ
abbrev pub literal_changed : List Bool → Literal → Bool
literal_changed changes l = is_changed changes l.pred.0 || list_any (λ b. b) (map (term_changed changes) l.args)

-- whether some symbol of the clause may differ
abbrev pub clause_changed : List Bool → Clause → Bool
clause_changed changes c = list_any (literal_changed changes) c.literals
