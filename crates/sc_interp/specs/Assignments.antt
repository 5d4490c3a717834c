-- Assignments as lists of elements: the element of variable n stands at place n. They are tried in the order of the
-- numbers whose digits they are.
use Rattle.std.specs.Prelude.{◌≡◌, ◌<◌, ℕ, ◌+◌, ◌*◌, List, [], ◌∷◌, Bool, true, All, length, slice_index}
use Rattle.std.specs.List.{list_any}
use Rattle.sc_term.specs.declared.Clause.{Clause}
use Rattle.sc_term.specs.Interpretation.{literal_holds}
use Rattle.sc_interp.specs.declared.table.Table.{Table}
use Rattle.sc_interp.specs.Structure.{tables_of_size}

-- each of them is an element
abbrev pub AreElements : ℕ → List ℕ → Type 0
AreElements size values = All (λ v. v < size) values

-- the number with these digits, the least first
abbrev pub assignment_number : ℕ → List ℕ → ℕ
assignment_number size [] = 0
assignment_number size (v ∷ vs) = v + size * assignment_number size vs

-- some literal is true where the variables have these elements
abbrev pub holds_at : ℕ → List Table → Clause → List ℕ → Bool
holds_at size tables c values = list_any (literal_holds (tables_of_size size tables) (slice_index values)) c.literals

-- some literal is true under each assignment to as many variables whose number is smaller
abbrev pub HoldsBefore : ℕ → List Table → Clause → List ℕ → Type 0
HoldsBefore size tables c values =
    (others : List ℕ) → length others ≡ length values → AreElements size others → assignment_number size others < assignment_number size values
    → holds_at size tables c others ≡ true
