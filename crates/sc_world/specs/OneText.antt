-- A text is decided by the versions that it lists and by how many of them each turn saw.
use Rattle.std.specs.Prelude.{◌≡◌, ℕ, List, map}
use Rattle.sc_input_rules.specs.Problem.{Stated}
use Rattle.sc_input_rules.specs.WellFormed.{IsProblem}
use Rattle.sc_core_rules.specs.declared.row.GivenRow.{GivenRow}
use Rattle.sc_core_rules.specs.Selection.{Seen}
use Rattle.sc_text_run_rules.specs.RunValue.{RunValue}
use Rattle.sc_world.specs.Recorded.{Tells}

-- the two texts are the same but for the rows that say how the finders ended
pub record AreAlike (text other : RunValue) : Type 0 where
  pub ratio : text.ratio ≡ other.ratio
  pub lists : text.lists ≡ other.lists
  pub given : text.given ≡ other.given
  pub kept : text.kept ≡ other.kept
  pub outcome : text.outcome ≡ other.outcome
  pub proof : text.proof ≡ other.proof
  pub marks : text.marks ≡ other.marks

-- of each given row, how many versions of each finder its turn saw
abbrev pub lengths_of : List GivenRow → List (List ℕ)
lengths_of rows = map (λ (row : GivenRow). row.lengths) rows

-- two texts that tell runs over the same versions, whose turns saw as many of them, are the same but for the finders' ends
abbrev pub TextIsOne : Type 0
TextIsOne =
    (problem : Stated) (versions : Seen) (text other : RunValue) → IsProblem problem → Tells problem versions text → Tells problem versions other
    → lengths_of text.given ≡ lengths_of other.given → AreAlike text other
