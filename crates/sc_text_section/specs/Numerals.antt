-- Numbers and variables by their digits.
use Rattle.std.specs.Prelude.{ℕ, true, false, List, Option, Some, None, option_map, [], ◌∷◌, ◌==◌, if◌then◌else◌}
use Rattle.std.specs.List.{list_all}
use Rattle.std.specs.Str.Parse.{digits_value}
use Rattle.sc_input_rules.specs.Tokens.{is_digit}
use Rattle.sc_input_rules.specs.declared.written.Occurrence.{Occurrence}
use Rattle.sc_text_rules.specs.TextWords.{text_variable}
use Rattle.sc_text_section.specs.Clipped.{clipped}

-- the same, clipped
abbrev pub clipped_value : List ℕ → Option ℕ
clipped_value text = elim (list_all is_digit text) [ true ↦ Some (clipped (digits_value 10 text)) | false ↦ None ]

-- the number of a variable of this name, clipped
abbrev pub variable_named : List ℕ → Option ℕ
variable_named [] = None
variable_named (b ∷ []) = None
variable_named (b ∷ d ∷ ds) = if b == 120 then clipped_value (d ∷ ds) else None

-- the number of a variable, clipped
abbrev pub clipped_variable : Occurrence → Option ℕ
clipped_variable o = option_map clipped (text_variable o)
