-- The number that digits write.
use Rattle.std.specs.Prelude.{ℕ, ◌-◌, ◌^◌, min, true, false, List, Option, Some, None}
use Rattle.std.specs.List.{list_all}
use Rattle.std.specs.Str.Parse.{digits_value_after}
use Rattle.sc_input_rules.specs.Tokens.{is_digit}

-- the number that digits write behind those of n, at most the greatest of 64 bits; none where another byte is among them
abbrev pub numeral_after : ℕ → List ℕ → Option ℕ
numeral_after n text = elim (list_all is_digit text) [ true ↦ Some (min (digits_value_after 10 n text) (2 ^ 64 - 1)) | false ↦ None ]

abbrev pub numeral_value : List ℕ → Option ℕ
numeral_value text = numeral_after 0 text
