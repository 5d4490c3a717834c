-- The number that digits write up to the greatest of 64 bits, clipped.
use Rattle.std.proofs.Common.{◌≡◌, ap, refl, ℕ, ◌-◌, ◌^◌, min, Bool, true, false, List, Some, None, Option, arith}
use Rattle.std.specs.List.{list_all}
use Rattle.std.specs.Str.Parse.{digits_value_after}
use Rattle.sc_input_rules.specs.Tokens.{is_digit}
use Rattle.sc_input_scan.specs.Numeral.{numeral_value}
use Rattle.sc_input_grammar.specs.Items.{beyond, clipped_numeral}

abbrev where_all : Bool → ℕ → Option ℕ
where_all all n = elim all [ true ↦ Some n | false ↦ None ]

clips_some : (all : Bool) (v n m : ℕ) → Some n ≡ where_all all (min v (2 ^ 64 - 1)) → m ≡ min n 10000000000 → Some m ≡ where_all all (min v 10000000000)
clips_some true v n m e h =
    let is : n ≡ min v (2 ^ 64 - 1) = cc in
    let same : m ≡ min v 10000000000 = omega (arith, is, h) in
    ap Some same
clips_some false v n m e h = absurd cc

clips_none : (all : Bool) (v : ℕ) → None ≡ where_all all (min v (2 ^ 64 - 1)) → None ≡ where_all all (min v 10000000000)
clips_none true v e = absurd cc
clips_none false v e = refl

pub some_clipped : (text : List ℕ) (n m : ℕ) → Some n ≡ numeral_value text → m ≡ min n beyond → Some m ≡ clipped_numeral text
some_clipped text n m e h = clips_some (list_all is_digit text) (digits_value_after 10 0 text) n m e h

pub none_clipped : (text : List ℕ) → None ≡ numeral_value text → None ≡ clipped_numeral text
none_clipped text e = clips_none (list_all is_digit text) (digits_value_after 10 0 text) e

pub ruleset clips = (some_clipped, none_clipped)
