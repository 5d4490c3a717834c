-- Which numbers may stand at a place of a row.
use Rattle.std.specs.Prelude.{ℕ, ◌<◌, ◌-◌, ◌^◌, Bool, true, ◌&&◌, ◌==◌, nat_le}
use Rattle.sc_text_run_section.specs.declared.number.Expected.{Expected}
use Rattle.sc_text_run_section.specs.declared.number.Expected.TheVariants.{Any, Exactly, AtLeast, Between}

-- the number may stand there
abbrev pub passes : Expected → ℕ → Bool
passes Any n = true
passes (Exactly k) n = n == k
passes (AtLeast k) n = nat_le k n
passes (Between k m) n = nat_le k n && nat_le n m

-- what is expected is below the greatest number of 64 bits
abbrev pub IsSmall : Expected → Type 0
IsSmall Any = Unit {0}
IsSmall (Exactly k) = k < 2 ^ 64 - 1
IsSmall (AtLeast k) = k < 2 ^ 64 - 1
IsSmall (Between k m) = (k < 2 ^ 64 - 1) × (m < 2 ^ 64 - 1)
