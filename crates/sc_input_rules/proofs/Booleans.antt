-- What `&&` and `||` say of their parts.
use Rattle.std.proofs.Common.{◌≡◌, refl, Bool, true, false, ◌||◌}
use Rattle.std.specs.Prelude.{◌&&◌}

pub both_hold : (a b : Bool) → a ≡ true → b ≡ true → (a && b) ≡ true
both_hold true true e k = refl
both_hold true false e k = k
both_hold false b e k = e

pub parts_hold : (a b : Bool) → (a && b) ≡ true → (a ≡ true) × (b ≡ true)
parts_hold true b e = (refl, e)
parts_hold false b e = absurd cc

pub neither : (a b : Bool) → (a || b) ≡ false → (a ≡ false) × (b ≡ false)
neither true b e = absurd cc
neither false b e = (refl, e)
