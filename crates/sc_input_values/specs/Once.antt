-- Lists that grow at the end by what isn't there yet.
use Rattle.std.specs.Prelude.{Bool, List, [], ◌∷◌, ◌++◌, if◌then◌else◌}
use Rattle.std.specs.List.{list_any}

-- a list with one more at the end, where none in it is the same
abbrev pub with_new : {X : Type 0} → (X → X → Bool) → List X → X → List X
with_new same xs y = if list_any (same y) xs then xs else xs ++ y ∷ []

-- a list with several more, one after another
abbrev pub with_each : {X : Type 0} → (X → X → Bool) → List X → List X → List X
with_each same xs [] = xs
with_each same xs (y ∷ ys) = with_each same (with_new same xs y) ys
