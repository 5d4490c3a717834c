-- What a list contains is its first element, or stands later.
use Rattle.std.proofs.Common.{◌≡◌, refl, ℕ, zero, suc, ◌⊎◌, inl, inr, List, ◌∷◌, arith}
use Rattle.std.specs.List.{Contains}

pub first_or_later : {X : Type 0} (x y : X) (ys : List X) → Contains (y ∷ ys) x → (y ≡ x) ⊎ Contains ys x
first_or_later x y ys (zero, within, e) = inl e
first_or_later x y ys (suc k, within, e) = inr (k, omega arith, e)

pub at_first : {X : Type 0} (x : X) (xs : List X) → Contains (x ∷ xs) x
at_first x xs = (0, omega arith, refl)

pub later : {X : Type 0} (x y : X) (xs : List X) → Contains xs x → Contains (y ∷ xs) x
later x y xs h = (suc h.0, omega (arith, h.1), h.2)
