-- Lists of numbers in the order of a dictionary, and things in order.
use Rattle.std.specs.Prelude.{◌≡◌, ◌<◌, ◌⊎◌, ℕ, List, [], ◌∷◌, Contains, All, AllPairs}

-- the one list of numbers comes before the other, as words do in a dictionary
abbrev pub IsBefore : List ℕ → List ℕ → Type 0
IsBefore ms [] = ⊥
IsBefore [] (n ∷ ns) = Unit {0}
IsBefore (m ∷ ms) (n ∷ ns) = (m < n) ⊎ ((m ≡ n) × IsBefore ms ns)

-- xs are the things of which P holds, each once, in rising order of their numbers
pub record AreInOrder {X : Type 0} (numbers : X → List ℕ) (P : X → Type 0) (xs : List X) : Type 0 where
  pub rising : AllPairs (λ x y. IsBefore (numbers x) (numbers y)) xs
  pub only : All P xs
  pub all : (x : X) → P x → Contains xs x
