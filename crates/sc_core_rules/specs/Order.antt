-- Cases in order, least elements, lists in order, filters, and steps that are repeated.
use Rattle.std.specs.Prelude.{◌≡◌, ◌<◌, ◌⊎◌, ℕ, zero, suc, List, [], ◌∷◌, Contains, All, AllPairs, Bool, true, false, ◌≤◌, length}

-- ---- cases

-- A where P holds, and otherwise B
abbrev pub Where : Type 0 → Type 0 → Type 0 → Type 0
Where P A B = (P × A) ⊎ ((¬ P) × B)

-- A with the flag, and B without it
abbrev pub With : Bool → Type 0 → Type 0 → Type 0
With true A B = A
With false A B = B

-- ---- order

-- the one list of numbers comes before the other, as words do in a dictionary
abbrev pub IsBefore : List ℕ → List ℕ → Type 0
IsBefore ms [] = ⊥
IsBefore [] (n ∷ ns) = Unit {0}
IsBefore (m ∷ ms) (n ∷ ns) = (m < n) ⊎ ((m ≡ n) × IsBefore ms ns)

-- xs are the things of which P holds, each once, in rising order of their numbers
pub record AreInOrder {X : Type 0} (numbers : X → List ℕ) (P : X → Type 0) (xs : List X) : Type 0 where
  pub rising : AllPairs (λ x y. IsBefore (numbers x) (numbers y)) xs
  pub only : All P xs
  pub all : (x : X) → P x → Contains xs x

-- xs are the first of those things, at most as many as the limit, and all of them where they are fewer
pub record AreFirst {X : Type 0} (numbers : X → List ℕ) (P : X → Type 0) (limit : ℕ) (xs : List X) : Type 0 where
  pub rising : AllPairs (λ x y. IsBefore (numbers x) (numbers y)) xs
  pub only : All P xs
  pub no_more : length xs ≤ limit
  pub first : (x : X) → P x → Contains xs x ⊎ ((length xs ≡ limit) × All (λ y. IsBefore (numbers y) (numbers x)) xs)

-- of the elements of which P holds, x is the one whose numbers come first
pub record IsLeast {X : Type 0} (numbers : X → List ℕ) (P : X → Type 0) (xs : List X) (x : X) : Type 0 where
  pub listed : Contains xs x
  pub holds : P x
  pub least : (y : X) → Contains xs y → P y → ¬ IsBefore (numbers y) (numbers x)

-- ys are the elements of which P holds, in the order of the list
pub data IsFilter {X : Type 0} (P : X → Type 0) : List X → List X → Type 0 where
  none : IsFilter P [] []
  taken : {x : X} {xs ys : List X} → P x → IsFilter P xs ys → IsFilter P (x ∷ xs) (x ∷ ys)
  passed : {x : X} {xs ys : List X} → ¬ P x → IsFilter P xs ys → IsFilter P (x ∷ xs) ys

-- ---- repetition

-- steps of R lead from x to z, from which there is none
pub data Exhausts {X : Type 0} (R : X → X → Type 0) : X → X → Type 0 where
  ends : {x : X} → ((y : X) → ¬ R x y) → Exhausts R x x
  goes : {x y z : X} → R x y → Exhausts R y z → Exhausts R x z

-- the same, but after n steps it ends too
pub data ExhaustsWithin {X : Type 0} (R : X → X → Type 0) : ℕ → X → X → Type 0 where
  limit : {x : X} → ExhaustsWithin R zero x x
  ends : {n : ℕ} {x : X} → ((y : X) → ¬ R x y) → ExhaustsWithin R (suc n) x x
  goes : {n : ℕ} {x y z : X} → R x y → ExhaustsWithin R n y z → ExhaustsWithin R (suc n) x z
