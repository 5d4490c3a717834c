-- What a search that goes through lists in order has tried, read from its stack and the next value.
use Rattle.std.proofs.Common.{◌≡◌, ◌∙◌, refl, ℕ, zero, suc, ◌+◌, ◌<◌, ◌⊎◌, inl, inr, List, [], ◌∷◌, ◌++◌, length, arith}
use Rattle.sc_cells.specs.Order.{IsBefore}

-- where the list leaves the stack it has a smaller value than the stack, or than the next one
abbrev pub WasTried : List ℕ → ℕ → List ℕ → Type 0
WasTried [] next [] = ⊥
WasTried [] next (m ∷ ms) = m < next
WasTried (v ∷ vs) next [] = ⊥
WasTried (v ∷ vs) next (m ∷ ms) = (m < v) ⊎ ((m ≡ v) × WasTried vs next ms)

-- ---- lists in order

pub before_trans : (xs ys zs : List ℕ) → IsBefore xs ys → IsBefore ys zs → IsBefore xs zs
before_trans xs ys [] h k = absurd k
before_trans xs [] (z ∷ zs) h k = absurd h
before_trans [] (y ∷ ys) (z ∷ zs) h k = tt
before_trans (x ∷ xs) (y ∷ ys) (z ∷ zs) h k = elim h [
  | inl less ↦ elim k [
    | inl more ↦ inl (omega (arith, less, more))
    | inr same ↦ inl (omega (arith, less, same.0))
  ]
  | inr same ↦ elim k [
    | inl more ↦ inl (omega (arith, same.0, more))
    | inr equal ↦ inr (same.0 ∙ equal.0, before_trans xs ys zs same.1 equal.1)
  ]
]

pub before_longer : (xs : List ℕ) (y : ℕ) → IsBefore xs (xs ++ y ∷ [])
before_longer [] y = tt
before_longer (x ∷ xs) y = inr (refl, before_longer xs y)

-- ---- what was tried

-- a longer list that comes before the stack with the next value
pub before_tried : (vs m : List ℕ) (next : ℕ) → length vs < length m → IsBefore m (vs ++ next ∷ []) → WasTried vs next m
before_tried [] [] next long h = absurd (omega (arith, long))
before_tried [] (x ∷ xs) next long h = elim h [
  | inl less ↦ less
  | inr same ↦ absurd same.1
]
before_tried (v ∷ vs) [] next long h = absurd (omega (arith, long))
before_tried (v ∷ vs) (x ∷ xs) next long h = elim h [
  | inl less ↦ inl less
  | inr same ↦ inr (same.0, before_tried vs xs next (omega (arith, long)) same.1)
]

-- one that is as long as the stack, and comes before it
pub full_tried : (vs m : List ℕ) (next : ℕ) → length m ≡ length vs → IsBefore m vs → WasTried vs next m
full_tried [] m next long h = absurd h
full_tried (v ∷ vs) [] next long h = absurd (omega (arith, long))
full_tried (v ∷ vs) (x ∷ xs) next long h = elim h [
  | inl less ↦ inl less
  | inr same ↦ inr (same.0, full_tried vs xs next (omega (arith, long)) same.1)
]

-- the next value was put onto the stack
pub tried_deeper : (vs m : List ℕ) (k : ℕ) → WasTried (vs ++ k ∷ []) 0 m → WasTried vs k m
tried_deeper [] [] k h = absurd h
tried_deeper [] (x ∷ []) k h = elim h [
  | inl less ↦ less
  | inr same ↦ absurd same.1
]
tried_deeper [] (x ∷ y ∷ ys) k h = elim h [
  | inl less ↦ less
  | inr same ↦ absurd (omega (arith, same.1))
]
tried_deeper (v ∷ vs) [] k h = absurd h
tried_deeper (v ∷ vs) (x ∷ xs) k h = elim h [
  | inl less ↦ inl less
  | inr same ↦ inr (same.0, tried_deeper vs xs k same.1)
]

-- m goes on after the front
abbrev pub Extends : List ℕ → List ℕ → Type 0
Extends front m = (rest : List ℕ) × (m ≡ front ++ rest)

further : (v x : ℕ) (front m : List ℕ) → x ≡ v → Extends front m → Extends (v ∷ front) (x ∷ m)
further v x front m same h = (h.0, λ i. same i ∷ h.1 i)

equal_or_less : (x k : ℕ) → x < k + 1 → (x < k) ⊎ (x ≡ k)
equal_or_less x zero h = inr (omega (arith, h))
equal_or_less zero (suc k) h = inl (omega arith)
equal_or_less (suc x) (suc k) h = elim (equal_or_less x k (omega (arith, h))) [
  | inl less ↦ inl (omega (arith, less))
  | inr same ↦ inr (omega (arith, same))
]

-- the next value was passed
pub tried_further : (vs m : List ℕ) (k : ℕ) → WasTried vs (k + 1) m → WasTried vs k m ⊎ Extends (vs ++ k ∷ []) m
tried_further [] [] k h = absurd h
tried_further [] (x ∷ xs) k h = elim (equal_or_less x k h) [
  | inl less ↦ inl less
  | inr same ↦ inr (xs, λ i. same i ∷ xs)
]
tried_further (v ∷ vs) [] k h = absurd h
tried_further (v ∷ vs) (x ∷ xs) k h = elim h [
  | inl less ↦ inl (inl less)
  | inr same ↦ elim (tried_further vs xs k same.1) [
    | inl tried ↦ inl (inr (same.0, tried))
    | inr more ↦ inr (further v x (vs ++ k ∷ []) xs same.0 more)
  ]
]

-- a list that goes on after the stack with a smaller value than the next one
pub less_tried : (vs : List ℕ) (k next : ℕ) (more : List ℕ) → k < next → WasTried vs next (vs ++ k ∷ more)
less_tried [] k next more less = less
less_tried (v ∷ vs) k next more less = inr (refl, less_tried vs k next more less)

-- what was tried before the value on top, was tried before with it
pub tried_under : (vs m : List ℕ) (v next : ℕ) → WasTried vs v m → WasTried (vs ++ v ∷ []) next m
tried_under [] [] v next h = absurd h
tried_under [] (x ∷ xs) v next h = inl h
tried_under (w ∷ vs) [] v next h = absurd h
tried_under (w ∷ vs) (x ∷ xs) v next h = elim h [
  | inl less ↦ inl less
  | inr same ↦ inr (same.0, tried_under vs xs v next same.1)
]

pub none_at_first : (m : List ℕ) (first : ℕ) → WasTried [] first m → (k : ℕ) × (k < first) × Extends (k ∷ []) m
none_at_first [] first h = absurd h
none_at_first (x ∷ xs) first h = (x, h, (xs, refl))
