-- Loops within loops go through what they try in rising order.
use Rattle.std.proofs.Common.{◌≡◌, sym, subst, refl, ℕ, ◌<◌, ◌⊎◌, inl, inr, List, [], ◌∷◌, ◌++◌, arith}
use Rattle.std.specs.List.{Contains, AllPairs, flat_map}
use Rattle.std.proofs.lemmas.List.Kept.{AllPairs-cons}
use Rattle.std.proofs.lemmas.List.Elements.{Contains-get_or}
use Rattle.sc_core_rules.specs.Order.{IsBefore}
use Rattle.sc_core_rules.proofs.OrderLaws.{first_before, tail_pairs, Rises}
use Rattle.sc_term.proofs.ContainsLaws.{first_or_later, later}
use Rattle.sc_core_rules.proofs.FilterLaws.{in_either, in_first, in_second}

-- two lists in a row, where each of the first is related to each of the second
pub pairs_append : {X : Type 0} (R : X → X → Type 0) (xs ys : List X) → AllPairs R xs → AllPairs R ys → ((x y : X) → Contains xs x → Contains ys y → R x y) → AllPairs R (xs ++ ys)
pairs_append R [] ys up down between = down
pairs_append {X} R (x ∷ xs) ys up down between =
    AllPairs-cons R x (xs ++ ys) (λ k d h. by _ (in_either _ xs ys (Contains-get_or (xs ++ ys) k d h)))
    (pairs_append R xs ys (tail_pairs R x xs up) down (λ u v h k. between u v (later u x xs h) k))
  where
    by : (z : X) → Contains xs z ⊎ Contains ys z → R x z
    by z (inl h) = first_before R x z xs up h
    by z (inr h) = between x z (0, omega arith, refl) h

-- an element of the joined lists is one of some list
pub in_joined : {X Y : Type 0} (inner : Y → List X) (x : X) (ys : List Y) → Contains (flat_map inner ys) x → (y : Y) × Contains ys y × Contains (inner y) x
in_joined inner x [] h = absurd (omega (arith, h.1))
in_joined {X} {Y} inner x (y ∷ ys) h = by (λ k. in_joined inner x ys k) (in_either x (inner y) (flat_map inner ys) h)
  where
    by : (Contains (flat_map inner ys) x → (z : Y) × Contains ys z × Contains (inner z) x) → Contains (inner y) x ⊎ Contains (flat_map inner ys) x
        → (z : Y) × Contains (y ∷ ys) z × Contains (inner z) x
    by below (inl k) = (y, (0, omega arith, refl), k)
    by below (inr k) = let found = below k in (found.0, later found.0 y ys found.1, found.2)

pub joined_has : {X Y : Type 0} (inner : Y → List X) (x : X) (y : Y) (ys : List Y) → Contains ys y → Contains (inner y) x → Contains (flat_map inner ys) x
joined_has inner x y [] h k = absurd (omega (arith, h.1))
joined_has {X} {Y} inner x y (z ∷ zs) h k = by (λ m. joined_has inner x y zs m k) (first_or_later y z zs h)
  where
    by : (Contains zs y → Contains (flat_map inner zs) x) → (z ≡ y) ⊎ Contains zs y → Contains (inner z ++ flat_map inner zs) x
    by below (inl e) = in_first x (inner z) (flat_map inner zs) (subst (λ (w : Y). Contains (inner w) x) (sym e) k)
    by below (inr m) = in_second x (inner z) (flat_map inner zs) (below m)

before_after : (same ms ns : List ℕ) (m n : ℕ) → m < n → IsBefore (same ++ m ∷ ms) (same ++ n ∷ ns)
before_after [] ms ns m n less = inl less
before_after (k ∷ same) ms ns m n less = inr (refl, before_after same ms ns m n less)

-- the numbers of x begin with those, and then the key
abbrev pub BeginsWith : {X : Type 0} → (X → List ℕ) → List ℕ → ℕ → X → Type 0
BeginsWith numbers same key x = (rest : List ℕ) × (numbers x ≡ same ++ key ∷ rest)

-- an outer loop over rising keys, whose inner loops rise
pub nest : {X Y : Type 0} (numbers : X → List ℕ) (key : Y → ℕ) (inner : Y → List X) (same : List ℕ) (ys : List Y)
    → AllPairs (λ y z. key y < key z) ys → ((y : Y) → Rises numbers (inner y)) → ((y : Y) (x : X) → Contains (inner y) x → BeginsWith numbers same (key y) x)
    → Rises numbers (flat_map inner ys)
nest numbers key inner same [] up rise begin = λ i j d less within. absurd (omega (arith, within))
nest numbers key inner same (y ∷ ys) up rise begin =
    pairs_append (λ u v. IsBefore (numbers u) (numbers v)) (inner y) (flat_map inner ys) (rise y)
    (nest numbers key inner same ys (tail_pairs (λ u v. key u < key v) y ys up) rise begin)
    (λ u v h k.
    let found = in_joined inner v ys k in
    let first = begin y u h in
    let second = begin found.0 v found.2 in
    subst (λ (l : List ℕ). IsBefore l (numbers v)) (sym first.1)
    (subst (λ (l : List ℕ). IsBefore (same ++ key y ∷ first.0) l) (sym second.1)
    (before_after same first.0 second.0 (key y) (key found.0) (first_before (λ u v. key u < key v) y found.0 ys up found.1))))
