-- Lists with one element changed, and with one more at the end.
use Rattle.std.proofs.Common.{◌≡◌, ◌≢◌, ◌∙◌, sym, ap, subst, refl, ℕ, zero, suc, ◌-◌, ◌<◌, ◌==◌, ◌⊎◌, inl, inr, Bool, true, false, List, [], ◌∷◌, ◌++◌, length, slice_get, slice_set, Option, Some, None, if◌then◌else◌, arith}
use Rattle.std.specs.Option.{IsSomeAnd}
use Rattle.std.proofs.lemmas.Bool.{eqb-true, eqb-false}
use Rattle.sc_term.specs.Numbering.{numbered, with_element}

pub none_is_not : {A : Type 0} {B : Type 0} (a : A) → ◌≡◌ {A = Option A} None (Some a) → B
none_is_not a e = cc

pub there : {A : Type 0} (P : A → Type 0) (o : Option A) → IsSomeAnd o P → (x : A) × (o ≡ Some x) × P x
there P None h = absurd h
there P (Some x) h = (x, refl, h)

pub is_some_and : {A : Type 0} (P : A → Type 0) (o : Option A) (x : A) → o ≡ Some x → P x → IsSomeAnd o P
is_some_and P o x e h = subst (λ q. IsSomeAnd q P) (sym e) h

-- ---- one element changed

set_same : {A : Type 0} (xs : List A) (i : ℕ) (x y : A) → slice_get xs i ≡ Some y → slice_get (slice_set xs i x) i ≡ Some x
set_same [] i x y e = none_is_not y e
set_same (z ∷ zs) zero x y e = refl
set_same (z ∷ zs) (suc i) x y e = set_same zs i x y e

set_other : {A : Type 0} (xs : List A) (i j : ℕ) (x : A) → j ≢ i → slice_get (slice_set xs i x) j ≡ slice_get xs j
set_other [] i j x ne = refl
set_other (z ∷ zs) zero zero x ne = absurd (ne refl)
set_other (z ∷ zs) zero (suc j) x ne = refl
set_other (z ∷ zs) (suc i) zero x ne = refl
set_other (z ∷ zs) (suc i) (suc j) x ne = set_other zs i j x (λ e. ne (ap suc e))

pub numbered_some : {A : Type 0} (xs : List A) (n : ℕ) (y : A) → numbered xs n ≡ Some y → (0 < n) × (slice_get xs (n - 1) ≡ Some y)
numbered_some xs n y e = by (n == 0) refl e
  where
    by : (b : Bool) → (n == 0) ≡ b → (if b then None else slice_get xs (n - 1)) ≡ Some y → (0 < n) × (slice_get xs (n - 1) ≡ Some y)
    by true is e = none_is_not y e
    by false is e = let ne = eqb-false n 0 is in (omega (arith, ne), e)

pub numbered_at : {A : Type 0} (xs : List A) (n : ℕ) → 0 < n → numbered xs n ≡ slice_get xs (n - 1)
numbered_at {A} xs n lt = by (n == 0) refl
  where
    by : (b : Bool) → (n == 0) ≡ b → (if (n == 0) then (let none : Option A = None in none) else slice_get xs (n - 1)) ≡ slice_get xs (n - 1)
    by true is = let zero_is = eqb-true n 0 is in absurd (omega (arith, zero_is, lt))
    by false is = ap (λ b. if b then (let none : Option A = None in none) else slice_get xs (n - 1)) is

pub numbered_same : {A : Type 0} (xs : List A) (n : ℕ) (x y : A) → numbered xs n ≡ Some y → numbered (with_element xs n x) n ≡ Some x
numbered_same xs n x y e =
    let is = numbered_some xs n y e in
    numbered_at (slice_set xs (n - 1) x) n is.0 ∙ set_same xs (n - 1) x y is.1

pub numbered_other : {A : Type 0} (xs : List A) (n m : ℕ) (x : A) → 0 < n → m ≢ n → numbered (with_element xs n x) m ≡ numbered xs m
numbered_other xs n zero x lt ne = refl
numbered_other xs n (suc m) x lt ne =
    let other : suc m - 1 ≢ n - 1 = λ e. ne (omega (arith, e, lt)) in
    numbered_at (slice_set xs (n - 1) x) (suc m) (omega arith) ∙ set_other xs (n - 1) (suc m - 1) x other ∙ sym (numbered_at xs (suc m) (omega arith))

-- ---- one more at the end

pub before_or_last : {A : Type 0} (xs : List A) (x y : A) (k : ℕ) → slice_get (xs ++ x ∷ []) k ≡ Some y → (slice_get xs k ≡ Some y) ⊎ ((k ≡ length xs) × (x ≡ y))
before_or_last [] x y zero e = inr (refl, cc)
before_or_last [] x y (suc k) e = none_is_not y e
before_or_last (z ∷ zs) x y zero e = inl e
before_or_last (z ∷ zs) x y (suc k) e = by (before_or_last zs x y k e)
  where
    by : (slice_get zs k ≡ Some y) ⊎ ((k ≡ length zs) × (x ≡ y)) → (slice_get zs k ≡ Some y) ⊎ ((suc k ≡ length (z ∷ zs)) × (x ≡ y))
    by (inl h) = inl h
    by (inr h) = inr (omega (arith, h.0), h.1)

pub still_there : {A : Type 0} (xs ys : List A) (y : A) (k : ℕ) → slice_get xs k ≡ Some y → slice_get (xs ++ ys) k ≡ Some y
still_there [] ys y k e = none_is_not y e
still_there (z ∷ zs) ys y zero e = e
still_there (z ∷ zs) ys y (suc k) e = still_there zs ys y k e

pub last_there : {A : Type 0} (xs : List A) (x : A) → slice_get (xs ++ x ∷ []) (length xs) ≡ Some x
last_there [] x = refl
last_there (z ∷ zs) x = last_there zs x
