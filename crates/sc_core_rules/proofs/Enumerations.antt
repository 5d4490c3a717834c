-- The elements of short lists, one by one.
use Rattle.std.proofs.Common.{◌≡◌, ◌∙◌, sym, subst, refl, ℕ, zero, suc, ◌⊎◌, inl, inr, List, [], ◌∷◌, Some, None, Option, arith}
use Rattle.std.specs.Prelude.{IsSomeAnd}
use Rattle.std.specs.List.{Contains, All, AllPairs}
use Rattle.std.proofs.lemmas.List.Kept.{AllPairs-cons}
use Rattle.sc_term.specs.Numbering.{numbered}
use Rattle.sc_core_rules.proofs.NumberLaws.{numbered-suc}
use Rattle.sc_term.proofs.ContainsLaws.{first_or_later}

-- ---- elements

pub in_none : {X : Type 0} (x : X) → ¬ Contains [] x
in_none x h = omega (arith, h.1)

pub in_one : {X : Type 0} (a x : X) → Contains (a ∷ []) x → a ≡ x
in_one a x h = by (first_or_later x a [] h)
  where
    by : (a ≡ x) ⊎ Contains [] x → a ≡ x
    by (inl e) = e
    by (inr k) = absurd (in_none x k)

pub in_two : {X : Type 0} (a b x : X) → Contains (a ∷ b ∷ []) x → (a ≡ x) ⊎ (b ≡ x)
in_two a b x h = by (first_or_later x a (b ∷ []) h)
  where
    by : (a ≡ x) ⊎ Contains (b ∷ []) x → (a ≡ x) ⊎ (b ≡ x)
    by (inl e) = inl e
    by (inr k) = inr (in_one b x k)

pub in_three : {X : Type 0} (a b c x : X) → Contains (a ∷ b ∷ c ∷ []) x → (a ≡ x) ⊎ (b ≡ x) ⊎ (c ≡ x)
in_three a b c x h = by (first_or_later x a (b ∷ c ∷ []) h)
  where
    rest : (b ≡ x) ⊎ (c ≡ x) → (a ≡ x) ⊎ (b ≡ x) ⊎ (c ≡ x)
    rest (inl e) = inr (inl e)
    rest (inr e) = inr (inr e)

    by : (a ≡ x) ⊎ Contains (b ∷ c ∷ []) x → (a ≡ x) ⊎ (b ≡ x) ⊎ (c ≡ x)
    by (inl e) = inl e
    by (inr k) = rest (in_two b c x k)

-- ---- elements by their number

pub numbered_none : {X : Type 0} (n : ℕ) (x : X) → ¬ (numbered [] n ≡ Some x)
numbered_none {X} zero x h = let none : ◌≡◌ {A = Option X} None (Some x) = h in cc
numbered_none {X} (suc n) x h = let none : ◌≡◌ {A = Option X} None (Some x) = sym (numbered-suc [] n) ∙ h in cc

-- element n of the list is its first, or element n - 1 of the rest
pub numbered_cons : {X : Type 0} (a : X) (xs : List X) (n : ℕ) (x : X) → numbered (a ∷ xs) n ≡ Some x → ((n ≡ 1) × (a ≡ x)) ⊎ ((m : ℕ) × (n ≡ suc m) × (numbered xs m ≡ Some x))
numbered_cons {X} a xs zero x h = let none : ◌≡◌ {A = Option X} None (Some x) = h in absurd cc
numbered_cons a xs (suc zero) x h = inl (refl, cc)
numbered_cons a xs (suc (suc n)) x h = inr (suc n, refl, numbered-suc xs n ∙ sym (numbered-suc (a ∷ xs) (suc n)) ∙ h)

pub numbered_one : {X : Type 0} (a : X) (n : ℕ) (x : X) → numbered (a ∷ []) n ≡ Some x → (n ≡ 1) × (a ≡ x)
numbered_one a n x h = by (numbered_cons a [] n x h)
  where
    by : ((n ≡ 1) × (a ≡ x)) ⊎ ((m : ℕ) × (n ≡ suc m) × (numbered [] m ≡ Some x)) → (n ≡ 1) × (a ≡ x)
    by (inl e) = e
    by (inr k) = absurd (numbered_none k.0 x k.2)

pub numbered_two : {X : Type 0} (a b : X) (n : ℕ) (x : X) → numbered (a ∷ b ∷ []) n ≡ Some x → ((n ≡ 1) × (a ≡ x)) ⊎ ((n ≡ 2) × (b ≡ x))
numbered_two a b n x h = by (numbered_cons a (b ∷ []) n x h)
  where
    by : ((n ≡ 1) × (a ≡ x)) ⊎ ((m : ℕ) × (n ≡ suc m) × (numbered (b ∷ []) m ≡ Some x)) → ((n ≡ 1) × (a ≡ x)) ⊎ ((n ≡ 2) × (b ≡ x))
    by (inl e) = inl e
    by (inr k) = let last = numbered_one b k.0 x k.2 in inr (omega (arith, k.1, last.0), last.1)

pub numbered_three : {X : Type 0} (a b c : X) (n : ℕ) (x : X) → numbered (a ∷ b ∷ c ∷ []) n ≡ Some x → ((n ≡ 1) × (a ≡ x)) ⊎ ((n ≡ 2) × (b ≡ x)) ⊎ ((n ≡ 3) × (c ≡ x))
numbered_three a b c n x h = by (numbered_cons a (b ∷ c ∷ []) n x h)
  where
    rest : (m : ℕ) → n ≡ suc m → ((m ≡ 1) × (b ≡ x)) ⊎ ((m ≡ 2) × (c ≡ x)) → ((n ≡ 1) × (a ≡ x)) ⊎ ((n ≡ 2) × (b ≡ x)) ⊎ ((n ≡ 3) × (c ≡ x))
    rest m e (inl k) = inr (inl (omega (arith, e, k.0), k.1))
    rest m e (inr k) = inr (inr (omega (arith, e, k.0), k.1))

    by : ((n ≡ 1) × (a ≡ x)) ⊎ ((m : ℕ) × (n ≡ suc m) × (numbered (b ∷ c ∷ []) m ≡ Some x)) → ((n ≡ 1) × (a ≡ x)) ⊎ ((n ≡ 2) × (b ≡ x)) ⊎ ((n ≡ 3) × (c ≡ x))
    by (inl e) = inl e
    by (inr k) = rest k.0 k.1 (numbered_two b c k.0 x k.2)

some_there : {X : Type 0} (o : Option X) (P : X → Type 0) → IsSomeAnd o P → (x : X) × (o ≡ Some x) × P x
some_there None P h = absurd h
some_there (Some x) P h = (x, refl, h)

-- what holds of element n of a list holds of one of its elements
pub some_of_one : {X : Type 0} (P : X → Type 0) (a : X) (n : ℕ) → IsSomeAnd (numbered (a ∷ []) n) P → (n ≡ 1) × P a
some_of_one P a n h =
    let there = some_there (numbered (a ∷ []) n) P h in
    let e = numbered_one a n there.0 there.1 in
    (e.0, subst P (sym e.1) there.2)

pub some_of_three : {X : Type 0} (P : X → Type 0) (a b c : X) (n : ℕ) → IsSomeAnd (numbered (a ∷ b ∷ c ∷ []) n) P → ((n ≡ 1) × P a) ⊎ ((n ≡ 2) × P b) ⊎ ((n ≡ 3) × P c)
some_of_three {X} P a b c n h = by (numbered_three a b c n there.0 there.1)
  where
    there : (x : X) × (numbered (a ∷ b ∷ c ∷ []) n ≡ Some x) × P x
    there = some_there (numbered (a ∷ b ∷ c ∷ []) n) P h

    by : ((n ≡ 1) × (a ≡ there.0)) ⊎ ((n ≡ 2) × (b ≡ there.0)) ⊎ ((n ≡ 3) × (c ≡ there.0)) → ((n ≡ 1) × P a) ⊎ ((n ≡ 2) × P b) ⊎ ((n ≡ 3) × P c)
    by (inl e) = inl (e.0, subst P (sym e.1) there.2)
    by (inr (inl e)) = inr (inl (e.0, subst P (sym e.1) there.2))
    by (inr (inr e)) = inr (inr (e.0, subst P (sym e.1) there.2))

-- ---- all of them, and all pairs

pub all_of_one : {X : Type 0} (P : X → Type 0) (a : X) → P a → All P (a ∷ [])
all_of_one P a h zero d within = h
all_of_one P a h (suc k) d within = absurd (omega arith)

pub all_of_two : {X : Type 0} (P : X → Type 0) (a b : X) → P a → P b → All P (a ∷ b ∷ [])
all_of_two P a b h i zero d within = h
all_of_two P a b h i (suc zero) d within = i
all_of_two P a b h i (suc (suc k)) d within = absurd (omega arith)

pub all_of_four : {X : Type 0} (P : X → Type 0) (a b c e : X) → P a → P b → P c → P e → All P (a ∷ b ∷ c ∷ e ∷ [])
all_of_four P a b c e h i j k zero d within = h
all_of_four P a b c e h i j k (suc zero) d within = i
all_of_four P a b c e h i j k (suc (suc zero)) d within = j
all_of_four P a b c e h i j k (suc (suc (suc zero))) d within = k
all_of_four P a b c e h i j k (suc (suc (suc (suc n)))) d within = absurd (omega arith)

pub pairs_of_one : {X : Type 0} (R : X → X → Type 0) (a : X) → AllPairs R (a ∷ [])
pairs_of_one R a i j d less within = absurd (omega arith)

pub pairs_of_two : {X : Type 0} (R : X → X → Type 0) (a b : X) → R a b → AllPairs R (a ∷ b ∷ [])
pairs_of_two R a b h = AllPairs-cons R a (b ∷ []) (all_of_one (R a) b h) (pairs_of_one R b)

all_of_three : {X : Type 0} (P : X → Type 0) (a b c : X) → P a → P b → P c → All P (a ∷ b ∷ c ∷ [])
all_of_three P a b c h i j zero d within = h
all_of_three P a b c h i j (suc zero) d within = i
all_of_three P a b c h i j (suc (suc zero)) d within = j
all_of_three P a b c h i j (suc (suc (suc n))) d within = absurd (omega arith)

pub pairs_of_four : {X : Type 0} (R : X → X → Type 0) (a b c d : X) → R a b → R a c → R a d → R b c → R b d → R c d → AllPairs R (a ∷ b ∷ c ∷ d ∷ [])
pairs_of_four R a b c d ab ac ad bc bd cd =
    AllPairs-cons R a (b ∷ c ∷ d ∷ []) (all_of_three (R a) b c d ab ac ad)
    (AllPairs-cons R b (c ∷ d ∷ []) (all_of_two (R b) c d bc bd) (pairs_of_two R c d cd))
