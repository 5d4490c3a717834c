-- Fronts and rests of lists, element by element, and lists that hold place by place.
use Rattle.std.proofs.Common.{◌≡◌, ◌≢◌, ◌∙◌, sym, ap, subst, refl, ℕ, zero, suc, ◌+◌, ◌<◌, ◌⊎◌, inl, inr, List, [], ◌∷◌, ◌++◌, length, Some, None, Option, slice_get, get_or, take, drop, arith, add-one}
use Rattle.std.specs.List.{AllZip, All, AllPairs, Contains, remove}
use Rattle.std.proofs.lemmas.Option.{slice_get_within, get_or_from_slice_get, slice_get-get_or}
use Rattle.sc_core_rules.proofs.StepLaws.{same_some}
use Rattle.sc_resolve.proofs.LiteralLaws.{at_contains}

-- ---- fronts and rests

take_suc : {X : Type 0} (xs : List X) (k : ℕ) (x : X) → slice_get xs k ≡ Some x → take (suc k) xs ≡ take k xs ++ x ∷ []
take_suc {X} [] k x h = let none : ◌≡◌ {A = Option X} None (Some x) = h in absurd cc
take_suc (y ∷ ys) zero x h = let e : y ≡ x = cc in λ i. e i ∷ []
take_suc {X} (y ∷ ys) (suc k) x h = ap (λ (zs : List X). y ∷ zs) (take_suc ys k x h)

pub take_next : {X : Type 0} (xs : List X) (k : ℕ) (x : X) → slice_get xs k ≡ Some x → take (k + 1) xs ≡ take k xs ++ x ∷ []
take_next xs k x h = rw add-one (take_suc xs k x h)

drop_suc : {X : Type 0} (xs : List X) (k : ℕ) (x : X) → slice_get xs k ≡ Some x → drop k xs ≡ x ∷ drop (suc k) xs
drop_suc {X} [] k x h = let none : ◌≡◌ {A = Option X} None (Some x) = h in absurd cc
drop_suc (y ∷ ys) zero x h = let e : y ≡ x = cc in λ i. e i ∷ ys
drop_suc (y ∷ ys) (suc k) x h = drop_suc ys k x h

pub drop_next : {X : Type 0} (xs : List X) (k : ℕ) (x : X) → slice_get xs k ≡ Some x → drop k xs ≡ x ∷ drop (k + 1) xs
drop_next xs k x h = rw add-one (drop_suc xs k x h)

pub drop_all : {X : Type 0} (xs : List X) (k : ℕ) → k ≡ length xs → drop k xs ≡ []
drop_all [] zero h = refl
drop_all [] (suc k) h = refl
drop_all (x ∷ xs) zero h = absurd (omega arith)
drop_all (x ∷ xs) (suc k) h = drop_all xs k (omega arith)

pub take_all : {X : Type 0} (xs : List X) (k : ℕ) → k ≡ length xs → take k xs ≡ xs
take_all [] zero h = refl
take_all [] (suc k) h = refl
take_all (x ∷ xs) zero h = absurd (omega arith)
take_all {X} (x ∷ xs) (suc k) h = ap (λ (ys : List X). x ∷ ys) (take_all xs k (omega arith))

-- ---- place by place

pub zip_at : {A B : Type 0} (R : A → B → Type 0) (xs : List A) (ys : List B) → AllZip R xs ys → (k : ℕ) (x : A) → slice_get xs k ≡ Some x → (y : B) × (slice_get ys k ≡ Some y) × R x y
zip_at {A} R [] ys h k x e = let none : ◌≡◌ {A = Option A} None (Some x) = e in absurd cc
zip_at R (a ∷ xs) [] h k x e = absurd h
zip_at R (a ∷ xs) (b ∷ ys) h zero x e = let same : a ≡ x = cc in (b, refl, subst (λ c. R c b) same h.0)
zip_at R (a ∷ xs) (b ∷ ys) h (suc k) x e = zip_at R xs ys h.1 k x e

pub zip_right : {A B : Type 0} (R : A → B → Type 0) (xs : List A) (ys : List B) → AllZip R xs ys → (k : ℕ) (y : B) → slice_get ys k ≡ Some y → (x : A) × (slice_get xs k ≡ Some x) × R x y
zip_right {B = B} R xs [] h k y e = let none : ◌≡◌ {A = Option B} None (Some y) = e in absurd cc
zip_right R [] (b ∷ ys) h k y e = absurd h
zip_right R (a ∷ xs) (b ∷ ys) h zero y e = let same : b ≡ y = cc in (a, refl, subst (R a) same h.0)
zip_right R (a ∷ xs) (b ∷ ys) h (suc k) y e = zip_right R xs ys h.1 k y e

pub zip_long : {A B : Type 0} (R : A → B → Type 0) (xs : List A) (ys : List B) → AllZip R xs ys → length xs ≡ length ys
zip_long R [] [] h = refl
zip_long R [] (b ∷ ys) h = absurd h
zip_long R (a ∷ xs) [] h = absurd h
zip_long R (a ∷ xs) (b ∷ ys) h = omega (arith, zip_long R xs ys h.1)

pub zip_next : {A B : Type 0} (R : A → B → Type 0) (xs : List A) (ys : List B) (x : A) (y : B) → AllZip R xs ys → R x y → AllZip R (xs ++ x ∷ []) (ys ++ y ∷ [])
zip_next R [] [] x y h r = (r, tt)
zip_next R [] (b ∷ ys) x y h r = absurd h
zip_next R (a ∷ xs) [] x y h r = absurd h
zip_next R (a ∷ xs) (b ∷ ys) x y h r = (h.0, zip_next R xs ys x y h.1 r)

pub zip_so : {A B : Type 0} (R S : A → B → Type 0) (xs : List A) (ys : List B) → ((x : A) (y : B) → R x y → S x y) → AllZip R xs ys → AllZip S xs ys
zip_so R S [] [] f h = tt
zip_so R S [] (b ∷ ys) f h = absurd h
zip_so R S (a ∷ xs) [] f h = absurd h
zip_so R S (a ∷ xs) (b ∷ ys) f h = (f a b h.0, zip_so R S xs ys f h.1)

-- ---- elements

pub all_at : {X : Type 0} (P : X → Type 0) (xs : List X) → All P xs → (k : ℕ) (x : X) → slice_get xs k ≡ Some x → P x
all_at P xs h k x e = subst P (get_or_from_slice_get xs k x x e) (h k x (slice_get_within xs k x e))

pub all_so : {X : Type 0} (P : X → Type 0) (xs : List X) → ((k : ℕ) (x : X) → slice_get xs k ≡ Some x → P x) → All P xs
all_so P xs h k d less = h k (get_or xs k d) (slice_get-get_or xs k d less)

-- ---- an element is taken out

pub remove_at : {X : Type 0} (xs ys : List X) (a n : ℕ) (x : X) → a < n → slice_get xs n ≡ Some x → (m : ℕ) → n ≡ m + 1 → slice_get (remove xs a ++ ys) m ≡ Some x
remove_at {X} [] ys a n x less h m e = let none : ◌≡◌ {A = Option X} None (Some x) = h in absurd cc
remove_at (z ∷ xs) ys zero zero x less h m e = absurd (omega arith)
remove_at (z ∷ xs) ys zero (suc n) x less h m e = let same : n ≡ m = omega arith in subst (λ k. slice_get (xs ++ ys) k ≡ Some x) same (append_at xs ys n x h)
  where
    append_at : {X : Type 0} (us vs : List X) (k : ℕ) (u : X) → slice_get us k ≡ Some u → slice_get (us ++ vs) k ≡ Some u
    append_at {X} [] vs k u h = let none : ◌≡◌ {A = Option X} None (Some u) = h in absurd cc
    append_at (w ∷ us) vs zero u h = h
    append_at (w ∷ us) vs (suc k) u h = append_at us vs k u h
remove_at (z ∷ xs) ys (suc a) zero x less h m e = absurd (omega arith)
remove_at (z ∷ xs) ys (suc a) (suc n) x less h zero e = absurd (omega (arith, less, e))
remove_at (z ∷ xs) ys (suc a) (suc n) x less h (suc m) e = remove_at xs ys a n x (omega arith) h m (omega arith)

-- ---- numbers that differ

pub one_of_number : {X : Type 0} (number : X → ℕ) (xs : List X) → AllPairs (λ x y. number x ≡ number y → x ≡ y) xs → (x y : X) → Contains xs x → Contains xs y → number x ≡ number y → x ≡ y
one_of_number {X} number xs one x y at_x at_y same = by (trichotomy at_x.0 at_y.0)
  where
    ordered : (j k : ℕ) (u v : X) → slice_get xs j ≡ Some u → slice_get xs k ≡ Some v → j < k → number u ≡ number v → u ≡ v
    ordered j k u v at_j at_k less e =
        let first = get_or_from_slice_get xs j u u at_j in
        let second = get_or_from_slice_get xs k v u at_k in
        sym first ∙ one j k u less (slice_get_within xs k v at_k) (ap number first ∙ e ∙ sym (ap number second)) ∙ second

    trichotomy : (j k : ℕ) → (j < k) ⊎ (j ≡ k) ⊎ (k < j)
    trichotomy j k = grind arith

    by : (at_x.0 < at_y.0) ⊎ (at_x.0 ≡ at_y.0) ⊎ (at_y.0 < at_x.0) → x ≡ y
    by (inl less) = ordered at_x.0 at_y.0 x y (at_contains xs x at_x) (at_contains xs y at_y) less same
    by (inr (inl e)) = same_some (slice_get xs at_x.0) x y (at_contains xs x at_x) (ap (slice_get xs) e ∙ at_contains xs y at_y)
    by (inr (inr less)) = sym (ordered at_y.0 at_x.0 y x (at_contains xs y at_y) (at_contains xs x at_x) less (sym same))

pub differ_so : {X : Type 0} (number : X → ℕ) (xs : List X) → AllPairs (λ x y. number x ≢ number y) xs → AllPairs (λ x y. number x ≡ number y → x ≡ y) xs
differ_so number xs differ = λ j k d less within e. absurd (differ j k d less within e)
