-- Lists of which one element is changed.
use Rattle.std.proofs.Common.{◌≡◌, ◌≢◌, ◌∙◌, sym, ap, refl, ℕ, zero, suc, ◌+◌, ◌-◌, ◌<◌, ◌==◌, Bool, true, false, ◌&&◌, if◌then◌else◌, List, [], ◌∷◌, ◌++◌, append_assoc, length, take, drop, map, set, get_or, slice_get, Some, None, arith, option_map}
use Rattle.std.specs.List.{list_all, remove}
use Rattle.std.proofs.lemmas.Grind.{common_steps}
use Rattle.std.proofs.lemmas.List.{append_cancel_left, take-set, drop-set-lt}
use Rattle.std.proofs.lemmas.Option.{slice_get-map}
use Rattle.sc_term.specs.Numbering.{numbered}
use Rattle.sc_steps.proofs.ListLaws.{both, at_number}

-- ---- the parts before and after the element

pub parts : {A : Type 0} (xs : List A) (i : ℕ) (x : A) → slice_get xs i ≡ Some x → xs ≡ take i xs ++ x ∷ drop (suc i) xs
parts [] i x e = cc
parts (y ∷ ys) zero x e = let same : y ≡ x = cc in ap (λ z. z ∷ ys) same
parts (y ∷ ys) (suc i) x e = ap (λ zs. y ∷ zs) (parts ys i x e)

pub set_parts : {A : Type 0} (xs : List A) (i : ℕ) (x : A) → i < length xs → set xs i x ≡ take i xs ++ x ∷ drop (suc i) xs
set_parts [] i x h = absurd (omega arith)
set_parts (y ∷ ys) zero x h = refl
set_parts (y ∷ ys) (suc i) x h = ap (λ zs. y ∷ zs) (set_parts ys i x (omega arith))

pub map_set : {A B : Type 0} (f : A → B) (xs : List A) (i : ℕ) (x : A) → map f (set xs i x) ≡ set (map f xs) i (f x)
map_set f [] i x = refl
map_set f (y ∷ ys) zero x = refl
map_set f (y ∷ ys) (suc i) x = ap (λ zs. f y ∷ zs) (map_set f ys i x)

pub map_numbered : {A B : Type 0} (f : A → B) (xs : List A) (n : ℕ) (x : A) → numbered xs n ≡ Some x → numbered (map f xs) n ≡ Some (f x)
map_numbered f xs n x e = by (n == 0) refl
  where
    by : (b : Bool) → (n == 0) ≡ b → numbered (map f xs) n ≡ Some (f x)
    by true z = let bad : None ≡ Some x = sym (ap (λ b. if b then None else slice_get xs (n - 1)) z) ∙ e in cc
    by false z = ap (λ b. if b then None else slice_get (map f xs) (n - 1)) z ∙ slice_get-map f xs (n - 1) ∙ ap (option_map f) (at_number xs n x e).1

-- a test that holds of all but for the changed element holds of that and of the list without it
pub all_changed : {A : Type 0} (p : A → Bool) (xs : List A) (i : ℕ) (x y : A) → slice_get xs i ≡ Some x → list_all p (set xs i y) ≡ true
    → (p y ≡ true) × (list_all p (remove xs i) ≡ true)
all_changed p [] i x y at e = cc
all_changed p (z ∷ zs) zero x y at e = both _ _ e
all_changed p (z ∷ zs) (suc i) x y at e =
    let h = both _ _ e in
    let t = all_changed p zs i x y at h.1 in
    (t.0, ap (λ b. b && list_all p (remove zs i)) h.0 ∙ t.1)

-- ---- when a list is another with a changed element

pub changed_by_parts : {A : Type 0} (xs ys : List A) (i : ℕ) (d : A) → i < length xs → length ys ≡ length xs → take i xs ≡ take i ys → drop (suc i) xs ≡ drop (suc i) ys
    → ys ≡ set xs i (get_or ys i d)
changed_by_parts xs [] i d h long front back = absurd (omega (arith, h, long))
changed_by_parts [] (y ∷ ys) i d h long front back = absurd (omega arith)
changed_by_parts (x ∷ xs) (y ∷ ys) zero d h long front back = ap (λ zs. y ∷ zs) (sym back)
changed_by_parts (x ∷ xs) (y ∷ ys) (suc i) d h long front back =
    let one : y ≡ x = cc in
    let others : take i xs ≡ take i ys = cc in
    let rest = changed_by_parts xs ys i d (omega arith) (omega (arith, long)) others back in
    (λ j. one j ∷ rest j)

pub parts_of_changed : {A : Type 0} (xs ys : List A) (i : ℕ) (x : A) → ys ≡ set xs i x → (take i xs ≡ take i ys) × (drop (suc i) xs ≡ drop (suc i) ys)
parts_of_changed xs ys i x e =
    (sym (take-set xs i x) ∙ sym (ap (take i) e), sym (drop-set-lt (suc i) xs i x (omega arith)) ∙ sym (ap (drop (suc i)) e))

-- a list with two changes of one element has one change
pub changed_once : {A : Type 0} (xs : List A) (i : ℕ) (x y : A) (us vs : List A) → i < length xs → set xs i x ++ us ≡ set xs i y ++ vs → (x ≡ y) × (us ≡ vs)
changed_once [] i x y us vs h e = absurd (omega arith)
changed_once (z ∷ zs) zero x y us vs h e =
    let back : zs ++ us ≡ zs ++ vs = cc in
    (cc, append_cancel_left zs us vs back)
changed_once (z ∷ zs) (suc i) x y us vs h e =
    let back : set zs i x ++ us ≡ set zs i y ++ vs = cc in
    changed_once zs i x y us vs (omega arith) back

pub set_once : {A : Type 0} (xs : List A) (i : ℕ) (x y : A) → i < length xs → set xs i x ≡ set xs i y → x ≡ y
set_once xs i x y h e = (changed_once xs i x y [] [] h (ap (λ zs. zs ++ []) e)).0

-- the back of a list, as a range of it
pub back_range : {A : Type 0} (xs : List A) (i : ℕ) → take (length xs - (i + 1)) (drop (i + 1) xs) ≡ drop (suc i) xs
back_range xs i = grind (arith, common_steps)

-- ---- when a list begins with another with a changed element

pub begins_changed : {A : Type 0} (all xs after behind rest : List A) (i : ℕ) (x : A) → i < length xs → all ≡ take i xs ++ after → after ≡ x ∷ behind
    → behind ≡ drop (suc i) xs ++ rest → all ≡ set xs i x ++ rest
begins_changed all xs after behind rest i x h front first back =
    front ∙ ap (λ zs. take i xs ++ zs) (first ∙ ap (λ zs. x ∷ zs) back) ∙ sym (append_assoc (take i xs) (x ∷ drop (suc i) xs) rest)
    ∙ ap (λ zs. zs ++ rest) (sym (set_parts xs i x h))

-- what stands behind the front of one that begins so
pub behind_front : {A : Type 0} (all xs rest : List A) (i : ℕ) (x : A) → i < length xs → all ≡ set xs i x ++ rest → all ≡ take i xs ++ (x ∷ drop (suc i) xs ++ rest)
behind_front all xs rest i x h e = e ∙ ap (λ zs. zs ++ rest) (set_parts xs i x h) ∙ append_assoc (take i xs) (x ∷ drop (suc i) xs) rest

pub no_front : {A : Type 0} (all xs : List A) (i : ℕ) → i < length xs → ((more : List A) → all ≢ take i xs ++ more) → (x : A) (rest : List A) → all ≢ set xs i x ++ rest
no_front all xs i h none x rest e = none (x ∷ drop (suc i) xs ++ rest) (behind_front all xs rest i x h e)

pub no_back : {A : Type 0} (all xs after behind : List A) (i : ℕ) (y : A) → i < length xs → all ≡ take i xs ++ after → after ≡ y ∷ behind
    → ((more : List A) → behind ≢ drop (suc i) xs ++ more) → (x : A) (rest : List A) → all ≢ set xs i x ++ rest
no_back all xs after behind i y h front first none x rest e =
    let is : after ≡ x ∷ drop (suc i) xs ++ rest = append_cancel_left (take i xs) after (x ∷ drop (suc i) xs ++ rest) (sym front ∙ behind_front all xs rest i x h e) in
    let both : y ∷ behind ≡ x ∷ (drop (suc i) xs ++ rest) = sym first ∙ is in
    none rest cc
