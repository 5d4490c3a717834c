-- What holds of all the first tokens of a list.
use Rattle.std.proofs.Common.{◌≡◌, sym, subst, refl, List, [], ◌∷◌, ◌++◌}

-- two ways to split a list: the first part of one is within that of the other, or passes it
pub split_cases : {X : Type 0} (R : Type 0) (xs ys us more : List X) → xs ++ ys ≡ us ++ more → ((m : List X) → xs ≡ us ++ m → R) → ((v : List X) → us ≡ xs ++ v → ys ≡ v ++ more → R) → R
split_cases R [] ys us more e f g = g us refl e
split_cases R (x ∷ xs) ys [] more e f g = f (x ∷ xs) refl
split_cases R (x ∷ xs) ys (u ∷ us) more e f g =
    let first : x ≡ u = cc in
    let others : xs ++ ys ≡ us ++ more = cc in
    split_cases R xs ys us more others (λ m e. f m (λ i. first i ∷ e i)) (λ v e k. g v (λ i. sym first i ∷ e i) k)

abbrev pub Along : {X : Type 0} → (List X → Type 0) → List X → Type 0
Along {X} Q ts = (us more : List X) → ts ≡ us ++ more → Q us

pub along_join : {X : Type 0} (Q : List X → Type 0) (xs ys : List X) → Along Q xs → Along (λ us. Q (xs ++ us)) ys → Along Q (xs ++ ys)
along_join Q xs ys h k us more e = split_cases (Q us) xs ys us more e (λ m e. h us m e) (λ v e e'. subst Q (sym e) (k v more e'))

pub along_none : {X : Type 0} (Q : List X → Type 0) → Q [] → Along Q []
along_none Q h [] more e = h
along_none Q h (u ∷ us) more e = absurd cc

pub along_one : {X : Type 0} (Q : List X → Type 0) (t : X) → Q [] → Q (t ∷ []) → Along Q (t ∷ [])
along_one Q t h k [] more e = h
along_one Q t h k (u ∷ []) more e = let is : t ≡ u = cc in subst (λ t. Q (t ∷ [])) is k
along_one Q t h k (u ∷ v ∷ vs) more e = absurd cc

pub along_map : {X : Type 0} (P Q : List X → Type 0) (ts : List X) → ((us : List X) → P us → Q us) → Along P ts → Along Q ts
along_map P Q ts f h us more e = f us (h us more e)
