-- What holds at each token of a list, from those before it.
use Rattle.std.proofs.Common.{◌≡◌, ◌∙◌, sym, ap, subst, refl, List, [], ◌∷◌, ◌++◌, append_assoc, Option, Some, None}
use Rattle.std.proofs.lemmas.List.{append-nil}
use Rattle.sc_input_rules.specs.declared.fault.Place.{Place}
use Rattle.sc_input_rules.specs.declared.token.Token.{Token}
use Rattle.sc_input_rules.specs.Faults.{passed_behind}

-- P holds of each token and of those before it, of which the first ones are given
abbrev pub Walk : (List Token → Token → Type 0) → List Token → List Token → Type 0
Walk P front [] = Unit {0}
Walk P front (t ∷ ts) = P front t × Walk P (front ++ t ∷ []) ts

pub walk_join : (P : List Token → Token → Type 0) (front xs ys : List Token) → Walk P front xs → Walk P (front ++ xs) ys → Walk P front (xs ++ ys)
walk_join P front [] ys h k = subst (λ (us : List Token). Walk P us ys) (append-nil front) k
walk_join P front (x ∷ xs) ys h k =
    (h.0, walk_join P (front ++ x ∷ []) xs ys h.1 (subst (λ (us : List Token). Walk P us ys) (sym (append_assoc front (x ∷ []) xs)) k))

pub walk_map : (P Q : List Token → Token → Type 0) (front ts : List Token) → ((us : List Token) (t : Token) → P us t → Q us t) → Walk P front ts → Walk Q front ts
walk_map P Q front [] f h = tt
walk_map P Q front (t ∷ ts) f h = (f front t h.0, walk_map P Q (front ++ t ∷ []) ts f h.1)

pub walk_both : (P Q : List Token → Token → Type 0) (front ts : List Token) → Walk P front ts → Walk Q front ts → Walk (λ us t. P us t × Q us t) front ts
walk_both P Q front [] h k = tt
walk_both P Q front (t ∷ ts) h k = ((h.0, k.0), walk_both P Q (front ++ t ∷ []) ts h.1 k.1)

-- the tokens before are others
pub walk_move : (P Q : List Token → Token → Type 0) (base front ts : List Token) → ((us : List Token) (t : Token) → P us t → Q (base ++ us) t) → Walk P front ts → Walk Q (base ++ front) ts
walk_move P Q base front [] f h = tt
walk_move P Q base front (t ∷ ts) f h =
    (f front t h.0, subst (λ (us : List Token). Walk Q us ts) (sym (append_assoc base front (t ∷ []))) (walk_move P Q base (front ++ t ∷ []) ts f h.1))

-- what holds wherever the tokens are split
pub walk_splits : (P : List Token → Token → Type 0) (front ts : List Token) → ((us : List Token) (t : Token) (more : List Token) → ts ≡ us ++ t ∷ more → P (front ++ us) t) → Walk P front ts
walk_splits P front [] h = tt
walk_splits P front (t ∷ ts) h = (
  subst (λ (us : List Token). P us t) (append-nil front) (h [] t ts refl),
  walk_splits P (front ++ t ∷ []) ts (λ us u more e. subst (λ (us : List Token). P us u) (sym (append_assoc front (t ∷ []) us)) (h (t ∷ us) u more (ap (λ us. t ∷ us) e))),
)

-- no limit is passed where none is at any token
pub walk_unpassed : (fault_at : List Token → Option Place) (front ts : List Token) → Walk (λ us t. fault_at (us ++ t ∷ []) ≡ None) front ts → passed_behind fault_at front ts ≡ None
walk_unpassed fault_at front [] h = refl
walk_unpassed fault_at front (t ∷ ts) h =
    ap (λ (o : Option Place). elim o [ Some p ↦ Some p | None ↦ passed_behind fault_at (front ++ t ∷ []) ts ]) h.0 ∙ walk_unpassed fault_at (front ++ t ∷ []) ts h.1

-- what holds at one token
pub walk_at : (P : List Token → Token → Type 0) (front ts : List Token) → Walk P front ts → (us : List Token) (t : Token) (more : List Token) → ts ≡ us ++ t ∷ more → P (front ++ us) t
walk_at P front [] h [] t more e = absurd cc
walk_at P front [] h (u ∷ us) t more e = absurd cc
walk_at P front (x ∷ xs) h [] t more e =
    let is : x ≡ t = cc in
    subst (λ (us : List Token). P us t) (sym (append-nil front)) (subst (P front) is h.0)
walk_at P front (x ∷ xs) h (u ∷ us) t more e =
    let first : x ≡ u = cc in
    let others : xs ≡ us ++ t ∷ more = cc in
    subst (λ (u : Token). P (front ++ u ∷ us) t) first (subst (λ (us : List Token). P us t) (append_assoc front (x ∷ []) us) (walk_at P (front ++ x ∷ []) xs h.1 us t more others))
