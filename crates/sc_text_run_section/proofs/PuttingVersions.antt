-- One element behind those of a list in a list, each seen by a function.
use Rattle.std.proofs.Common.{◌≡◌, ◌∙◌, ap, ℕ, zero, suc, ◌<◌, List, [], ◌∷◌, ◌++◌, length, map, get_or, slice_set, arith}
use Rattle.std.proofs.lemmas.List.{map-set, map_push}

module _ {A B : Type 0} (f : A → B) where
  seen_at : (ls : List (List A)) (at : ℕ) (l : List A) → at < length ls → l ≡ get_or ls at l → map f l ≡ get_or (map (map f) ls) at []
  seen_at [] at l lt e = absurd (omega (arith, lt))
  seen_at (x ∷ ls) zero l lt e = ap (map f) e
  seen_at (x ∷ ls) (suc at) l lt e = seen_at ls at l (omega (arith, lt)) e

  pub put_seen : (ls : List (List A)) (at : ℕ) (l new : List A) (v : A) → at < length ls → l ≡ get_or ls at l → new ≡ l ++ v ∷ []
      → map (map f) (slice_set ls at new) ≡ slice_set (map (map f) ls) at (get_or (map (map f) ls) at [] ++ f v ∷ [])
  put_seen ls at l new v lt e push =
      map-set (map f) ls at new
      ∙ ap (λ (x : List B). slice_set (map (map f) ls) at x) (ap (map f) push ∙ map_push f l v ∙ ap (λ (x : List B). x ++ f v ∷ []) (seen_at ls at l lt e))
