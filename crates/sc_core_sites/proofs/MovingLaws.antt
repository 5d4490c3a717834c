-- Lists of which each item stands for that of another list at its place.
use Rattle.std.proofs.Common.{◌≡◌, ◌∙◌, sym, ap, subst, refl, List, [], ◌∷◌, ◌++◌, map, reverse, append_assoc, ℕ, ◌-◌, length}
use Rattle.std.specs.List.{AllZip}
use Rattle.std.proofs.lemmas.List.{reverse-append, map-append, length-map}
use Rattle.sc_core_rules.specs.Sites.{Site}
use Rattle.sc_core_sites.specs.declared.site.Site.{Site as Told}
use Rattle.sc_core_sites.specs.Sites.{site_of}

zip_push : {A B : Type 0} (R : A → B → Type 0) (xs : List A) (ys : List B) (x : A) (y : B) → AllZip R xs ys → R x y → AllZip R (xs ++ x ∷ []) (ys ++ y ∷ [])
zip_push R [] [] x y h r = (r, tt)
zip_push R [] (b ∷ ys) x y h r = absurd h
zip_push R (a ∷ xs) [] x y h r = absurd h
zip_push R (a ∷ xs) (b ∷ ys) x y h r = (h.0, zip_push R xs ys x y h.1 r)

-- what is taken from the end of the one list goes to the end of the other, whose order is the other way round
module _ {A B : Type 0} (R : A → B → Type 0) (found : List A) where
  abbrev pub Turns : List A → List B → Type 0
  Turns rest turned = (ys : List B) → AllZip R rest ys → AllZip R found (ys ++ reverse turned)

  pub turns_one : (before rest : List A) (turned after : List B) (a : A) (b : B) → before ≡ rest ++ a ∷ [] → after ≡ turned ++ b ∷ [] → R a b
      → Turns before turned → Turns rest after
  turns_one before rest turned after a b e f r h ys k =
      let whole : AllZip R found ((ys ++ b ∷ []) ++ reverse turned) =
      h (ys ++ b ∷ []) (subst (λ l. AllZip R l (ys ++ b ∷ [])) (sym e) (zip_push R rest ys a b k r)) in
      let turn : reverse after ≡ b ∷ reverse turned = ap (λ (l : List B). reverse l) f ∙ reverse-append turned (b ∷ []) in
      subst (AllZip R found) (append_assoc ys (b ∷ []) (reverse turned) ∙ ap (λ (l : List B). ys ++ l) (sym turn)) whole

  pub turns_all : (turned : List B) → Turns [] turned → AllZip R found (reverse turned)
  turns_all turned h = h [] tt

-- where each item means the same as that of the other list, the lists do
zip_means : {A B C : Type 0} (R : A → B → Type 0) (v : A → C) (w : B → C) (xs : List A) (ys : List B) → ((x : A) (y : B) → R x y → w y ≡ v x) → AllZip R xs ys → map w ys ≡ map v xs
zip_means R v w [] [] to h = refl
zip_means R v w [] (b ∷ ys) to h = absurd h
zip_means R v w (a ∷ xs) [] to h = absurd h
zip_means R v w (a ∷ xs) (b ∷ ys) to h = let rest = zip_means R v w xs ys to h.1 in λ i. to a b h.0 i ∷ rest i

-- what is told of the sites that were found comes behind the others
pub told_behind : {A : Type 0} (R : A → Told → Type 0) (K : A → Site) (before after more : List Told) (found : List A) → ((s : A) (x : Told) → R s x → site_of x ≡ K s)
    → AllZip R found more → after ≡ before ++ more → map site_of after ≡ map site_of before ++ map K found
told_behind R K before after more found means zip e =
    ap (λ (l : List Told). map site_of l) e ∙ map-append site_of before more ∙ ap (λ (l : List Site). map site_of before ++ l) (zip_means R K site_of found more means zip)

pub room_so : (limit : ℕ) (sites : List Told) → limit - length sites ≡ limit - length (map site_of sites)
room_so limit sites = ap (λ n. limit - n) (sym (length-map sites site_of))
