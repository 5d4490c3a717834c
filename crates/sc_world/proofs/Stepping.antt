-- Loops that change the elements of a list one after another.
use Rattle.std.proofs.Common.{◌≡◌, ◌≢◌, ◌<◌, ◌==◌, ℕ, List, [], ◌∷◌, ap, sym, ◌∙◌, refl, subst, length, ◌+◌, arith, get_or, set, true, false, suc, zero}
use Rattle.std.specs.List.{AllZip}
use Rattle.std.proofs.lemmas.List.{get_or-set_same, get_or-set_other}
use Rattle.std.proofs.lemmas.Grind.{common_steps}
use Rattle.sc_world.specs.Abreast.{Upto}
use Rattle.sc_world.specs.Acting.{UptoBoth}

pub upto_start : {A : Type 0} (R : A → A → Type 0) (xs : List A) → Upto R xs xs 0
upto_start R xs = record { done = λ k d l. absurd (omega (arith, l)); rest = λ k d l. refl }

pub at_default : {A : Type 0} (xs : List A) (i : ℕ) (d e : A) → i < length xs → get_or xs i d ≡ get_or xs i e
at_default xs i d e low = grind (arith, common_steps, low)

pub upto_more : {A : Type 0} (R : A → A → Type 0) (xs ys : List A) (i : ℕ) (x y : A) → Upto R xs ys i → i < length ys → x ≡ get_or ys i x → R x y → Upto R xs (set ys i y) (i + 1)
upto_more R xs ys i x y up low at is = record {
  done = λ k d l. elim (k == i) as (λ b. (k == i) ≡ b → R (get_or xs k d) (get_or (set ys i y) k d)) [
    | true ↦ (λ e. let same : k ≡ i = grind (arith, e) in
        let was : x ≡ get_or xs k d = at ∙ at_default ys i x d low ∙ ap (λ j. get_or ys j d) (sym same) ∙ up.rest k d (omega (arith, same)) in
        let now : y ≡ get_or (set ys i y) k d = sym (get_or-set_same ys i y d low) ∙ ap (λ j. get_or (set ys i y) j d) (sym same) in
        subst (λ w. R w (get_or (set ys i y) k d)) was (subst (λ w. R x w) now is))
    | false ↦ (λ e. let other : k ≢ i = grind (arith, e) in
        subst (λ w. R (get_or xs k d) w) (sym (get_or-set_other ys i k y d other)) (up.done k d (omega (arith, l, other))))
  ] refl;
  rest = λ k d l. let other : k ≢ i = omega (arith, l) in get_or-set_other ys i k y d other ∙ up.rest k d (omega (arith, l));
}

pub zip_from : {A B : Type 0} (R : A → B → Type 0) (xs : List A) (ys : List B) → length ys ≡ length xs → ((k : ℕ) (d : A) (e : B) → k < length xs → R (get_or xs k d) (get_or ys k e)) → AllZip R xs ys
zip_from R [] [] same each = tt
zip_from R [] (y ∷ ys) same each = absurd (omega (arith, same))
zip_from R (x ∷ xs) [] same each = absurd (omega (arith, same))
zip_from R (x ∷ xs) (y ∷ ys) same each = (each 0 x y (omega arith), zip_from R xs ys (omega (arith, same)) (λ k d e low. each (suc k) d e (omega (arith, low))))

pub zip_at : {A B : Type 0} (R : A → B → Type 0) (xs : List A) (ys : List B) → AllZip R xs ys → (k : ℕ) (d : A) (e : B) → k < length xs → R (get_or xs k d) (get_or ys k e)
zip_at R [] ys z k d e low = absurd (omega (arith, low))
zip_at R (x ∷ xs) [] z k d e low = absurd z
zip_at R (x ∷ xs) (y ∷ ys) z zero d e low = z.0
zip_at R (x ∷ xs) (y ∷ ys) z (suc k) d e low = zip_at R xs ys z.1 k d e (omega (arith, low))

pub upto_end : {A : Type 0} (R : A → A → Type 0) (xs ys : List A) (i : ℕ) → length ys ≡ length xs → i ≡ length xs → Upto R xs ys i → AllZip R xs ys
upto_end R xs ys i same end up = zip_from R xs ys same (λ k d e low. subst (λ w. R (get_or xs k d) w) (at_default ys k d e (omega (arith, same, low))) (up.done k d (omega (arith, end, low))))

pub zip_each : {A : Type 0} (R : A → A → Type 0) (xs ys : List A) → length ys ≡ length xs → ((k : ℕ) (d : A) → k < length xs → R (get_or xs k d) (get_or ys k d)) → AllZip R xs ys
zip_each R xs ys same each = zip_from R xs ys same (λ k d e low. subst (λ w. R (get_or xs k d) w) (at_default ys k d e (omega (arith, same, low))) (each k d low))

-- ---- pairs

pub both_start : {A B : Type 0} (R : A → B → A → B → Type 0) (xs : List A) (ys : List B) → UptoBoth R xs ys xs ys 0
both_start R xs ys = record { done = λ k d e l. absurd (omega (arith, l)); firsts = λ k d l. refl; seconds = λ k e l. refl }

-- what was read at i before the loop
was_at : {A : Type 0} (xs ys : List A) (i : ℕ) (x : A) → i < length ys → x ≡ get_or ys i x → ((d : A) → get_or ys i d ≡ get_or xs i d) → (d : A) → x ≡ get_or xs i d
was_at xs ys i x low at rest d = at ∙ at_default ys i x d low ∙ rest d

pub both_more : {A B : Type 0} (R : A → B → A → B → Type 0) (xs : List A) (ys : List B) (xs' : List A) (ys' : List B) (i : ℕ) (x x' : A) (y y' : B)
    → UptoBoth R xs ys xs' ys' i → i < length xs' → i < length ys' → x ≡ get_or xs' i x → y ≡ get_or ys' i y → R (get_or xs' i x) (get_or ys' i y) x' y' → UptoBoth R xs ys (set xs' i x') (set ys' i y') (i + 1)
both_more R xs ys xs' ys' i x x' y y' up low low2 at at2 read = let is : R x y x' y' = subst (λ w. R w y x' y') (sym at) (subst (λ w. R (get_or xs' i x) w x' y') (sym at2) read) in record {
  done = λ k d e l. elim (k == i) as (λ b. (k == i) ≡ b → R (get_or xs k d) (get_or ys k e) (get_or (set xs' i x') k d) (get_or (set ys' i y') k e)) [
    | true ↦ (λ q. let same : i ≡ k = grind (arith, q) in
        let a : x ≡ get_or xs i d = was_at xs xs' i x low at (λ d. up.firsts i d (omega arith)) d in
        let b : y ≡ get_or ys i e = was_at ys ys' i y low2 at2 (λ e. up.seconds i e (omega arith)) e in
        subst (λ j. R (get_or xs j d) (get_or ys j e) (get_or (set xs' i x') j d) (get_or (set ys' i y') j e)) same
        (subst (λ w. R (get_or xs i d) (get_or ys i e) w (get_or (set ys' i y') i e)) (sym (get_or-set_same xs' i x' d low))
        (subst (λ w. R (get_or xs i d) (get_or ys i e) x' w) (sym (get_or-set_same ys' i y' e low2))
        (subst (λ w. R w (get_or ys i e) x' y') a (subst (λ w. R x w x' y') b is)))))
    | false ↦ (λ q. let other : k ≢ i = grind (arith, q) in
        subst (λ w. R (get_or xs k d) (get_or ys k e) w (get_or (set ys' i y') k e)) (sym (get_or-set_other xs' i k x' d other))
        (subst (λ w. R (get_or xs k d) (get_or ys k e) (get_or xs' k d) w) (sym (get_or-set_other ys' i k y' e other)) (up.done k d e (omega (arith, l, other)))))
  ] refl;
  firsts = λ k d l. let other : k ≢ i = omega (arith, l) in get_or-set_other xs' i k x' d other ∙ up.firsts k d (omega (arith, l));
  seconds = λ k e l. let other : k ≢ i = omega (arith, l) in get_or-set_other ys' i k y' e other ∙ up.seconds k e (omega (arith, l));
}
