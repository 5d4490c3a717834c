-- Places of lists of elements: each below the power, and no two lists at one place.
use Rattle.std.proofs.Common.{◌≡◌, ◌∙◌, sym, ap, subst, refl, ℕ, zero, suc, ◌+◌, ◌*◌, ◌/◌, ◌%◌, ◌^◌, ◌<◌, ◌≤◌, List, [], ◌∷◌, ◌++◌, length, fold, arith}
use Rattle.std.specs.List.{All, AllByRecursion}
use Rattle.std.proofs.lemmas.List.Elements.{recursion_from_All}
use Rattle.std.proofs.lemmas.List.Sums.{fold_push}
use Rattle.std.proofs.lemmas.Nat.{same_from_place, div-mul-add, mod-mul-add}
use Rattle.std.proofs.Math.Nat.{pow-zero, pow-suc, mul_comm}
use Rattle.sc_interp.specs.Structure.{place_of}

abbrev step : ℕ → ℕ → ℕ → ℕ
step size at_place v = size * at_place + v

abbrev Below : ℕ → List ℕ → Type 0
Below size ds = AllByRecursion (λ d. d < size) ds

pub place_push : (size : ℕ) (ds : List ℕ) (d : ℕ) → place_of size (ds ++ d ∷ []) ≡ size * place_of size ds + d
place_push size ds d = fold_push (step size) 0 ds d

same_step : (size a b d e : ℕ) → d < size → e < size → size * a + d ≡ size * b + e → (a ≡ b) × (d ≡ e)
same_step size a b d e h k is =
    same_from_place a d b e size h k (ap (λ n. n + d) (mul_comm a size) ∙ is ∙ ap (λ n. n + e) (mul_comm size b))

same_from : (size a b : ℕ) (ds es : List ℕ) → Below size ds → Below size es → length ds ≡ length es
    → fold (step size) a ds ≡ fold (step size) b es → (a ≡ b) × (ds ≡ es)
same_from size a b [] [] h k long is = (is, refl)
same_from size a b [] (e ∷ es) h k long is = absurd (omega arith)
same_from size a b (d ∷ ds) [] h k long is = absurd (omega arith)
same_from size a b (d ∷ ds) (e ∷ es) h k long is =
    let rest = same_from size (size * a + d) (size * b + e) ds es h.1 k.1 (omega arith) is in
    let first = same_step size a b d e h.0 k.0 rest.0 in
    (first.0, λ i. first.1 i ∷ rest.1 i)

-- two lists of elements at one place are the same
pub same_place : (size : ℕ) (ds es : List ℕ) → All (λ d. d < size) ds → All (λ d. d < size) es → length ds ≡ length es
    → place_of size ds ≡ place_of size es → ds ≡ es
same_place size ds es h k long is =
    (same_from size 0 0 ds es (recursion_from_All (λ d. d < size) ds h) (recursion_from_All (λ d. d < size) es k) long is).1

one_more : (size a d p : ℕ) → d < size → p * (size * a + d + 1) ≤ p * size * (a + 1)
one_more size a d p h = grind arith

below_from : (size a : ℕ) (ds : List ℕ) → Below size ds → fold (step size) a ds < size ^ length ds * (a + 1)
below_from size a [] h = let e : size ^ zero ≡ 1 = pow-zero size in subst (λ n. a < n * (a + 1)) (sym e) (omega arith)
below_from size a (d ∷ ds) h =
    let rest = below_from size (size * a + d) ds h.1 in
    let more = one_more size a d (size ^ length ds) h.0 in
    let power : size ^ suc (length ds) ≡ size ^ length ds * size = pow-suc size (length ds) in
    subst (λ n. fold (step size) (size * a + d) ds < n * (a + 1)) (sym power) (omega (arith, rest, more))

-- the place of elements is within the table
pub place_below : (size : ℕ) (ds : List ℕ) → All (λ d. d < size) ds → place_of size ds < size ^ length ds
place_below size ds h = let small = below_from size 0 ds (recursion_from_All (λ d. d < size) ds h) in omega (arith, small)

-- the last digit, and the place of the others
pub digit_off : (size : ℕ) (ds : List ℕ) (d : ℕ) → d < size → (place_of size (ds ++ d ∷ []) % size ≡ d) × (place_of size (ds ++ d ∷ []) / size ≡ place_of size ds)
digit_off size ds d h =
    let is : place_of size (ds ++ d ∷ []) ≡ place_of size ds * size + d = place_push size ds d ∙ ap (λ n. n + d) (mul_comm size (place_of size ds)) in
    (ap (λ n. n % size) is ∙ mod-mul-add (place_of size ds) size d h, ap (λ n. n / size) is ∙ div-mul-add (place_of size ds) size d h)
