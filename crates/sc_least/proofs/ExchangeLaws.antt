-- Two elements exchanged.
use Rattle.std.proofs.Common.{◌≡◌, ◌≢◌, ◌∙◌, sym, ap, refl, ℕ, ◌<◌, Bool, true, false, if◌then◌else◌, nat_eq, List, [], ◌∷◌, map, arith}
use Rattle.std.specs.List.{AllByRecursion}
use Rattle.std.proofs.lemmas.Bool.{eqb-true, eqb-false, eq-eqb}

-- the one in place of the other, and each other element itself
abbrev pub exchanged : ℕ → ℕ → ℕ → ℕ
exchanged a b n = if nat_eq n a then b else (if nat_eq n b then a else n)

pub exchange_first : (a b : ℕ) → exchanged a b a ≡ b
exchange_first a b = ap (λ r. if r then b else (if nat_eq a b then a else a)) (eq-eqb a a refl)

pub differs : (a b : ℕ) → a ≢ b → nat_eq a b ≡ false
differs a b ne = by (nat_eq a b) refl
  where
    by : (r : Bool) → nat_eq a b ≡ r → nat_eq a b ≡ false
    by true e = absurd (ne (eqb-true a b e))
    by false e = e

pub exchange_other : (a b n : ℕ) → n ≢ a → n ≢ b → exchanged a b n ≡ n
exchange_other a b n one two =
    ap (λ r. if r then b else (if nat_eq n b then a else n)) (differs n a one) ∙ ap (λ r. if r then a else n) (differs n b two)

exchange_second : (a b : ℕ) → exchanged a b b ≡ a
exchange_second a b = by (nat_eq b a) refl
  where
    by : (r : Bool) → nat_eq b a ≡ r → exchanged a b b ≡ a
    by true e = ap (λ r. if r then b else (if nat_eq b b then a else b)) e ∙ eqb-true b a e
    by false e = ap (λ r. if r then b else (if nat_eq b b then a else b)) e ∙ ap (λ r. if r then a else b) (eq-eqb b b refl)

pub exchange_twice : (a b n : ℕ) → exchanged a b (exchanged a b n) ≡ n
exchange_twice a b n = by (nat_eq n a) (nat_eq n b) refl refl
  where
    by : (r s : Bool) → nat_eq n a ≡ r → nat_eq n b ≡ s → exchanged a b (exchanged a b n) ≡ n
    by true s e k =
        let is = eqb-true n a e in
        ap (λ m. exchanged a b (exchanged a b m)) is ∙ ap (exchanged a b) (exchange_first a b) ∙ exchange_second a b ∙ sym is
    by false true e k =
        let is = eqb-true n b k in
        ap (λ m. exchanged a b (exchanged a b m)) is ∙ ap (exchanged a b) (exchange_second a b) ∙ exchange_first a b ∙ sym is
    by false false e k =
        let same = exchange_other a b n (eqb-false n a e) (eqb-false n b k) in
        ap (exchanged a b) same ∙ same

pub exchange_below : (a b n size : ℕ) → a < size → b < size → n < size → exchanged a b n < size
exchange_below a b n size one two three = by (nat_eq n a) (nat_eq n b)
  where
    by : (r s : Bool) → (if r then b else (if s then a else n)) < size
    by true s = two
    by false true = one
    by false false = three

-- elements that are less than both stay
pub exchange_less : (a b n : ℕ) → n < a → n < b → exchanged a b n ≡ n
exchange_less a b n one two = exchange_other a b n (λ e. omega (arith, one, e)) (λ e. omega (arith, two, e))

pub exchange_all_less : (a b : ℕ) (ns : List ℕ) → AllByRecursion (λ n. (n < a) × (n < b)) ns → map (exchanged a b) ns ≡ ns
exchange_all_less a b [] h = refl
exchange_all_less a b (n ∷ ns) h = let one = exchange_less a b n h.0.0 h.0.1 in let rest = exchange_all_less a b ns h.1 in (λ i. one i ∷ rest i)
