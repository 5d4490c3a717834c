-- What stands in the list of several things once, where each stands first.
use Rattle.std.proofs.Common.{◌≡◌, ◌∙◌, ap, refl, Bool, true, false, List, [], ◌∷◌}
use Rattle.std.specs.Prelude.{◌||◌, if◌then◌else◌}
use Rattle.std.specs.List.{AllByRecursion, IsDistinct, list_any}
use Rattle.sc_input_rules.specs.Numbering.{once}
use Rattle.sc_input_rules.proofs.Booleans.{neither}

module _ {X : Type 0} (same : X → X → Bool) where
  -- the answer of `once` for one more element
  abbrev with_one : Bool → X → List X → List X → List X
  with_one b x before xs = if b then once same before xs else x ∷ once same (x ∷ before) xs

  -- ---- what holds of all holds of these

  pub once-all : (P : X → Type 0) (before xs : List X) → AllByRecursion P xs → AllByRecursion P (once same before xs)
  once-all P before [] h = tt
  once-all P before (x ∷ xs) h = by (list_any (same x) before) (once-all P before xs h.1) (once-all P (x ∷ before) xs h.1)
    where
      by : (b : Bool) → AllByRecursion P (once same before xs) → AllByRecursion P (once same (x ∷ before) xs) → AllByRecursion P (with_one b x before xs)
      by true k m = k
      by false k m = (h.0, m)

  -- ---- each is there

  right : (b : Bool) → (b || true) ≡ true
  right true = refl
  right false = refl

  abbrev There : List X → List X → X → Type 0
  There before found x = (list_any (same x) before || list_any (same x) found) ≡ true

  moved : (a b c : Bool) → ((a || b) || c) ≡ true → (b || (a || c)) ≡ true
  moved true true c e = refl
  moved true false c e = refl
  moved false true c e = refl
  moved false false c e = e

  all_moved : (y : X) (before found xs : List X) → AllByRecursion (There (y ∷ before) found) xs → AllByRecursion (There before (y ∷ found)) xs
  all_moved y before found [] h = tt
  all_moved y before found (x ∷ xs) h = (moved (same x y) (list_any (same x) before) (list_any (same x) found) h.0, all_moved y before found xs h.1)

  module _ (itself : (x : X) → same x x ≡ true) where
    pub once-there : (before xs : List X) → AllByRecursion (λ x. (list_any (same x) before || list_any (same x) (once same before xs)) ≡ true) xs
    once-there before [] = tt
    once-there before (x ∷ xs) = by (list_any (same x) before) refl (once-there before xs) (once-there (x ∷ before) xs)
      where
        by : (b : Bool) → list_any (same x) before ≡ b → AllByRecursion (There before (once same before xs)) xs → AllByRecursion (There (x ∷ before) (once same (x ∷ before) xs)) xs
            → AllByRecursion (There before (with_one b x before xs)) (x ∷ xs)
        by true e k m = (ap (λ (b : Bool). b || list_any (same x) (once same before xs)) e, k)
        by false e k m =
            let found = once same (x ∷ before) xs in (
              ap (λ (b : Bool). list_any (same x) before || (b || list_any (same x) found)) (itself x) ∙ right (list_any (same x) before),
              all_moved x before found xs m,
            )

    pub once-holds : (xs : List X) → AllByRecursion (λ x. list_any (same x) (once same [] xs) ≡ true) xs
    once-holds xs = once-there [] xs

  -- ---- no two are the same

  module _ (turned : (x y : X) → same x y ≡ same y x) where
    abbrev IsNew : List X → X → Type 0
    IsNew before x = list_any (same x) before ≡ false

    apart : (y : X) (before xs : List X) → AllByRecursion (IsNew (y ∷ before)) xs → AllByRecursion (λ x. same y x ≡ false) xs × AllByRecursion (IsNew before) xs
    apart y before [] h = (tt, tt)
    apart y before (x ∷ xs) h =
        let n = neither (same x y) (list_any (same x) before) h.0 in
        let rest = apart y before xs h.1 in
        ((turned y x ∙ n.0, rest.0), (n.1, rest.1))

    once-new : (before xs : List X) → IsDistinct same (once same before xs) × AllByRecursion (IsNew before) (once same before xs)
    unfolding IsDistinct
    once-new before [] = (tt, tt)
    once-new before (x ∷ xs) = by (list_any (same x) before) refl (once-new before xs) (once-new (x ∷ before) xs)
      where
        by : (b : Bool) → list_any (same x) before ≡ b → IsDistinct same (once same before xs) × AllByRecursion (IsNew before) (once same before xs)
            → IsDistinct same (once same (x ∷ before) xs) × AllByRecursion (IsNew (x ∷ before)) (once same (x ∷ before) xs)
            → IsDistinct same (with_one b x before xs) × AllByRecursion (IsNew before) (with_one b x before xs)
        by true e k m = k
        by false e k m = let a = apart x before (once same (x ∷ before) xs) m.1 in ((a.0, m.0), (e, a.1))

    pub once-distinct : (xs : List X) → IsDistinct same (once same [] xs)
    once-distinct xs = (once-new [] xs).0
