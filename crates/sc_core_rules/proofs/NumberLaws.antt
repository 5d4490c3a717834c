-- Elements of a list by their number.
use Rattle.std.proofs.Common.{◌≡◌, ◌∙◌, ap, refl, ℕ, suc, ◌-◌, ◌==◌, Bool, true, false, if◌then◌else◌, List, None, slice_get, arith}
use Rattle.std.proofs.lemmas.Bool.{eqb-true}
use Rattle.sc_term.specs.Numbering.{numbered}

pub numbered-suc : {X : Type 0} (xs : List X) (n : ℕ) → numbered xs (suc n) ≡ slice_get xs n
numbered-suc {X} xs n = by (suc n == 0) refl
  where
    by : (b : Bool) → (suc n == 0) ≡ b → numbered xs (suc n) ≡ slice_get xs n
    by true e = absurd (let z = eqb-true (suc n) 0 e in omega (arith, z))
    by false e = let same : suc n - 1 ≡ n = omega arith in ap (λ b. if b then None else slice_get xs (suc n - 1)) e ∙ ap (slice_get xs) same
