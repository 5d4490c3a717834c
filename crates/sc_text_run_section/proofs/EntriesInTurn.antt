-- Entries behind others.
use Rattle.std.proofs.Common.{◌≡◌, ap, sym, subst, ℕ, ◌+◌, ◌<◌, List, [], ◌∷◌, ◌++◌, All, length, length-append, arith}
use Rattle.std.proofs.lemmas.List.Elements.{All-push}

pub more_long : (front new : List ℕ) (e many : ℕ) → new ≡ front ++ e ∷ [] → length front ≡ many → length new ≡ many + 1
more_long front new e many push h =
    let grown : length new ≡ length (front ++ e ∷ []) = ap (λ (es : List ℕ). length es) push in
    omega (arith, grown, length-append front (e ∷ []), h)

pub more_below : (front new : List ℕ) (e high : ℕ) → new ≡ front ++ e ∷ [] → All (λ k. k < high) front → e < high → All (λ k. k < high) new
more_below front new e high push h lt = subst (λ (es : List ℕ). All (λ k. k < high) es) (sym push) (All-push (λ k. k < high) front e h lt)
