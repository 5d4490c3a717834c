-- The candidates that are left, and how many versions are published.
use Rattle.std.proofs.Common.{◌≡◌, ap, ℕ, zero, suc, ◌<◌, ◌≤◌, List, [], ◌∷◌, ◌++◌, length, take, drop, Option, Some, None, arith}
use Rattle.sc_interp.specs.Versions.{ClaimedStructure}
use Rattle.sc_worker.specs.FinderList.{versions_of}

-- ---- the first of a list, and the next one

pub next_is : {X : Type 0} (n : ℕ) (xs : List X) (x : X) (rest : List X) → drop n xs ≡ x ∷ rest → (take (suc n) xs ≡ take n xs ++ x ∷ []) × (drop (suc n) xs ≡ rest) × (n < length xs)
next_is zero [] x rest e = absurd (cc)
next_is {X} (suc n) [] x rest e = absurd (cc)
next_is {X} zero (y ∷ ys) x rest e =
    let first : y ≡ x = cc in
    let others : ys ≡ rest = cc in
    (ap (λ (z : X). z ∷ []) first, others, omega arith)
next_is {X} (suc n) (y ∷ ys) x rest e =
    let h = next_is n ys x rest e in
    let within : n < length ys = h.2 in
    (ap (λ (zs : List X). y ∷ zs) h.0, h.1, omega (arith, within))

pub none_left : {X : Type 0} (n : ℕ) (xs : List X) → drop n xs ≡ [] → length xs ≤ n
none_left n [] e = omega arith
none_left zero (x ∷ xs) e = absurd (cc)
none_left (suc n) (x ∷ xs) e = let rest : length xs ≤ n = none_left n xs e in omega (arith, rest)

-- no more versions than answers
pub few_versions : (answers : List (Option ClaimedStructure)) → length (versions_of answers) ≤ length answers
few_versions [] = omega arith
few_versions (None ∷ answers) = let rest : length (versions_of answers) ≤ length answers = few_versions answers in omega (arith, rest)
few_versions (Some v ∷ answers) = let rest : length (versions_of answers) ≤ length answers = few_versions answers in omega (arith, rest)
