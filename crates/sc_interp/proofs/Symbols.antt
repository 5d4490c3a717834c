-- Symbols of a signature and their tables, `=` left out.
use Rattle.std.proofs.Common.{◌≡◌, ◌∙◌, sym, ap, ℕ, zero, suc, ◌+◌, ◌^◌, ◌≤◌, replicate, List, [], ◌∷◌, ◌++◌, map, take, drop, slice_get, Some, add-one, arith}
use Rattle.std.specs.List.{sum_by}
use Rattle.std.proofs.lemmas.List.{map-append}
use Rattle.std.proofs.lemmas.List.Sums.{sum_by-append}
use Rattle.std.proofs.Math.Nat.{pow-le-pow_left, pow-le-pow_right}
use Rattle.sc_term.specs.declared.symbol.Symbol.{Symbol}
use Rattle.sc_interp.specs.declared.table.Table.{Table}
use Rattle.sc_interp.specs.Structure.{entry_count, zero_table}

one_more : {X : Type 0} (xs : List X) (i : ℕ) (x : X) → slice_get xs i ≡ Some x → take (suc i) xs ≡ take i xs ++ x ∷ []
one_more [] i x e = cc
one_more (y ∷ ys) zero x e = let is : y ≡ x = cc in ap (λ z. z ∷ []) is
one_more (y ∷ ys) (suc i) x e = ap (λ l. y ∷ l) (one_more ys i x e)

pub one_behind : {X : Type 0} (xs : List X) (i : ℕ) (x : X) → 1 ≤ i → slice_get xs i ≡ Some x → drop 1 (take (i + 1) xs) ≡ drop 1 (take i xs) ++ x ∷ []
one_behind xs zero x h e = absurd (omega arith)
one_behind [] (suc i) x h e = cc
one_behind (y ∷ ys) (suc i) x h e = rw add-one (one_more ys i x e)

pub mapped_behind : {X Y : Type 0} (f : X → Y) (xs : List X) (i : ℕ) (x : X) → 1 ≤ i → slice_get xs i ≡ Some x
    → map f (drop 1 (take (i + 1) xs)) ≡ map f (drop 1 (take i xs)) ++ f x ∷ []
mapped_behind f xs i x h e = ap (map f) (one_behind xs i x h e) ∙ map-append f (drop 1 (take i xs)) (x ∷ [])

pub counted_behind : (size : ℕ) (xs : List Symbol) (i : ℕ) (s : Symbol) → 1 ≤ i → slice_get xs i ≡ Some s
    → entry_count (take (i + 1) xs) size ≡ entry_count (take i xs) size + size ^ s.arity
counted_behind size xs i s h e =
    let f = λ (x : Symbol). size ^ x.arity in
    let one : sum_by f (s ∷ []) ≡ size ^ s.arity = omega arith in
    ap (sum_by f) (one_behind xs i s h e) ∙ sum_by-append f (drop 1 (take i xs)) (s ∷ []) ∙ ap (λ n. sum_by f (drop 1 (take i xs)) + n) one

-- the power of a size to an arity
pub small_power : (size arity : ℕ) → size ≤ 8 → arity ≤ 8 → size ^ arity ≤ 16777216
small_power size arity s a =
    let base : size ^ arity ≤ 8 ^ arity = pow-le-pow_left s arity in
    let top : 8 ^ arity ≤ 8 ^ 8 = pow-le-pow_right {n = 8} (omega arith) a in
    omega (arith, base, top)

-- one more table whose entries are all 0
pub zeros_behind : (size : ℕ) (xs : List Symbol) (i : ℕ) (s : Symbol) (old new : List Table) (entries : List ℕ) → 1 ≤ i → slice_get xs i ≡ Some s
    → old ≡ map (zero_table size) (drop 1 (take i xs)) → entries ≡ replicate (size ^ s.arity) 0
    → new ≡ old ++ record { role = s.role; arity = s.arity; entries = entries } ∷ [] → new ≡ map (zero_table size) (drop 1 (take (i + 1) xs))
zeros_behind size xs i s old new entries h e before zeros is =
    is ∙ (λ j. before j ++ record { role = s.role; arity = s.arity; entries = zeros j } ∷ []) ∙ sym (mapped_behind (zero_table size) xs i s h e)
