-- Counts of cells and of instances.
use Rattle.std.proofs.Common.{◌≡◌, ◌∙◌, ap, ℕ, zero, suc, ◌+◌, ◌^◌, ◌≤◌, List, [], ◌∷◌, ◌++◌, length, take, drop, slice_get, Some, add-one, arith}
use Rattle.std.specs.List.{sum_by}
use Rattle.std.proofs.lemmas.List.Sums.{sum_by-append, sum_by-cons}
use Rattle.std.proofs.Math.Nat.{pow-le-pow_left, pow-le-pow_right, one-le-pow}
use Rattle.sc_term.specs.declared.Clause.{Clause}
use Rattle.sc_term.specs.Clause.{width}
use Rattle.sc_term.specs.declared.symbol.Symbol.{Symbol}
use Rattle.sc_cells.specs.Cells.{cell_count}
use Rattle.sc_cells.specs.Ground.{instance_count}

one_more : {X : Type 0} (xs : List X) (i : ℕ) (x : X) → slice_get xs i ≡ Some x → take (suc i) xs ≡ take i xs ++ x ∷ []
one_more [] i x e = cc
one_more (y ∷ ys) zero x e = let is : y ≡ x = cc in ap (λ z. z ∷ []) is
one_more (y ∷ ys) (suc i) x e = ap (λ l. y ∷ l) (one_more ys i x e)

one_behind : {X : Type 0} (xs : List X) (i : ℕ) (x : X) → 1 ≤ i → slice_get xs i ≡ Some x → drop 1 (take (i + 1) xs) ≡ drop 1 (take i xs) ++ x ∷ []
one_behind xs zero x h e = absurd (omega arith)
one_behind [] (suc i) x h e = cc
one_behind (y ∷ ys) (suc i) x h e = rw add-one (one_more ys i x e)

pub counted_behind : (size : ℕ) (xs : List Symbol) (i : ℕ) (s : Symbol) → 1 ≤ i → slice_get xs i ≡ Some s
    → cell_count (take (i + 1) xs) size ≡ cell_count (take i xs) size + size ^ s.arity
counted_behind size xs i s h e =
    let f = λ (x : Symbol). size ^ x.arity in
    let one : sum_by f (s ∷ []) ≡ size ^ s.arity = omega arith in
    ap (sum_by f) (one_behind xs i s h e) ∙ sum_by-append f (drop 1 (take i xs)) (s ∷ []) ∙ ap (λ n. sum_by f (drop 1 (take i xs)) + n) one

-- the power of a size to an arity
pub small_power : (size arity : ℕ) → size ≤ 8 → arity ≤ 8 → size ^ arity ≤ 16777216
small_power size arity s a =
    let base : size ^ arity ≤ 8 ^ arity = pow-le-pow_left s arity in
    let top : 8 ^ arity ≤ 8 ^ 8 = pow-le-pow_right {n = 8} (omega arith) a in
    omega (arith, base, top)

-- a clause that is there has no more instances than all have
pub one_of_all : (clauses : List Clause) (size i : ℕ) (c : Clause) → slice_get clauses i ≡ Some c → size ^ width c ≤ instance_count clauses size
one_of_all [] size i c e = cc
one_of_all (d ∷ ds) size zero c e =
    let is : d ≡ c = cc in
    let first : size ^ width d ≡ size ^ width c = ap (λ (x : Clause). size ^ width x) is in
    omega (arith, sum_by-cons (λ (x : Clause). size ^ width x) d ds, first)
one_of_all (d ∷ ds) size (suc i) c e = omega (arith, sum_by-cons (λ (x : Clause). size ^ width x) d ds, one_of_all ds size i c e)

-- each clause has an instance
pub no_fewer : (clauses : List Clause) (size : ℕ) → 1 ≤ size → length clauses ≤ instance_count clauses size
no_fewer [] size some = omega arith
no_fewer (d ∷ ds) size some =
    let one : 1 ≤ size ^ width d = one-le-pow (width d) size (omega arith) in
    omega (arith, sum_by-cons (λ (x : Clause). size ^ width x) d ds, no_fewer ds size some, one)
