-- A clause is taken out of a list by its number.
use Rattle.std.proofs.Common.{◌≡◌, ◌≢◌, ◌∙◌, sym, ap, subst, refl, ℕ, zero, suc, ◌<◌, Bool, true, false, not, cond, List, [], ◌∷◌, ◌++◌, length, slice_get, Some, None, Option, nat_eq, ◌||◌}
use Rattle.std.specs.List.{Contains, remove}
use Rattle.std.proofs.lemmas.Bool.{eqb-false}
use Rattle.std.proofs.lemmas.Option.{get_or_from_slice_get}
use Rattle.sc_term.specs.declared.Numbered.{Numbered}
use Rattle.sc_core_rules.specs.Book.{Book, leaving_out}
use Rattle.sc_core_rules.specs.Turn.{with_given}
use Rattle.sc_keep.specs.Sweep.{without_numbers}

same_number : (m n : ℕ) → m ≡ n → nat_eq m n ≡ true
same_number m n e = by (nat_eq m n) refl
  where
    by : (b : Bool) → nat_eq m n ≡ b → nat_eq m n ≡ true
    by true f = f
    by false f = absurd (eqb-false m n f e)

removed_same : (n : ℕ) (xs : List Numbered) (at : ℕ) (x : Numbered) → slice_get xs at ≡ Some x → x.number ≡ n → without_numbers (n ∷ []) (remove xs at) ≡ without_numbers (n ∷ []) xs
removed_same n [] at x there e = let bad : ◌≡◌ {A = Option Numbered} None (Some x) = there in cc
removed_same n (y ∷ ys) zero x there e =
    let same : y ≡ x = cc in
    let is : nat_eq y.number n ≡ true = same_number y.number n (ap (λ (p : Numbered). p.number) same ∙ e) in
    sym (ap (λ b. cond (not (b || false)) (y ∷ without_numbers (n ∷ []) ys) (without_numbers (n ∷ []) ys)) is)
removed_same n (y ∷ ys) (suc at) x there e =
    ap (λ zs. cond (not (nat_eq y.number n || false)) (y ∷ zs) zs) (removed_same n ys at x there e)

pub found_there : {X : Type 0} (xs : List X) (at : ℕ) (x : X) → at < length xs → slice_get xs at ≡ Some x → Contains xs x
found_there xs at x less there = (at, less, get_or_from_slice_get xs at x _ there)

pub is_given : (book new : Book) (n at : ℕ) (p given : Numbered) (left now : List Numbered) → slice_get book.sos at ≡ Some p → p.number ≡ n → slice_get book.sos at ≡ Some given
    → left ≡ remove book.sos at → now ≡ without_numbers (n ∷ []) left → new ≡ record book { usable = book.usable ++ given ∷ []; sos = now } → new ≡ with_given book p
is_given book new n at p given left now there e taken is_left is_now is_new =
    let same : given ≡ p = let f : ◌≡◌ {A = Option Numbered} (Some given) (Some p) = sym taken ∙ there in cc in
    let sos : now ≡ leaving_out (p ∷ []) book.sos =
    is_now ∙ ap (without_numbers (n ∷ [])) is_left ∙ removed_same n book.sos at p there e ∙ ap (λ k. without_numbers (k ∷ []) book.sos) (sym e) in
    is_new ∙ (λ i. record book { usable = book.usable ++ same i ∷ []; sos = sos i })

abbrev IsFound : List Numbered → ℕ → ℕ → Type 0
IsFound ps n at = (at < length ps) × ((p : Numbered) × (slice_get ps at ≡ Some p) × (p.number ≡ n))

pub gives : (book new : Book) (n at : ℕ) (given : Numbered) (seen left now : List Numbered) → seen ≡ book.sos → IsFound seen n at → slice_get book.sos at ≡ Some given
    → left ≡ remove book.sos at → now ≡ without_numbers (n ∷ []) left → new ≡ record book { usable = book.usable ++ given ∷ []; sos = now }
    → (p : Numbered) × Contains book.sos p × (p.number ≡ n) × (new ≡ with_given book p)
gives book new n at given seen left now same found taken is_left is_now is_new =
    let here = subst (λ ps. IsFound ps n at) same found in
    (here.1.0, found_there book.sos at here.1.0 here.0 here.1.1, here.1.2, is_given book new n at here.1.0 given left now here.1.1 here.1.2 taken is_left is_now is_new)

pub never_lost : {R : Type 0} (book : Book) (n : ℕ) (seen : List Numbered) → seen ≡ book.sos → ((p : Numbered) → Contains seen p → p.number ≢ n) → (p : Numbered) × Contains book.sos p × (p.number ≡ n) → R
never_lost book n seen same never h = absurd (never h.0 (subst (λ ps. Contains ps h.0) (sym same) h.1) h.2)
