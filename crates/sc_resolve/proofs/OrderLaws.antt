-- Sites over clauses are those over the same clauses in the order of their numbers.
use Rattle.std.proofs.Common.{◌≡◌, ◌≢◌, ◌==◌, ◌∙◌, sym, ap, subst, refl, ℕ, ◌<◌, Bool, true, false, List, [], ◌∷◌, length, map, get_or, Some, slice_get, arith}
use Rattle.std.specs.List.{All, AllPairs, Contains, IsDistinct}
use Rattle.std.specs.List.Sorted.{IsPermutation, IsNonDecreasingBy}
use Rattle.std.proofs.lemmas.Bool.{eqb-true, eqb-false}
use Rattle.std.proofs.lemmas.Bool.Decides.{Decides-eqb}
use Rattle.std.proofs.lemmas.List.{length-map, get_or-map}
use Rattle.std.proofs.lemmas.Option.{slice_get_read}
use Rattle.std.proofs.lemmas.List.Sorted.{All-permutation, Contains-permutation, IsPermutation-map, IsPermutation-sym}
use Rattle.std.proofs.lemmas.Map.Keys.{IsDistinct-IsPermutation}
use Rattle.std.proofs.lemmas.Map.Made.{IsDistinct-from_AllPairs, AllPairs-from_IsDistinct}
use Rattle.std.specs.Borrow.{Bor}
use Rattle.sc_term.specs.declared.Numbered.{Numbered}
use Rattle.sc_core_rules.specs.Order.{AreFirst}
use Rattle.sc_resolve.specs.ByNumber.{AreByNumber, seen}

-- ---- the first things of which something holds, said in other words

pub first_in_other_words : {X : Type 0} (numbers : X → List ℕ) (P Q : X → Type 0) (limit : ℕ) (xs : List X)
    → ((x : X) → P x → Q x) → ((x : X) → Q x → P x) → AreFirst numbers P limit xs → AreFirst numbers Q limit xs
first_in_other_words numbers P Q limit xs to from h = record {
  rising = h.rising;
  only = λ k d less. to (get_or xs k d) (h.only k d less);
  no_more = h.no_more;
  first = λ x q. h.first x (from x q);
}

-- where a site over clauses is one over all lists that have them too, the first sites over the clauses in the order of
-- their numbers are the first over the clauses
pub first_by_number : {X : Type 0} (numbers : X → List ℕ) (Site : List Numbered → X → Type 0) (clauses ordered : List Numbered) (limit : ℕ) (xs : List X)
    → ((ps qs : List Numbered) → ((p : Numbered) → Contains ps p → Contains qs p) → (x : X) → Site ps x → Site qs x)
    → AreByNumber clauses ordered → AreFirst numbers (Site ordered) limit xs → AreFirst numbers (Site clauses) limit xs
first_by_number numbers Site clauses ordered limit xs more h first =
    first_in_other_words numbers (Site ordered) (Site clauses) limit xs
    (more ordered clauses (λ p c. Contains-permutation ordered clauses p (IsPermutation-sym clauses ordered h.same) c))
    (more clauses ordered (λ p c. Contains-permutation clauses ordered p h.same c))
    first

-- what holds of the clauses holds of them in the order of their numbers
pub all_by_number : (P : Numbered → Type 0) (clauses ordered : List Numbered) → AreByNumber clauses ordered → All P clauses → All P ordered
all_by_number P clauses ordered h all = All-permutation P clauses ordered h.same all

-- ---- numbers that differ rise where they don't fall

flips : (m n : ℕ) → (m == n) ≡ (n == m)
flips m n = by (m == n) (n == m) refl refl
  where
    by : (a b : Bool) → (m == n) ≡ a → (n == m) ≡ b → (m == n) ≡ (n == m)
    by true true e f = e ∙ sym f
    by false false e f = e ∙ sym f
    by true false e f = absurd (eqb-false n m f (sym (eqb-true m n e)))
    by false true e f = absurd (eqb-false m n e (sym (eqb-true n m f)))

pub differ_by_number : (clauses ordered : List Numbered) → IsPermutation clauses ordered → AllPairs (λ p q. p.number ≢ q.number) clauses → AllPairs (λ p q. p.number ≢ q.number) ordered
differ_by_number clauses ordered moved differ i j d less within e =
    let f = λ (p : Numbered). p.number in
    let start : IsDistinct ◌==◌ (map f clauses) = IsDistinct-from_AllPairs Decides-eqb (map f clauses) (λ a b n before there same.
    let inside : b < length clauses = omega (arith, there, length-map clauses f) in
    differ a b d before inside (sym (get_or-map f clauses a d n (omega (arith, before, inside))) ∙ same ∙ get_or-map f clauses b d n inside)) in
    let ends : IsDistinct ◌==◌ (map f ordered) = IsDistinct-IsPermutation ◌==◌ flips (map f clauses) (map f ordered) (IsPermutation-map f clauses ordered moved) start in
    AllPairs-from_IsDistinct Decides-eqb (map f ordered) ends i j d.number less (omega (arith, within, length-map ordered f))
    (get_or-map f ordered i d d.number (omega (arith, less, within)) ∙ e ∙ sym (get_or-map f ordered j d d.number within))

pub sorted_by_number : (clauses ordered : List Numbered) → AllPairs (λ p q. p.number ≢ q.number) clauses → IsPermutation clauses ordered → IsNonDecreasingBy (λ p. p.number) ordered
    → AreByNumber clauses ordered
sorted_by_number clauses ordered differ moved up = record {
  same = moved;
  rising = λ i j d less within.
      let low = up i j d (omega (arith, less)) within in
      let other = differ_by_number clauses ordered moved differ i j d less within in
      omega (arith, low, other);
}

-- ---- through references

-- the numbers don't fall as they are seen
pub seen_up : (items : List (Bor Numbered)) → IsNonDecreasingBy (λ p. p.now.number) items → IsNonDecreasingBy (λ p. p.number) (seen items)
seen_up [] up i j d less within = absurd (omega (arith, within))
seen_up (b ∷ bs) up i j d less within =
    let items = b ∷ bs in
    let f = λ (p : Bor Numbered). p.now in
    let inside : j < length items = omega (arith, within, length-map items f) in
    let low = ap (λ (q : Numbered). q.number) (get_or-map f items i b d (omega (arith, less, inside))) in
    let high = ap (λ (q : Numbered). q.number) (get_or-map f items j b d inside) in
    let below = up i j b less inside in
    omega (arith, low, high, below)

-- the clause that is seen at a place, as the element there
pub seen_or : (items : List (Bor Numbered)) (i : ℕ) (b : Bor Numbered) → i < length (seen items) → b ≡ get_or items i b → b.now ≡ get_or (seen items) i b.now
seen_or items i b less at =
    let f = λ (p : Bor Numbered). p.now in
    ap f at ∙ sym (get_or-map f items i b b.now (omega (arith, less, length-map items f)))

-- what holds of all clauses that are seen holds of each
pub all_at : (P : Numbered → Type 0) (items : List (Bor Numbered)) (i : ℕ) (b : Bor Numbered) → i < length items → b ≡ get_or items i b → All P (seen items) → P b.now
all_at P items i b less at all =
    let inside : i < length (seen items) = omega (arith, less, length-map items (λ (p : Bor Numbered). p.now)) in
    subst P (sym (seen_or items i b inside at)) (all i b.now inside)

-- the same as what a list gives at a place
pub seen_at : (items : List (Bor Numbered)) (i : ℕ) (b : Bor Numbered) → i < length items → b ≡ get_or items i b → slice_get (seen items) i ≡ Some b.now
seen_at items i b less at =
    let inside : i < length (seen items) = omega (arith, less, length-map items (λ (p : Bor Numbered). p.now)) in
    slice_get_read (seen items) (length (seen items)) i b.now (λ k. length (seen items)) inside (seen_or items i b inside at)
