-- The values of terms one after another, and the numbers in rows.
use Rattle.std.proofs.Common.{◌≡◌, ◌∙◌, sym, ap, refl, ℕ, zero, suc, ◌+◌, ◌*◌, ◌-◌, ◌^◌, ◌<◌, ◌≤◌, ◌⊎◌, inl, inr, min, Bool, true, false, ◌&&◌, if◌then◌else◌, List, [], ◌∷◌, ◌++◌, map, take, length, get_or, nat_eq, nat_lt, Option, Some, None, slice_get, add-one, arith}
use Rattle.std.specs.List.{list_all}
use Rattle.std.specs.Option.{option_map, is_some}
use Rattle.std.proofs.lemmas.Bool.{eqb-true, ltb-true, lt-ltb, cases_lt}
use Rattle.std.proofs.lemmas.List.{map-append, length-map}
use Rattle.std.proofs.lemmas.List.Folds.{list_all-append}
use Rattle.std.proofs.lemmas.Option.{slice_get-map, slice_get_past}
use Rattle.std.proofs.Math.Nat.{mul_comm}
use Rattle.sc_term.specs.declared.SymId.{SymId}
use Rattle.sc_term.specs.declared.Term.{Term}
use Rattle.sc_term.specs.Interpretation.{Assignment, are_equal}
use Rattle.sc_term.specs.Numbering.{numbered}
use Rattle.sc_interp.specs.Structure.{place_of}
use Rattle.sc_cells.specs.Cells.{onto, all_given}
use Rattle.sc_find_given.specs.declared.row.Row.{Row}
use Rattle.sc_find_given.specs.Lookup.{place_in, number_in, value_at, look_up, found_term, found_terms, found_atom}
use Rattle.sc_find_given.proofs.PlaceLaws.{place_push}

pub one_more : {X : Type 0} (xs : List X) (i : ℕ) (x : X) → slice_get xs i ≡ Some x → take (i + 1) xs ≡ take i xs ++ x ∷ []
one_more xs i x e = rw add-one (by xs i e)
  where
    by : {X : Type 0} (xs : List X) (i : ℕ) {x : X} → slice_get xs i ≡ Some x → take (suc i) xs ≡ take i xs ++ x ∷ []
    by [] i e = cc
    by (y ∷ ys) zero {x = x} e = let is : y ≡ x = cc in ap (λ z. z ∷ []) is
    by (y ∷ ys) (suc i) e = ap (λ l. y ∷ l) (by ys i e)

not_all : (size : ℕ) (ns : List ℕ) (i n : ℕ) → slice_get ns i ≡ Some n → size ≤ n → list_all (λ v. nat_lt v size) ns ≡ false
not_all size [] i n e h = cc
not_all size (m ∷ ms) zero n e h = by (nat_lt m size) refl
  where
    by : (b : Bool) → nat_lt m size ≡ b → (b && list_all (λ v. nat_lt v size) ms) ≡ false
    by true t = let less : m < size = ltb-true m size t in let is : m ≡ n = cc in absurd (omega arith)
    by false t = refl
not_all size (m ∷ ms) (suc i) n e h = by (nat_lt m size) (not_all size ms i n e h)
  where
    by : (b : Bool) → list_all (λ v. nat_lt v size) ms ≡ false → (b && list_all (λ v. nat_lt v size) ms) ≡ false
    by true t = t
    by false t = refl

-- ---- all values

onto-some : (n : ℕ) (o : Option (List ℕ)) (ns : List ℕ) → o ≡ Some ns → onto (Some n) o ≡ Some (n ∷ ns)
onto-some n o ns e = ap (λ x. option_map (λ ms. n ∷ ms) x) e

-- one that isn't given
pub none_given : (vs : List (Option ℕ)) (k : ℕ) → slice_get vs k ≡ Some None → all_given vs ≡ None
none_given [] k e = cc
none_given (v ∷ vs) zero e = let is : v ≡ None = cc in ap (λ x. onto x (all_given vs)) is
none_given (v ∷ vs) (suc k) e = ap (onto v) (none_given vs k e) ∙ by v
  where
    by : (x : Option ℕ) → onto x None ≡ None
    by None = refl
    by (Some n) = refl

-- one more that is given
pub given_push : (vs : List (Option ℕ)) (n : ℕ) (ns : List ℕ) → all_given vs ≡ Some ns → all_given (vs ++ Some n ∷ []) ≡ Some (ns ++ n ∷ [])
given_push [] n ns e = let is : [] ≡ ns = cc in ap (λ l. Some (l ++ n ∷ [])) is
given_push (None ∷ vs) n ns e = cc
given_push (Some m ∷ vs) n ns e = by (all_given vs) refl e (given_push vs n)
  where
    by : (o : Option (List ℕ)) → all_given vs ≡ o → onto (Some m) o ≡ Some ns
        → ((ms : List ℕ) → all_given vs ≡ Some ms → all_given (vs ++ Some n ∷ []) ≡ Some (ms ++ n ∷ [])) → onto (Some m) (all_given (vs ++ Some n ∷ [])) ≡ Some (ns ++ n ∷ [])
    by None is f more = cc
    by (Some ms) is f more =
        let same : m ∷ ms ≡ ns = cc in
        onto-some m (all_given (vs ++ Some n ∷ [])) (ms ++ n ∷ []) (more ms is) ∙ ap (λ l. Some (l ++ n ∷ [])) same

pub as_many : (vs : List (Option ℕ)) (ns : List ℕ) → all_given vs ≡ Some ns → length ns ≡ length vs
as_many [] ns e = let is : [] ≡ ns = cc in ap length (sym is)
as_many (None ∷ vs) ns e = cc
as_many (Some m ∷ vs) ns e = by (all_given vs) refl e (as_many vs)
  where
    by : (o : Option (List ℕ)) → all_given vs ≡ o → onto (Some m) o ≡ Some ns → ((ms : List ℕ) → all_given vs ≡ Some ms → length ms ≡ length vs) → length ns ≡ suc (length vs)
    by None is f more = cc
    by (Some ms) is f more = let same : m ∷ ms ≡ ns = cc in ap length (sym same) ∙ ap suc (more ms is)

-- each of them is given
pub each_given : (vs : List (Option ℕ)) (ns : List ℕ) (k n : ℕ) → all_given vs ≡ Some ns → slice_get vs k ≡ Some (Some n) → slice_get ns k ≡ Some n
each_given [] ns k n e at_k = cc
each_given (None ∷ vs) ns k n e at_k = cc
each_given (Some m ∷ vs) ns k n e at_k = by (all_given vs) refl k e at_k (λ ms j. each_given vs ms j n)
  where
    by : (o : Option (List ℕ)) → all_given vs ≡ o → (k : ℕ) → onto (Some m) o ≡ Some ns → slice_get (Some m ∷ vs) k ≡ Some (Some n)
        → ((ms : List ℕ) (j : ℕ) → all_given vs ≡ Some ms → slice_get vs j ≡ Some (Some n) → slice_get ms j ≡ Some n) → slice_get ns k ≡ Some n
    by None is k f g more = cc
    by (Some ms) is zero f g more = let same : m ∷ ms ≡ ns = cc in let one : m ≡ n = cc in ap (λ l. slice_get l 0) (sym same) ∙ ap Some one
    by (Some ms) is (suc k) f g more = let same : m ∷ ms ≡ ns = cc in ap (λ l. slice_get l (suc k)) (sym same) ∙ more ms k is g

-- ---- the terms of a row

module _ (look : SymId → Option (List ℕ) → Option ℕ) (a : Assignment) where
  pub terms_more : (ts : List Term) (i n : ℕ) (t : Term) (ns : List ℕ) → slice_get ts i ≡ Some t → found_term look a t ≡ Some n → found_terms look a (take i ts) ≡ Some ns
      → found_terms look a (take (i + 1) ts) ≡ Some (ns ++ n ∷ [])
  terms_more ts i n t ns here is before =
      ap (found_terms look a) (one_more ts i t here) ∙ ap all_given (map-append (found_term look a) (take i ts) (t ∷ []))
      ∙ ap (λ o. all_given (map (found_term look a) (take i ts) ++ o ∷ [])) is ∙ given_push (map (found_term look a) (take i ts)) n ns before

  pub terms_none : (ts : List Term) (i : ℕ) (t : Term) → slice_get ts i ≡ Some t → found_term look a t ≡ None → found_terms look a ts ≡ None
  terms_none ts i t here is =
      none_given (map (found_term look a) ts) i (slice_get-map (found_term look a) ts i ∙ ap (option_map (found_term look a)) here ∙ ap Some is)

  pub terms_many : (ts : List Term) (ns : List ℕ) → found_terms look a ts ≡ Some ns → length ns ≡ length ts
  terms_many ts ns e = as_many (map (found_term look a) ts) ns e ∙ length-map ts (found_term look a)

  pub terms_some : (ts : List Term) (i n : ℕ) (t : Term) → slice_get ts i ≡ Some t → found_term look a t ≡ Some n → is_some (found_terms look a (take i ts)) ≡ true
      → is_some (found_terms look a (take (i + 1) ts)) ≡ true
  terms_some ts i n t here is before = by (found_terms look a (take i ts)) refl before
    where
      by : (o : Option (List ℕ)) → found_terms look a (take i ts) ≡ o → is_some o ≡ true → is_some (found_terms look a (take (i + 1) ts)) ≡ true
      by None e h = cc
      by (Some ns) e h = ap is_some (terms_more ts i n t ns here is e)

  -- terms that aren't two are no equation
  pub not_two : (ts : List Term) → ¬ (length ts ≡ 2) → is_some (found_terms look a ts) ≡ true → Some false ≡ option_map are_equal (found_terms look a ts)
  not_two ts other some = by (found_terms look a ts) refl some
    where
      unequal : (ns : List ℕ) → ¬ (length ns ≡ 2) → false ≡ are_equal ns
      unequal [] h = refl
      unequal (m ∷ []) h = refl
      unequal (m ∷ n ∷ []) h = absurd (h (omega arith))
      unequal (m ∷ n ∷ k ∷ ks) h = refl

      by : (o : Option (List ℕ)) → found_terms look a ts ≡ o → is_some o ≡ true → Some false ≡ option_map are_equal o
      by None e h = cc
      by (Some ns) e h = ap Some (unequal ns (λ two. other (sym (terms_many ts ns e) ∙ two)))

  pub two_values : (ts : List Term) (x y : Term) (m n : ℕ) → length ts ≡ 2 → x ≡ get_or ts 0 x → y ≡ get_or ts 1 y → found_term look a x ≡ Some m → found_term look a y ≡ Some n
      → Some (nat_eq m n) ≡ option_map are_equal (found_terms look a ts)
  two_values [] x y m n long first second left right = absurd (omega arith)
  two_values (u ∷ []) x y m n long first second left right = absurd (omega arith)
  two_values (u ∷ v ∷ []) x y m n long first second left right =
      let one : found_term look a u ≡ Some m = ap (found_term look a) (sym first) ∙ left in
      let two : found_term look a v ≡ Some n = ap (found_term look a) (sym second) ∙ right in
      sym (λ i. option_map are_equal (all_given (one i ∷ two i ∷ [])))
  two_values (u ∷ v ∷ w ∷ ws) x y m n long first second left right = absurd (omega arith)

  pub atom_is : (p : SymId) (values : Option (List ℕ)) (o : Option ℕ) → ¬ (p.0 ≡ 0) → look p values ≡ o → option_map (nat_eq 1) o ≡ found_atom look p values
  atom_is p values o other is = by (nat_eq p.0 0) refl
    where
      by : (b : Bool) → nat_eq p.0 0 ≡ b → option_map (nat_eq 1) o ≡ found_atom look p values
      by true e = absurd (other (eqb-true p.0 0 e))
      by false e = ap (option_map (nat_eq 1)) (sym is) ∙ sym (ap (λ b. if b then option_map are_equal values else option_map (nat_eq 1) (look p values)) e)

  -- one that isn't an element
  pub terms_beyond : (size : ℕ) (ts : List Term) (i n : ℕ) (t : Term) → slice_get ts i ≡ Some t → found_term look a t ≡ Some n → size ≤ n
      → place_in size (found_terms look a ts) ≡ None
  terms_beyond size ts i n t here is beyond = by (found_terms look a ts) refl
    where
      by : (o : Option (List ℕ)) → found_terms look a ts ≡ o → place_in size o ≡ None
      by None e = refl
      by (Some ns) e =
          let at_i : slice_get (map (found_term look a) ts) i ≡ Some (Some n) = slice_get-map (found_term look a) ts i ∙ ap (option_map (found_term look a)) here ∙ ap Some is in
          let has : slice_get ns i ≡ Some n = each_given (map (found_term look a) ts) ns i n e at_i in
          ap (λ b. if b then Some (place_of size ns) else None) (not_all size ns i n has beyond)

-- ---- a place as it is put together

pub record IsPlaced (size : ℕ) (values : Option (List ℕ)) (place : ℕ) : Type 0 where
  pub elements : List ℕ
  pub are : values ≡ Some elements
  pub below : list_all (λ v. nat_lt v size) elements ≡ true
  pub stands : place ≡ min (place_of size elements) (2 ^ 64 - 1)

pub placed : (size : ℕ) (values : Option (List ℕ)) (place : ℕ) → IsPlaced size values place → Some place ≡ option_map (λ n. min n (2 ^ 64 - 1)) (place_in size values)
placed size values place is =
    sym (ap (λ o. option_map (λ n. min n (2 ^ 64 - 1)) (place_in size o)) is.are
    ∙ ap (λ b. option_map (λ n. min n (2 ^ 64 - 1)) (if b then Some (place_of size is.elements) else None)) is.below ∙ ap Some (sym is.stands))

pub placed_none : (size : ℕ) → IsPlaced size (Some []) 0
placed_none size = record { elements = []; are = refl; below = refl; stands = omega arith }

pub placed_more : (size n place : ℕ) (old new : Option (List ℕ)) (next : ℕ) → IsPlaced size old place → n < size → ((ns : List ℕ) → old ≡ Some ns → new ≡ Some (ns ++ n ∷ []))
    → next ≡ min (min (place * size) (2 ^ 64 - 1) + n) (2 ^ 64 - 1) → IsPlaced size new next
placed_more size n place old new next is small more step = record {
  elements = is.elements ++ n ∷ [];
  are = more is.elements is.are;
  below = list_all-append (λ v. nat_lt v size) is.elements (n ∷ []) ∙ (λ i. is.below i && (nat_lt n size && true)) ∙ (λ i. lt-ltb n size small i && true);
  stands = step ∙ clip (place_of size is.elements) place is.stands ∙ ap (λ k. min k (2 ^ 64 - 1)) (sym (place_push size is.elements n));
}
  where
    larger : (p : ℕ) → 0 < size → p ≤ size * p
    larger p h = grind arith

    clip : (p q : ℕ) → q ≡ min p (2 ^ 64 - 1) → min (min (q * size) (2 ^ 64 - 1) + n) (2 ^ 64 - 1) ≡ min (size * p + n) (2 ^ 64 - 1)
    clip p q e = split (cases_lt p (2 ^ 64))
      where
        split : (p < 2 ^ 64) ⊎ (2 ^ 64 ≤ p) → min (min (q * size) (2 ^ 64 - 1) + n) (2 ^ 64 - 1) ≡ min (size * p + n) (2 ^ 64 - 1)
        split (inl lt) =
            let same : q ≡ p = omega arith in
            let product : q * size ≡ size * p = ap (λ k. k * size) same ∙ mul_comm p size in
            omega (arith, product)
        split (inr past) =
            let most : q ≡ 2 ^ 64 - 1 = omega arith in
            let product : q * size ≡ size * q = mul_comm q size in
            omega (arith, product, larger p (omega arith), larger q (omega arith))

-- ---- the value of an entry

pub value_found : (size : ℕ) (rows : List Row) (given : List ℕ) (f : SymId) (count : ℕ) (o : Option (List ℕ)) → ((ns : List ℕ) → o ≡ Some ns → length ns ≡ count)
    → value_at given (number_in (numbered rows f.0) count (place_in size o)) ≡ look_up size rows given f o
value_found size rows given f count None many = by (numbered rows f.0)
  where
    by : (o : Option Row) → value_at given (number_in o count None) ≡ None
    by None = refl
    by (Some row) = refl
value_found size rows given f count (Some ns) many = ap (λ n. value_at given (number_in (numbered rows f.0) n (place_in size (Some ns)))) (sym (many ns refl))

pub within_usize : (xs : List ℕ) (place p : ℕ) → length xs < 2 ^ 64 → place ≡ min p (2 ^ 64 - 1) → slice_get xs place ≡ slice_get xs p
within_usize xs place p few e = split (cases_lt p (2 ^ 64))
  where
    split : (p < 2 ^ 64) ⊎ (2 ^ 64 ≤ p) → slice_get xs place ≡ slice_get xs p
    split (inl lt) = let same : place ≡ p = omega arith in ap (slice_get xs) same
    split (inr past) = slice_get_past xs place (omega arith) ∙ sym (slice_get_past xs p (omega arith))
