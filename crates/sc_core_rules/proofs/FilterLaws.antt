-- Filters, and how a search through all that may be meant gives a list in order.
use Rattle.std.proofs.Common.{◌≡◌, sym, subst, refl, ap, ℕ, ◌⊎◌, inl, inr, List, [], ◌∷◌, ◌++◌, length, ◌≤◌, arith}
use Rattle.std.specs.List.{Contains, AllPairs, All}
use Rattle.std.proofs.lemmas.List.Kept.{AllPairs-cons}
use Rattle.std.proofs.lemmas.List.Elements.{Contains-get_or}
use Rattle.sc_core_rules.specs.Order.{IsBefore, AreInOrder, AreFirst, IsFilter, none, taken, passed}
use Rattle.sc_core_rules.proofs.OrderLaws.{first_before, tail_pairs, Rises}
use Rattle.sc_term.proofs.ContainsLaws.{first_or_later, later}

-- a filter is one list
pub filter_is_one : {X : Type 0} (P : X → Type 0) (xs ys zs : List X) → IsFilter P xs ys → IsFilter P xs zs → ys ≡ zs
filter_is_one P xs ys zs none none = refl
filter_is_one P xs ys zs (taken {x} h one) (taken k two) = ap (λ l. x ∷ l) (filter_is_one P _ _ _ one two)
filter_is_one P xs ys zs (taken h one) (passed k two) = absurd (k h)
filter_is_one P xs ys zs (passed h one) (taken k two) = absurd (h k)
filter_is_one P xs ys zs (passed h one) (passed k two) = filter_is_one P _ _ _ one two

-- filters of two lists make up that of both
pub filter_append : {X : Type 0} (P : X → Type 0) (xs us ys vs : List X) → IsFilter P xs ys → IsFilter P us vs → IsFilter P (xs ++ us) (ys ++ vs)
filter_append P xs us ys vs none two = two
filter_append P xs us ys vs (taken h one) two = taken h (filter_append P _ us _ vs one two)
filter_append P xs us ys vs (passed h one) two = passed h (filter_append P _ us _ vs one two)

-- ---- from a filter to a list in order

pub filter_within : {X : Type 0} (P : X → Type 0) (z : X) (xs ys : List X) → IsFilter P xs ys → Contains ys z → Contains xs z × P z
filter_within P z xs ys none h = absurd (omega (arith, h.1))
filter_within P z xs ys (taken {x} {xs = us} {ys = vs} p rest) h = first (λ k. filter_within P z us vs rest k) (first_or_later z x vs h)
  where
    first : (Contains vs z → Contains us z × P z) → (x ≡ z) ⊎ Contains vs z → Contains (x ∷ us) z × P z
    first below (inl e) = ((0, omega arith, e), subst P e p)
    first below (inr k) = (later z x us (below k).0, (below k).1)
filter_within P z xs ys (passed {x} {xs = us} p rest) h =
    let below = filter_within P z us ys rest h in (later z x us below.0, below.1)

pub filter_holds : {X : Type 0} (P : X → Type 0) (z : X) (xs ys : List X) → IsFilter P xs ys → Contains xs z → P z → Contains ys z
filter_holds P z xs ys none h p = h
filter_holds P z xs ys (taken {x} {xs = us} {ys = vs} q rest) h p = first (λ k. filter_holds P z us vs rest k p) (first_or_later z x us h)
  where
    first : (Contains us z → Contains vs z) → (x ≡ z) ⊎ Contains us z → Contains (x ∷ vs) z
    first below (inl e) = (0, omega arith, e)
    first below (inr k) = later z x vs (below k)
filter_holds P z xs ys (passed {x} {xs = us} q rest) h p = first (λ k. filter_holds P z us ys rest k p) (first_or_later z x us h)
  where
    first : (Contains us z → Contains ys z) → (x ≡ z) ⊎ Contains us z → Contains ys z
    first below (inl e) = absurd (q (subst P (sym e) p))
    first below (inr k) = below k

filter_pairs : {X : Type 0} (R : X → X → Type 0) (P : X → Type 0) (xs ys : List X) → AllPairs R xs → IsFilter P xs ys → AllPairs R ys
filter_pairs R P xs ys pairs none = pairs
filter_pairs R P xs ys pairs (taken {x} {xs = us} {ys = vs} p rest) =
    AllPairs-cons R x vs
    (λ k d h. first_before R x _ us pairs (filter_within P _ us vs rest (Contains-get_or vs k d h)).0)
    (filter_pairs R P us vs (tail_pairs R x us pairs) rest)
filter_pairs R P xs ys pairs (passed {x} {xs = us} p rest) = filter_pairs R P us ys (tail_pairs R x us pairs) rest

-- the filter of a rising list of all that may be meant is in order
pub filter_in_order : {X : Type 0} (numbers : X → List ℕ) (P : X → Type 0) (xs ys : List X) → Rises numbers xs → ((x : X) → P x → Contains xs x)
    → IsFilter P xs ys → AreInOrder numbers P ys
filter_in_order numbers P xs ys up among f = record {
  rising = filter_pairs (λ x y. IsBefore (numbers x) (numbers y)) P xs ys up f;
  only = λ k d h. (filter_within P _ xs ys f (Contains-get_or ys k d h)).1;
  all = λ x p. filter_holds P x xs ys f (among x p) p;
}

pub in_either : {X : Type 0} (z : X) (xs ys : List X) → Contains (xs ++ ys) z → Contains xs z ⊎ Contains ys z
in_either z [] ys h = inr h
in_either z (x ∷ xs) ys h = by (λ k. in_either z xs ys k) (first_or_later z x (xs ++ ys) h)
  where
    by : (Contains (xs ++ ys) z → Contains xs z ⊎ Contains ys z) → (x ≡ z) ⊎ Contains (xs ++ ys) z → Contains (x ∷ xs) z ⊎ Contains ys z
    by below (inl e) = inl (0, omega arith, e)
    by below (inr k) = or (below k)
      where
        or : Contains xs z ⊎ Contains ys z → Contains (x ∷ xs) z ⊎ Contains ys z
        or (inl h) = inl (later z x xs h)
        or (inr h) = inr h

pub in_second : {X : Type 0} (z : X) (xs ys : List X) → Contains ys z → Contains (xs ++ ys) z
in_second z [] ys h = h
in_second z (x ∷ xs) ys h = later z x (xs ++ ys) (in_second z xs ys h)

pub in_first : {X : Type 0} (z : X) (xs ys : List X) → Contains xs z → Contains (xs ++ ys) z
in_first z [] ys h = absurd (omega (arith, h.1))
in_first z (x ∷ xs) ys h = by (λ k. in_first z xs ys k) (first_or_later z x xs h)
  where
    by : (Contains xs z → Contains (xs ++ ys) z) → (x ≡ z) ⊎ Contains xs z → Contains (x ∷ xs ++ ys) z
    by below (inl e) = (0, omega arith, e)
    by below (inr k) = later z x (xs ++ ys) (below k)

front_pairs : {X : Type 0} (R : X → X → Type 0) (xs ys : List X) → AllPairs R (xs ++ ys) → AllPairs R xs
front_pairs R [] ys pairs = λ i j d less within. absurd (omega (arith, within))
front_pairs R (x ∷ xs) ys pairs =
    AllPairs-cons R x xs
    (λ k d h. first_before R x _ (xs ++ ys) pairs (in_first _ xs ys (Contains-get_or xs k d h)))
    (front_pairs R xs ys (tail_pairs R x (xs ++ ys) pairs))

across : {X : Type 0} (R : X → X → Type 0) (y z : X) (xs ys : List X) → AllPairs R (xs ++ ys) → Contains xs y → Contains ys z → R y z
across R y z [] ys pairs h k = absurd (omega (arith, h.1))
across {X} R y z (x ∷ xs) ys pairs h k = by (λ h. across R y z xs ys (tail_pairs R x (xs ++ ys) pairs) h k) (first_or_later y x xs h)
  where
    by : (Contains xs y → R y z) → (x ≡ y) ⊎ Contains xs y → R y z
    by below (inl e) = subst (λ (x : X). R x z) e (first_before R x z (xs ++ ys) pairs (in_second z xs ys k))
    by below (inr h) = below h

-- a search that goes through all that may be meant, in rising order, to their end or to its limit gives the first ones
pub search_gives_first : {X : Type 0} (numbers : X → List ℕ) (P : X → Type 0) (limit : ℕ) (tried rest xs : List X)
    → Rises numbers (tried ++ rest) → ((x : X) → P x → Contains (tried ++ rest) x) → IsFilter P tried xs
    → length xs ≤ limit → (rest ≡ []) ⊎ (length xs ≡ limit) → AreFirst numbers P limit xs
search_gives_first {X} numbers P limit tried rest xs up among f short stops = record {
  rising = filter_pairs (λ x y. IsBefore (numbers x) (numbers y)) P tried xs (front_pairs (λ x y. IsBefore (numbers x) (numbers y)) tried rest up) f;
  only = λ k d h. (filter_within P _ tried xs f (Contains-get_or xs k d h)).1;
  no_more = short;
  first = λ x p. by x p stops (in_either x tried rest (among x p));
}
  where
    by : (x : X) → P x → (rest ≡ []) ⊎ (length xs ≡ limit) → Contains tried x ⊎ Contains rest x
        → Contains xs x ⊎ ((length xs ≡ limit) × All (λ y. IsBefore (numbers y) (numbers x)) xs)
    by x p stops (inl h) = inl (filter_holds P x tried xs f h p)
    by x p (inl e) (inr h) = absurd (let k = subst (λ (l : List X). Contains l x) e h in omega (arith, k.1))
    by x p (inr e) (inr h) = inr (e, λ k d within. across (λ x y. IsBefore (numbers x) (numbers y)) _ x tried rest up (filter_within P _ tried xs f (Contains-get_or xs k d within)).0 h)
