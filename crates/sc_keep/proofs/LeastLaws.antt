-- The least number among clauses of which one more is looked at.
use Rattle.std.proofs.Common.{◌≡◌, ◌∙◌, sym, ap, subst, refl, ℕ, ◌+◌, ◌<◌, ◌⊎◌, inl, inr, List, [], ◌∷◌, ◌++◌, append_assoc, length, take, get_or, Option, Some, None, arith}
use Rattle.std.proofs.lemmas.List.{take_more}
use Rattle.std.specs.List.{Contains}
use Rattle.sc_term.specs.declared.Numbered.{Numbered}
use Rattle.sc_core_rules.specs.Order.{IsLeast, IsBefore}
use Rattle.sc_core_rules.specs.Rewriting.{number_of}
use Rattle.sc_term.proofs.ContainsLaws.{first_or_later, at_first}
use Rattle.sc_core_rules.proofs.FilterLaws.{in_either, in_first, in_second}
use Rattle.sc_keep.specs.Least.{IsLeastNumber, IsBelow}

-- an element of the list with one more is one of the list, or that one
pub front_or_last : {X : Type 0} (y x : X) (xs : List X) → Contains (xs ++ x ∷ []) y → Contains xs y ⊎ (x ≡ y)
front_or_last y x xs h = by (in_either y xs (x ∷ []) h)
  where
    last : (x ≡ y) ⊎ Contains [] y → x ≡ y
    last (inl e) = e
    last (inr k) = absurd (omega (arith, k.1))

    by : Contains xs y ⊎ Contains (x ∷ []) y → Contains xs y ⊎ (x ≡ y)
    by (inl k) = inl k
    by (inr k) = inr (last (first_or_later y x [] k))

pub last_there : {X : Type 0} (x : X) (xs : List X) → Contains (xs ++ x ∷ []) x
last_there x xs = in_second x xs (x ∷ []) (at_first x [])

module _ (P : Numbered → Type 0) (front : List Numbered) (p : Numbered) where
  -- what the last element can't change
  pub keeps : (m : Numbered) → IsLeast number_of P front m → (P p → ¬ (p.number < m.number)) → IsLeast number_of P (front ++ p ∷ []) m
  keeps m h never = record { listed = in_first m front (p ∷ []) h.listed; holds = h.holds; least = λ y there holds less. by y holds less (front_or_last y p front there) }
    where
      smaller : (y : Numbered) → IsBefore (number_of y) (number_of m) → y.number < m.number
      smaller y (inl less) = less
      smaller y (inr k) = absurd k.1

      by : (y : Numbered) → P y → IsBefore (number_of y) (number_of m) → Contains front y ⊎ (p ≡ y) → ⊥
      by y holds less (inl k) = h.least y k holds less
      by y holds less (inr e) = never (subst P (sym e) holds) (subst (λ (q : Numbered). q.number < m.number) (sym e) (smaller y less))

  -- a clause of no lesser number, or without the property, changes nothing
  pub not_below : (best : Option ℕ) → ¬ IsBelow p.number best → IsLeastNumber P front best → IsLeastNumber P (front ++ p ∷ []) best
  not_below None never h = absurd (never tt)
  not_below (Some n) never h = (h.0, keeps h.0 h.1 (λ holds less. never (subst (λ k. p.number < k) h.2 less)), h.2)

  pub still_none : ¬ P p → ((y : Numbered) → Contains front y → ¬ P y) → (y : Numbered) → Contains (front ++ p ∷ []) y → ¬ P y
  still_none never h y there holds = by (front_or_last y p front there)
    where
      by : Contains front y ⊎ (p ≡ y) → ⊥
      by (inl k) = h y k holds
      by (inr e) = never (subst P (sym e) holds)

  pub fails : (best : Option ℕ) → ¬ P p → IsLeastNumber P front best → IsLeastNumber P (front ++ p ∷ []) best
  fails None never h = still_none never h
  fails (Some n) never h = (h.0, keeps h.0 h.1 (λ holds less. never holds), h.2)

  -- one of lesser number with the property is the least
  pub takes_least : (best : Option ℕ) → IsBelow p.number best → P p → IsLeastNumber P front best → IsLeast number_of P (front ++ p ∷ []) p
  takes_least best below holds h = record { listed = last_there p front; holds = holds; least = least best below h }
    where
      smaller : (y : Numbered) → IsBefore (number_of y) (number_of p) → y.number < p.number
      smaller y (inl less) = less
      smaller y (inr k) = absurd k.1

      in_front : (best : Option ℕ) → IsBelow p.number best → IsLeastNumber P front best → (y : Numbered) → P y → y.number < p.number → Contains front y → ⊥
      in_front None below h y has less k = h y k has
      in_front (Some n) below h y has less k = (h.1).least y k has (inl (let e = h.2 in omega (arith, below, less, e)))

      least : (best : Option ℕ) → IsBelow p.number best → IsLeastNumber P front best → (y : Numbered) → Contains (front ++ p ∷ []) y → P y → ¬ IsBefore (number_of y) (number_of p)
      least best below h y there has before = by (front_or_last y p front there)
        where
          by : Contains front y ⊎ (p ≡ y) → ⊥
          by (inl k) = in_front best below h y has (smaller y before) k
          by (inr e) = let less = smaller y before in let same : p.number ≡ y.number = ap (λ (q : Numbered). q.number) e in omega (arith, less, same)

  pub takes : (best : Option ℕ) → IsBelow p.number best → P p → IsLeastNumber P front best → IsLeastNumber P (front ++ p ∷ []) (Some p.number)
  takes best below holds h = (p, takes_least best below holds h, refl)

-- one element more of a list behind others
pub one_further : {X : Type 0} (front xs : List X) (i : ℕ) (x : X) → i < length xs → x ≡ get_or xs i x → (front ++ take i xs) ++ x ∷ [] ≡ front ++ take (i + 1) xs
one_further front xs i x less at =
    append_assoc front (take i xs) (x ∷ []) ∙ ap (λ ys. front ++ ys) ((λ j. take i xs ++ at j ∷ []) ∙ sym (take_more xs i x less))
