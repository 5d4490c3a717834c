-- The clause that comes first among those that were looked at, of which one more is looked at.
use Rattle.std.proofs.Common.{◌≡◌, ◌∙◌, sym, subst, refl, ℕ, ◌+◌, ◌<◌, ◌⊎◌, inl, inr, List, [], ◌∷◌, ◌++◌, length, take, get_or, Option, Some, None, arith}
use Rattle.std.specs.List.{All, Contains}
use Rattle.std.proofs.lemmas.List.{take_more}
use Rattle.std.proofs.lemmas.List.Elements.{All-nil, All-cons, All-append, All-contains, Contains-append_left, Contains-append_right, Contains-append_cases}
use Rattle.sc_term.proofs.ContainsLaws.{first_or_later, at_first}
use Rattle.sc_core_rules.specs.Order.{IsBefore, IsLeast}
use Rattle.sc_core_rules.proofs.OrderLaws.{not_before_itself}
use Rattle.sc_sos.specs.declared.sos.Weighed.{Weighed}
use Rattle.sc_sos.specs.Waiting.{IsAny, ComesFirst}
use Rattle.sc_sos.specs.LookUp.{IsFirst, IsSooner}

-- ---- the order

before_trans : (xs ys zs : List ℕ) → IsBefore xs ys → IsBefore ys zs → IsBefore xs zs
before_trans xs ys [] h k = absurd k
before_trans xs [] (z ∷ zs) h k = absurd h
before_trans [] (y ∷ ys) (z ∷ zs) h k = tt
before_trans (x ∷ xs) (y ∷ ys) (z ∷ zs) h k = elim h [
  | inl less ↦ elim k [
    | inl more ↦ inl (omega (arith, less, more))
    | inr same ↦ inl (omega (arith, less, same.0))
  ]
  | inr same ↦ elim k [
    | inl more ↦ inl (omega (arith, same.0, more))
    | inr equal ↦ inr (same.0 ∙ equal.0, before_trans xs ys zs same.1 equal.1)
  ]
]

-- ---- one more

-- an element of the list with one more is one of the list, or that one
front_or_last : (y x : Weighed) (xs : List Weighed) → Contains (xs ++ x ∷ []) y → Contains xs y ⊎ (x ≡ y)
front_or_last y x xs h = by (Contains-append_cases xs (x ∷ []) y h)
  where
    last : (x ≡ y) ⊎ Contains [] y → x ≡ y
    last (inl e) = e
    last (inr k) = absurd (omega (arith, k.1))

    by : Contains xs y ⊎ Contains (x ∷ []) y → Contains xs y ⊎ (x ≡ y)
    by (inl k) = inl k
    by (inr k) = inr (last (first_or_later y x [] k))

module _ (order : Weighed → List ℕ) (P : Weighed → Type 0) (front : List Weighed) (next : Weighed) where
  -- what holds of each in front and of the next holds of each
  each : (Q : Weighed → Type 0) → ((y : Weighed) → Contains front y → Q y) → Q next → (y : Weighed) → Contains (front ++ next ∷ []) y → Q y
  each Q before last y there = by (front_or_last y next front there)
    where
      by : Contains front y ⊎ (next ≡ y) → Q y
      by (inl k) = before y k
      by (inr e) = subst Q e last

  -- the best stays where P doesn't hold of the next, or the next doesn't come before it
  keeps : (best : Weighed) → IsLeast order P front best → (P next → ¬ IsBefore (order next) (order best)) → IsLeast order P (front ++ next ∷ []) best
  keeps best h never = record {
    listed = Contains-append_left front (next ∷ []) best h.listed;
    holds = h.holds;
    least = each (λ (y : Weighed). P y → ¬ IsBefore (order y) (order best)) h.least never;
  }

  -- the next is the first of all where none in front comes before it
  takes : P next → ((y : Weighed) → Contains front y → P y → ¬ IsBefore (order y) (order next)) → IsLeast order P (front ++ next ∷ []) next
  takes holds least = record {
    listed = Contains-append_right front (next ∷ []) next (at_first next []);
    holds = holds;
    least = each (λ (y : Weighed). P y → ¬ IsBefore (order y) (order next)) least (λ k. not_before_itself (order next));
  }

  -- one of which P doesn't hold changes nothing
  pub passed : (best : Option Weighed) → ¬ P next → IsFirst order P front best → IsFirst order P (front ++ next ∷ []) best
  passed None never h = All-append (λ (w : Weighed). ¬ P w) front (next ∷ []) h (All-cons (λ (w : Weighed). ¬ P w) next [] never (All-nil (λ (w : Weighed). ¬ P w)))
  passed (Some best) never h = keeps best h (λ holds. absurd (never holds))

  -- of the best so far and one of which P holds, the one that comes first comes first of all
  pub one_more : (best : Option Weighed) (w : Weighed) → P next → IsSooner order best next w → IsFirst order P front best → IsLeast order P (front ++ next ∷ []) w
  one_more None w holds e h =
      subst (IsLeast order P (front ++ next ∷ [])) (sym e)
      (takes holds (λ y there has before. All-contains (λ (v : Weighed). ¬ P v) front y h there has))
  one_more (Some best) w holds (inl k) h =
      subst (IsLeast order P (front ++ next ∷ [])) (sym k.1)
      (takes holds (λ y there has before. h.least y there has (before_trans (order y) (order next) (order best) before k.0)))
  one_more (Some best) w holds (inr k) h =
      subst (IsLeast order P (front ++ next ∷ [])) (sym k.1) (keeps best h (λ has. k.0))

-- ---- the loops

-- what is read where the list has no such element
abbrev pub blank : Weighed
blank = record { number = 0; weight = 0 }

-- the front of the list with one more
pub one_further : (ws : List Weighed) (i : ℕ) → i < length ws → take i ws ++ get_or ws i blank ∷ [] ≡ take (i + 1) ws
one_further ws i less = sym (take_more ws i blank less)

-- ---- the look-ups

pub comes_first : (order : Weighed → List ℕ) (P : Weighed → Type 0) (ws vs : List Weighed) (w : Weighed) → ws ≡ vs → IsLeast order P vs w → ComesFirst order P ws w.number
comes_first order P ws vs w same h = (w, refl, subst (λ (us : List Weighed). IsLeast order P us w) (sym same) h)

pub none_there : (ws : List Weighed) → All (λ (w : Weighed). ¬ IsAny w) ws → ws ≡ []
none_there [] h = refl
none_there (w ∷ ws) h = absurd (h 0 w (omega arith) tt)
