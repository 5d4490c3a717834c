-- A depth-first search for the first list of a length of which something holds that holds of each front of it too.
use Rattle.std.proofs.Common.{◌≡◌, ◌∙◌, sym, ap, subst, refl, ℕ, ◌+◌, ◌<◌, ◌≤◌, inl, inr, List, [], ◌∷◌, ◌++◌, length, arith}
use Rattle.std.specs.List.{All, AllPairs}
use Rattle.std.proofs.lemmas.List.{length_push}
use Rattle.std.proofs.lemmas.List.Elements.{All-nil, All-push, All-weaker}
use Rattle.std.proofs.lemmas.List.Quantifiers.{all_pairs_push}
use Rattle.sc_cells.specs.Order.{IsBefore}
use Rattle.sc_find.proofs.TriedLaws.{WasTried, before_trans, before_longer, before_tried, full_tried, tried_deeper, tried_further, less_tried, tried_under, none_at_first, Extends}

-- it holds, and the list is as long as is wanted
abbrev pub IsFull : ℕ → (List ℕ → Type 0) → List ℕ → Type 0
IsFull n P m = (length m ≡ n) × P m

-- it holds, and no full list comes before
abbrev pub IsEntered : ℕ → (List ℕ → Type 0) → List ℕ → Type 0
IsEntered n P values = (0 < length values) × P values × ((m : List ℕ) → IsFull n P m → ¬ IsBefore m values)

-- so far
pub record IsSearch (n : ℕ) (P : List ℕ → Type 0) (values : List ℕ) (next count : ℕ) : Type 0 where
  pub holds : P values
  pub fits : length values ≤ n
  pub none_tried : (m : List ℕ) → IsFull n P m → ¬ WasTried values next m
  pub entered : List (List ℕ)
  pub rising : AllPairs IsBefore entered
  pub only : All (IsEntered n P) entered
  pub behind : All (λ x. (k : ℕ) → next ≤ k → IsBefore x (values ++ k ∷ [])) entered
  pub counted : length entered ≡ count

-- more lists were entered than the budget
pub record HasMore (n : ℕ) (P : List ℕ → Type 0) (budget : ℕ) : Type 0 where
  pub entered : List (List ℕ)
  pub rising : AllPairs IsBefore entered
  pub only : All (IsEntered n P) entered
  pub many : budget < length entered

pub at_first : (n : ℕ) (P : List ℕ → Type 0) → ((xs ys : List ℕ) → P (xs ++ ys) → P xs) → (first : ℕ)
    → P [] → ((k : ℕ) → P (k ∷ []) → first ≤ k) → IsSearch n P [] first 0
at_first n P shorter first here low = record {
  holds = here;
  fits = omega arith;
  none_tried = λ m full tried.
      let at = none_at_first m first tried in
      let least : first ≤ at.0 = low at.0 (shorter (at.0 ∷ []) at.2.0 (subst P at.2.1 full.1)) in
      omega (arith, at.1, least);
  entered = [];
  rising = λ i j d lt within. absurd (omega (arith, within));
  only = All-nil (IsEntered n P);
  behind = All-nil (λ x. (k : ℕ) → first ≤ k → IsBefore x ([] ++ k ∷ []));
  counted = refl;
}

-- the list with the next value is one that the search enters
pub enters : (n : ℕ) (P : List ℕ → Type 0) (values : List ℕ) (next count : ℕ) → IsSearch n P values next count
    → length values < n → P (values ++ next ∷ []) → IsEntered n P (values ++ next ∷ [])
enters n P values next count s few here = (
  omega (arith, length_push values next),
  here,
  λ m full before. s.none_tried m full (before_tried values m next (omega (arith, few, full.0)) before),
)

pub more_rising : (n : ℕ) (P : List ℕ → Type 0) (values : List ℕ) (next count : ℕ) → (s : IsSearch n P values next count)
    → AllPairs IsBefore (s.entered ++ (values ++ next ∷ []) ∷ [])
more_rising n P values next count s =
    all_pairs_push IsBefore s.entered (values ++ next ∷ []) s.rising (λ k d within. s.behind k d within next (omega arith))

pub taken : (n : ℕ) (P : List ℕ → Type 0) (values : List ℕ) (next count : ℕ) → IsSearch n P values next count
    → length values < n → P (values ++ next ∷ []) → IsSearch n P (values ++ next ∷ []) 0 (count + 1)
taken n P values next count s few here = record {
  holds = here;
  fits = omega (arith, length_push values next);
  none_tried = λ m full tried. s.none_tried m full (tried_deeper values m next tried);
  entered = s.entered ++ (values ++ next ∷ []) ∷ [];
  rising = more_rising n P values next count s;
  only = All-push (IsEntered n P) s.entered (values ++ next ∷ []) s.only (enters n P values next count s few here);
  behind = All-push (λ x. (k : ℕ) → 0 ≤ k → IsBefore x ((values ++ next ∷ []) ++ k ∷ [])) s.entered (values ++ next ∷ [])
      (All-weaker (λ x. (k : ℕ) → next ≤ k → IsBefore x (values ++ k ∷ [])) (λ x. (k : ℕ) → 0 ≤ k → IsBefore x ((values ++ next ∷ []) ++ k ∷ []))
      (λ x h k le. before_trans x (values ++ next ∷ []) ((values ++ next ∷ []) ++ k ∷ []) (h next (omega arith)) (before_longer (values ++ next ∷ []) k)) s.entered s.behind)
      (λ k le. before_longer (values ++ next ∷ []) k);
  counted = length_push s.entered (values ++ next ∷ []) ∙ ap (λ c. c + 1) s.counted;
}

pub exceeds : (n : ℕ) (P : List ℕ → Type 0) (values : List ℕ) (next count : ℕ) → IsSearch n P values next count
    → length values < n → P (values ++ next ∷ []) → HasMore n P count
exceeds n P values next count s few here = record {
  entered = s.entered ++ (values ++ next ∷ []) ∷ [];
  rising = more_rising n P values next count s;
  only = All-push (IsEntered n P) s.entered (values ++ next ∷ []) s.only (enters n P values next count s few here);
  many = omega (arith, length_push s.entered (values ++ next ∷ []), s.counted);
}

pub refused : (n : ℕ) (P : List ℕ → Type 0) → ((xs ys : List ℕ) → P (xs ++ ys) → P xs) → (values : List ℕ) (next count : ℕ)
    → IsSearch n P values next count → ¬ P (values ++ next ∷ []) → IsSearch n P values (next + 1) count
refused n P shorter values next count s never = record {
  holds = s.holds;
  fits = s.fits;
  none_tried = λ m full tried. elim (tried_further values m next tried) [
    | inl before ↦ s.none_tried m full before
    | inr here ↦ never (shorter (values ++ next ∷ []) here.0 (subst P here.1 full.1))
  ];
  entered = s.entered;
  rising = s.rising;
  only = s.only;
  behind = All-weaker (λ x. (k : ℕ) → next ≤ k → IsBefore x (values ++ k ∷ [])) (λ x. (k : ℕ) → next + 1 ≤ k → IsBefore x (values ++ k ∷ []))
      (λ x h k le. h k (omega (arith, le))) s.entered s.behind;
  counted = s.counted;
}

-- where a full list goes on after the values, one goes on with a smaller value than the next one
abbrev pub GoesOnBelow : ℕ → (List ℕ → Type 0) → List ℕ → ℕ → Type 0
GoesOnBelow n P values next = (m : List ℕ) → IsFull n P m → Extends values m → (k : ℕ) × (more : List ℕ) × (k < next) × IsFull n P (values ++ k ∷ more)

none_behind : (n : ℕ) (P : List ℕ → Type 0) (values : List ℕ) (next count : ℕ) → IsSearch n P values next count → GoesOnBelow n P values next
    → (m : List ℕ) → IsFull n P m → ¬ Extends values m
none_behind n P values next count s below m full behind =
    let one = below m full behind in
    s.none_tried (values ++ one.0 ∷ one.1) one.3 (less_tried values one.0 next one.1 one.2)

pub undone : (n : ℕ) (P : List ℕ → Type 0) → ((xs ys : List ℕ) → P (xs ++ ys) → P xs) → (values : List ℕ) (v next count : ℕ)
    → IsSearch n P (values ++ v ∷ []) next count → length (values ++ v ∷ []) < n
    → GoesOnBelow n P (values ++ v ∷ []) next → IsSearch n P values (v + 1) count
undone n P shorter values v next count s few below = record {
  holds = shorter values (v ∷ []) s.holds;
  fits = omega (arith, length_push values v, few);
  none_tried = λ m full tried. elim (tried_further values m v tried) [
    | inl before ↦ s.none_tried m full (tried_under values m v next before)
    | inr here ↦ none_behind n P (values ++ v ∷ []) next count s below m full here
  ];
  entered = s.entered;
  rising = s.rising;
  only = s.only;
  behind = All-weaker (λ x. (k : ℕ) → next ≤ k → IsBefore x ((values ++ v ∷ []) ++ k ∷ [])) (λ x. (k : ℕ) → v + 1 ≤ k → IsBefore x (values ++ k ∷ []))
      (λ x h k le. before_trans x ((values ++ v ∷ []) ++ next ∷ []) (values ++ k ∷ []) (h next (omega arith)) (passes_on values v next k (omega (arith, le)))) s.entered s.behind;
  counted = s.counted;
}
  where
    passes_on : (values : List ℕ) (v next k : ℕ) → v < k → IsBefore ((values ++ v ∷ []) ++ next ∷ []) (values ++ k ∷ [])
    passes_on [] v next k lt = inl lt
    passes_on (w ∷ ws) v next k lt = inr (refl, passes_on ws v next k lt)

pub found : (n : ℕ) (P : List ℕ → Type 0) (values : List ℕ) (next count : ℕ) → IsSearch n P values next count → n ≤ length values
    → IsFull n P values × ((m : List ℕ) → IsFull n P m → ¬ IsBefore m values)
found n P values next count s all =
    let long : length values ≡ n = omega (arith, s.fits, all) in (
      (long, s.holds),
      λ m full before. s.none_tried m full (full_tried values m next (full.0 ∙ sym long) before),
    )

pub none : (n : ℕ) (P : List ℕ → Type 0) (next count : ℕ) → IsSearch n P [] next count → GoesOnBelow n P [] next → (m : List ℕ) → ¬ IsFull n P m
none n P next count s below m full = none_behind n P [] next count s below m full (m, refl)
