-- Numbered elements and lines of a list that grows at its end.
use Rattle.std.proofs.Common.{◌≡◌, ◌∙◌, sym, ap, refl, subst, ℕ, zero, suc, ◌+◌, ◌-◌, ◌<◌, ◌≤◌, ◌==◌, eqb, Bool, true, false, if◌then◌else◌, List, [], ◌∷◌, ◌++◌, append_assoc, length, take, slice_get, Option, Some, None, IsSomeAnd, option_map, arith, inl, inr, ◌⊎◌, length-append}
use Rattle.std.proofs.lemmas.Bool.{eqb-false, eqb-true}
use Rattle.std.proofs.Math.Seq.{take-append_seam, take-length}
use Rattle.std.proofs.lemmas.List.{take-append-le}
use Rattle.std.proofs.lemmas.Option.{slice_get_within}
use Rattle.sc_term.specs.declared.Clause.{Clause}
use Rattle.sc_term.specs.declared.Line.{Line}
use Rattle.sc_term.specs.Numbering.{numbered}
use Rattle.sc_term.specs.Proof.{clause_of, IsStep, IsStepAt, AreSteps}
use Rattle.sc_steps.proofs.ListLaws.{some_and, mapped, at_number, in_front}

-- ---- numbered elements

pub number_at : {A : Type 0} (xs : List A) (n : ℕ) (x : A) → 0 < n → slice_get xs (n - 1) ≡ Some x → numbered xs n ≡ Some x
number_at xs n x pos e = by (n == 0) refl
  where
    by : (b : Bool) → (n == 0) ≡ b → numbered xs n ≡ Some x
    by true z = absurd (omega (arith, eqb-true n 0 z))
    by false z = ap (λ b. if b then None else slice_get xs (n - 1)) z ∙ e

-- an element of the front is one of the whole
pub in_whole : {A : Type 0} (xs ys : List A) (i : ℕ) (x : A) → slice_get xs i ≡ Some x → slice_get (xs ++ ys) i ≡ Some x
in_whole [] ys i x e = cc
in_whole (z ∷ zs) ys zero x e = e
in_whole (z ∷ zs) ys (suc i) x e = in_whole zs ys i x e

-- an element of the whole is one of the front, or the one behind it
pub in_front_or_end : {A : Type 0} (xs : List A) (y : A) (i : ℕ) (x : A) → slice_get (xs ++ y ∷ []) i ≡ Some x
    → (slice_get xs i ≡ Some x) ⊎ ((i ≡ length xs) × (y ≡ x))
in_front_or_end [] y zero x e = inr (refl, cc)
in_front_or_end [] y (suc i) x e = cc
in_front_or_end (z ∷ zs) y zero x e = inl e
in_front_or_end (z ∷ zs) y (suc i) x e = elim (in_front_or_end zs y i x e) [
  | inl h ↦ inl h
  | inr h ↦ inr (omega (arith, h.0), h.1)
]

pub at_end : {A : Type 0} (xs : List A) (y : A) → slice_get (xs ++ y ∷ []) (length xs) ≡ Some y
at_end [] y = refl
at_end (x ∷ xs) y = at_end xs y

pub number_in_whole : {A : Type 0} (xs ys : List A) (n : ℕ) (x : A) → numbered xs n ≡ Some x → numbered (xs ++ ys) n ≡ Some x
number_in_whole xs ys n x e = let at = at_number xs n x e in number_at (xs ++ ys) n x at.0 (in_whole xs ys (n - 1) x at.1)

pub number_of_end : {A : Type 0} (xs : List A) (y : A) → numbered (xs ++ y ∷ []) (length xs + 1) ≡ Some y
number_of_end xs y =
    let here : length xs + 1 - 1 ≡ length xs = omega arith in
    number_at (xs ++ y ∷ []) (length xs + 1) y (omega arith) (ap (slice_get (xs ++ y ∷ [])) here ∙ at_end xs y)

pub number_in_front_or_end : {A : Type 0} (xs : List A) (y : A) (n : ℕ) (x : A) → numbered (xs ++ y ∷ []) n ≡ Some x
    → (numbered xs n ≡ Some x) ⊎ ((n ≡ length xs + 1) × (y ≡ x))
number_in_front_or_end xs y n x e =
    let at = at_number (xs ++ y ∷ []) n x e in
    elim (in_front_or_end xs y (n - 1) x at.1) [
      | inl h ↦ inl (number_at xs n x at.0 h)
      | inr h ↦ inr (omega (arith, at.0, h.0), h.1)
    ]

pub number_within : {A : Type 0} (xs : List A) (n : ℕ) (x : A) → numbered xs n ≡ Some x → (0 < n) × (n ≤ length xs)
number_within xs n x e = let at = at_number xs n x e in (at.0, omega (arith, at.0, slice_get_within xs (n - 1) x at.1))

-- an element of the front is one of the whole, and stands in the front
pub number_in_front : {A : Type 0} (xs : List A) (k n : ℕ) (x : A) → numbered (take k xs) n ≡ Some x → (n ≤ k) × (numbered xs n ≡ Some x)
number_in_front xs k n x e =
    let at = at_number (take k xs) n x e in
    let whole = in_front xs k (n - 1) x at.1 in
    (omega (arith, at.0, whole.0), number_at xs n x at.0 whole.1)

pub some_so : {A : Type 0} (o : Option A) (P : A → Type 0) (x : A) → o ≡ Some x → P x → IsSomeAnd o P
some_so o P x e h = subst (λ o. IsSomeAnd o P) (sym e) h

pub map_some : {A B : Type 0} (f : A → B) (o : Option A) (x : A) → o ≡ Some x → option_map f o ≡ Some (f x)
map_some f o x e = ap (option_map f) e

-- ---- clauses of lines

pub clause_in_whole : (xs ys : List Line) (n : ℕ) (c : Clause) → clause_of xs n ≡ Some c → clause_of (xs ++ ys) n ≡ Some c
clause_in_whole xs ys n c e =
    let line = mapped (λ (l : Line). l.clause) (numbered xs n) c e in
    map_some (λ (l : Line). l.clause) (numbered (xs ++ ys) n) line.0 (number_in_whole xs ys n line.0 line.1) ∙ ap Some line.2

pub clause_of_end : (xs : List Line) (l : Line) → clause_of (xs ++ l ∷ []) (length xs + 1) ≡ Some l.clause
clause_of_end xs l = map_some (λ (l : Line). l.clause) (numbered (xs ++ l ∷ []) (length xs + 1)) l (number_of_end xs l)

-- ---- steps

pub step_at : (clauses : List Clause) (lines : List Line) (k : ℕ) (line : Line) → numbered lines k ≡ Some line
    → IsStep clauses (take (k - 1) lines) line → IsStepAt clauses lines k
step_at clauses lines k line e h = some_so (numbered lines k) (λ one. IsStep clauses (take (k - 1) lines) one) line e h

-- one more line that is a step from those before it
pub steps_push : (clauses : List Clause) (lines : List Line) (l : Line) → AreSteps clauses lines → IsStep clauses lines l
    → AreSteps clauses (lines ++ l ∷ [])
steps_push clauses lines l steps step k h =
    let near : k ≤ length lines = omega (arith, length-append lines (l ∷ []), h) in
    let front : take (k + 1 - 1) (lines ++ l ∷ []) ≡ take (k + 1 - 1) lines = take-append-le (k + 1 - 1) lines (l ∷ []) (omega arith) in
    elim (cases k (length lines) near) [
      | inl lt ↦
          let old = some_and (numbered lines (k + 1)) (λ one. IsStep clauses (take (k + 1 - 1) lines) one) (steps k lt) in
          step_at clauses (lines ++ l ∷ []) (k + 1) old.0 (number_in_whole lines (l ∷ []) (k + 1) old.0 old.1)
          (subst (λ ls. IsStep clauses ls old.0) (sym front) old.2)
      | inr eq ↦
          let whole : take (k + 1 - 1) lines ≡ lines = ap (λ n. take n lines) (omega (arith, eq)) ∙ take-length lines in
          step_at clauses (lines ++ l ∷ []) (k + 1) l (ap (λ n. numbered (lines ++ l ∷ []) (n + 1)) eq ∙ number_of_end lines l)
          (subst (λ ls. IsStep clauses ls l) (sym (front ∙ whole)) step)
    ]
  where
    cases : (a b : ℕ) → a ≤ b → (a < b) ⊎ (a ≡ b)
    cases a b h = by (eqb a b) refl
      where
        by : (t : Bool) → eqb a b ≡ t → (a < b) ⊎ (a ≡ b)
        by true e = inr (eqb-true a b e)
        by false e = let ne = eqb-false a b e in inl (omega arith)

-- each line is a step from those before it, which begin with `done`
abbrev pub StepsFrom : List Clause → List Line → List Line → Type 0
StepsFrom clauses done [] = Unit {0}
StepsFrom clauses done (l ∷ rest) = IsStep clauses done l × StepsFrom clauses (done ++ l ∷ []) rest

pub steps_from : (clauses : List Clause) (done rest : List Line) → AreSteps clauses (done ++ rest) → StepsFrom clauses done rest
steps_from clauses done [] steps = tt
steps_from clauses done (l ∷ rest) steps =
    let all : List Line = done ++ l ∷ rest in
    let here : numbered all (length done + 1) ≡ Some l = ap (λ ls. numbered ls (length done + 1)) (sym (append_assoc done (l ∷ []) rest))
    ∙ number_in_whole (done ++ l ∷ []) rest (length done + 1) l (number_of_end done l) in
    let step = some_and (numbered all (length done + 1)) (λ one. IsStep clauses (take (length done + 1 - 1) all) one)
    (steps (length done) (omega (arith, length-append done (l ∷ rest)))) in
    let is : Some step.0 ≡ Some l = sym step.1 ∙ here in
    let same : step.0 ≡ l = cc in
    let front : take (length done + 1 - 1) all ≡ done = ap (λ n. take n all) (omega arith) ∙ take-append_seam done (l ∷ rest) in (
      subst (λ ls. IsStep clauses ls l) front (subst (λ one. IsStep clauses (take (length done + 1 - 1) all) one) same step.2),
      steps_from clauses (done ++ l ∷ []) rest (subst (AreSteps clauses) (sym (append_assoc done (l ∷ []) rest)) steps),
    )
