-- The lines of a derivation, put together one by one.
use Rattle.std.proofs.Common.{◌≡◌, ◌∙◌, sym, ap, subst, refl, ℕ, zero, suc, ◌-◌, ◌<◌, ◌==◌, inl, inr, List, [], ◌∷◌, ◌++◌, length, Bool, true, false, ◌||◌, if◌then◌else◌, Some, None, slice_get, arith}
use Rattle.std.specs.Prelude.{IsSomeAnd}
use Rattle.std.specs.List.{Contains}
use Rattle.std.proofs.lemmas.Bool.{eq-eqb}
use Rattle.sc_term.specs.declared.Term.{Term, Var}
use Rattle.sc_term.specs.declared.Clause.{Clause}
use Rattle.sc_term.specs.declared.Line.{Line}
use Rattle.sc_term.specs.declared.Numbered.{Numbered}
use Rattle.sc_term.specs.declared.Step.{Step}
use Rattle.sc_term.specs.declared.Step.TheVariants.{Input, Instance}
use Rattle.sc_term.specs.Clause.{instance, width, variables}
use Rattle.sc_steps.specs.Derivation.{IsInputAt}
use Rattle.sc_steps.specs.Splice.{named_by}
use Rattle.sc_steps.specs.Walk.{names, is_number}
use Rattle.sc_core_rules.specs.Derivation.{Adds, AddsInput, AddsPart, AreTermsTo}

-- ---- input lines

-- a step that names no clause n isn't `input n`
not_input : (s : Step) (n : ℕ) → is_number (named_by s) n ≡ false → ¬ (s ≡ Input n)
not_input s n h e = let same : is_number (named_by s) n ≡ true = ap (λ (s : Step). is_number (named_by s) n) e ∙ eq-eqb n n refl in let bad : false ≡ true = sym h ∙ same in cc

neither : (a b : Bool) → (a || b) ≡ false → (a ≡ false) × (b ≡ false)
neither true b h = let bad : true ≡ false = h in absurd cc
neither false b h = (refl, h)

nowhere : (lines : List Line) (n : ℕ) → names lines n ≡ false → (k : ℕ) → ¬ IsSomeAnd (slice_get lines k) (λ line. line.step ≡ Input n)
nowhere [] n h k i = i
nowhere (l ∷ ls) n h zero i = not_input l.step n (neither (is_number (named_by l.step) n) (names ls n) h).0 i
nowhere (l ∷ ls) n h (suc k) i = nowhere ls n (neither (is_number (named_by l.step) n) (names ls n) h).1 k i

pub no_input : (lines : List Line) (n : ℕ) → names lines n ≡ false → (k : ℕ) → ¬ IsInputAt lines n k
no_input lines n h k i = by (k == 0) refl
  where
    by : (b : Bool) → (k == 0) ≡ b → ⊥
    by true e = subst (λ b. IsSomeAnd (if b then None else slice_get lines (k - 1)) (λ line. line.step ≡ Input n)) e i
    by false e = nowhere lines n h (k - 1) (subst (λ b. IsSomeAnd (if b then None else slice_get lines (k - 1)) (λ line. line.step ≡ Input n)) e i)

-- where no line names the clause, its `input` line is added
pub adds_input : (before : List Line) (p : Numbered) → names before p.number ≡ false
    → AddsInput before p (before ++ record { step = Input p.number; clause = p.clause } ∷ []) (length (before ++ record { step = Input p.number; clause = p.clause } ∷ []))
adds_input before p h = inr (no_input before p.number h, refl, refl)

-- ---- the part of a parent

-- the part is the clause itself
pub adds_whole : (before : List Line) (p : Numbered) (after : List Line) (k : ℕ) → AddsInput before p after k → AddsPart before p p.clause after k
adds_whole before p after k h = (after, k, h, inl (refl, (refl, refl)))

-- the part is an instance
pub adds_instance : (before : List Line) (p : Numbered) (part : Clause) (mid : List Line) (j : ℕ) (terms : List Term) (after : List Line) → AddsInput before p mid j
    → ¬ (part ≡ p.clause) → AreTermsTo p.clause part terms → Adds mid (Instance j terms) after → AddsPart before p part after (length after)
adds_instance before p part mid j terms after h differ are adds = (mid, j, h, inr (differ, (terms, are, adds, refl)))

-- ---- the terms

-- each variable below the width occurs
pub terms_of_one : (c part : Clause) (t : Term) (more : List ℕ) → width c ≡ 1 → variables c ≡ 0 ∷ more → instance (t ∷ []) c ≡ part → AreTermsTo c part (t ∷ [])
terms_of_one c part t more wide has gives = record { many = sym wide; gives = gives; rest = occurs }
  where
    occurs : (n : ℕ) → n < width c → ¬ Contains (variables c) n → slice_get (t ∷ []) n ≡ Some (Var 0)
    occurs zero h absent = absurd (absent (subst (λ ns. Contains ns 0) (sym has) (0, omega arith, refl)))
    occurs (suc n) h absent = absurd (omega (arith, h, wide))

pub terms_of_two : (c part : Clause) (t u : Term) (more : List ℕ) → width c ≡ 2 → variables c ≡ 0 ∷ 1 ∷ more → instance (t ∷ u ∷ []) c ≡ part → AreTermsTo c part (t ∷ u ∷ [])
terms_of_two c part t u more wide has gives = record { many = sym wide; gives = gives; rest = occurs }
  where
    occurs : (n : ℕ) → n < width c → ¬ Contains (variables c) n → slice_get (t ∷ u ∷ []) n ≡ Some (Var 0)
    occurs zero h absent = absurd (absent (subst (λ ns. Contains ns 0) (sym has) (0, omega arith, refl)))
    occurs (suc zero) h absent = absurd (absent (subst (λ ns. Contains ns 1) (sym has) (1, omega arith, refl)))
    occurs (suc (suc n)) h absent = absurd (omega (arith, h, wide))
