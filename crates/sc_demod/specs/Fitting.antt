-- Which demodulator fits a term, and by which terms.
use Rattle.std.specs.Prelude.{◌≡◌, ◌<◌, ℕ, List, length, slice_get, slice_index_or, nat_eq, Some, false}
use Rattle.std.specs.List.{AllWithin, list_any}
use Rattle.sc_term.specs.declared.Term.{Term, Var}
use Rattle.sc_term.specs.declared.Numbered.{Numbered}
use Rattle.sc_term.specs.Term.{term_width, term_variables, term_instance}
use Rattle.sc_core_rules.specs.Rewriting.{IsEquation, Fits}

-- s is the demodulator's left side with these terms in place of its variables, and variable 0 where one doesn't occur
pub record FitsBy (d : Numbered) (s : Term) (terms : List Term) : Type 0 where
  pub left : Term
  pub right : Term
  pub equates : IsEquation d.clause left right
  pub long : length terms ≡ term_width left
  pub equal : s ≡ term_instance terms left
  pub absent : (n : ℕ) → n < term_width left → list_any (nat_eq n) (term_variables left) ≡ false → slice_get terms n ≡ Some (Var 0)

-- the first demodulator of the list that fits s stands at this place
pub record IsFirstFit (demods : List Numbered) (s : Term) (place : ℕ) (terms : List Term) : Type 0 where
  pub within : place < length demods
  pub demodulator : Numbered
  pub there : demodulator ≡ slice_index_or demods place demodulator
  pub fit : FitsBy demodulator s terms
  pub first : AllWithin (λ d. ¬ Fits d s) demods 0 place

-- none of them fits
abbrev pub FitsNone : List Numbered → Term → Type 0
FitsNone demods s = AllWithin (λ d. ¬ Fits d s) demods 0 (length demods)
