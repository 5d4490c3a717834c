-- What becomes of arguments where a subterm is replaced.
use Rattle.std.proofs.Common.{◌≡◌, ◌∙◌, sym, subst, refl, ℕ, List, [], ◌∷◌, Some}
use Rattle.sc_term.specs.declared.SymId.{SymId}
use Rattle.sc_term.specs.declared.Term.{Term}
use Rattle.sc_term.specs.declared.Term.TheVariants.{App}
use Rattle.sc_term.specs.Numbering.{numbered, with_element}
use Rattle.sc_term.specs.Path.{IsSubtermAt, IsReplaced}
use Rattle.sc_term.proofs.TermLaws.{App-injective}
use Rattle.sc_steps.specs.Replacement.{IsTermReplaced}
use Rattle.sc_core_rules.proofs.StepLaws.{same_some}

pub not_replaced : (args : List Term) (path : List ℕ) (n : ℕ) (rest : List ℕ) (old t : Term) → path ≡ n ∷ rest → Some old ≡ numbered args n
    → ((s new : Term) → ¬ IsTermReplaced old rest s t new) → (s : Term) (new : List Term) → ¬ IsReplaced args path s t new
not_replaced args path n rest old t split there never s new h = by rest never (subst (λ (p : List ℕ). IsReplaced args p s t new) split h)
  where
    by : (rest : List ℕ) → ((s new : Term) → ¬ IsTermReplaced old rest s t new) → ¬ IsReplaced args (n ∷ rest) s t new
    by [] never h = never s t (same_some (numbered args n) old s (sym there) h.0, refl)
    by (j ∷ rest) never h = never s (App h.0 h.2) (h.0, h.1, h.2, same_some (numbered args n) old (App h.0 h.1) (sym there) h.3, h.4, refl)

pub not_within : (old : Term) (f : SymId) (inner : List Term) (path : List ℕ) (t : Term) → old ≡ App f inner → ¬ (path ≡ [])
    → ((s : Term) (new : List Term) → ¬ IsReplaced inner path s t new) → (s new : Term) → ¬ IsTermReplaced old path s t new
not_within old f inner [] t is some never s new h = some refl
not_within old f inner (i ∷ path) t is some never s new h =
    never s h.2 (subst (λ (ts : List Term). IsReplaced ts (i ∷ path) s t h.2) (App-injective h.0 f h.1 inner (sym h.3 ∙ is)).1 h.4)

-- a subterm can be replaced
pub can_replace : (args : List Term) (path : List ℕ) (s t : Term) → IsSubtermAt args path s → (new : List Term) × IsReplaced args path s t new
can_replace args [] s t h = absurd h
can_replace args (i ∷ []) s t h = (with_element args i t, (h, refl))
can_replace args (i ∷ j ∷ path) s t h =
    let below = can_replace h.1 (j ∷ path) s t h.3 in
    (with_element args i (App h.0 below.0), (h.0, h.1, below.0, h.2, below.1, refl))

-- what is replaced is the subterm
pub replaced_is : (args : List Term) (path : List ℕ) (s t : Term) (new : List Term) → IsReplaced args path s t new → IsSubtermAt args path s
replaced_is args [] s t new h = absurd h
replaced_is args (i ∷ []) s t new h = h.0
replaced_is args (i ∷ j ∷ path) s t new h = (h.0, h.1, h.3, replaced_is h.1 (j ∷ path) s t h.2 h.4)
