-- Whether terms and clauses have a redex.
use Rattle.std.proofs.Common.{◌≡◌, ◌∙◌, sym, subst, refl, ℕ, ◌+◌, ◌<◌, ◌↔◌, List, [], ◌∷◌, length, get_or, Result, Ok, Err, Option, Some, None, IfOk, MatchOption, Bool, true, false, IsTrue, true≢false, arith}
use Rattle.std.specs.Option.{is_some}
use Rattle.std.specs.List.{AllWithin}
use Rattle.sc_term.specs.declared.SymId.{SymId}
use Rattle.sc_term.specs.declared.Term.{Term}
use Rattle.sc_term.specs.declared.Term.TheVariants.{App}
use Rattle.sc_term.specs.declared.Literal.{Literal}
use Rattle.sc_term.specs.declared.Clause.{Clause}
use Rattle.sc_term.specs.declared.Numbered.{Numbered}
use Rattle.sc_term.specs.Path.{IsSubtermAt}
use Rattle.sc_term.proofs.TermLaws.{App-injective}
use Rattle.sc_core_rules.specs.Rewriting.{Fits, HasRedex}
use Rattle.sc_demod.specs.declared.fit.Fit.{Fit}
use Rattle.sc_demod.specs.Fitting.{IsFirstFit, FitsNone}
use Rattle.sc_demod.specs.Finding.{IsWithin, FitsSome, FindsNone, FindsSome}
use Rattle.sc_demod.proofs.FindLaws.{join, number_got, none_in_terms, none_in_literals, no_redex}

module _ (demods : List Numbered) where
  pub finds_none : (At : List ℕ → Term → Type 0) → ¬ FindsSome demods At → FindsNone demods At
  finds_none At h path s there reducible = h (record { path = path; redex = s; there = there; reducible = reducible })

  pub finds_no_more : (At : List ℕ → Term → Type 0) → FindsNone demods At → ¬ FindsSome demods At
  finds_no_more At none h = none h.path h.redex h.there h.reducible

  -- ---- one term

  pub fits_first : (s : Term) (place : ℕ) (terms : List Term) → IsFirstFit demods s place terms → FitsSome demods s
  fits_first s place terms h = (h.demodulator, (place, h.within, sym h.there), (h.fit.left, h.fit.right, terms, h.fit.equates, h.fit.equal))

  pub fits_no_more : (s : Term) → FitsNone demods s → ¬ FitsSome demods s
  fits_no_more s none h = none h.1.0 h.0 (omega arith) h.1.1 (subst (λ d. Fits d s) (sym h.1.2) h.2)

  pub fits_or_not : (s : Term) (found : Option Fit) (has : Bool) → has ≡ is_some found → MatchOption found (FitsNone demods s) (λ f. IsFirstFit demods s f.place f.terms)
      → IsTrue has ↔ FitsSome demods s
  fits_or_not s None has e h = (λ yes. absurd (true≢false (sym yes ∙ e)), λ some. absurd (fits_no_more s h some))
  fits_or_not s (Some f) has e h = (λ yes. fits_first s f.place f.terms h, λ some. e)

  -- ---- a term from its arguments

  pub some_here : (t : Term) (f : SymId) (args : List Term) → t ≡ App f args → FitsSome demods t → FindsSome demods (IsWithin t)
  some_here t f args e h = record { path = []; redex = t; there = refl; reducible = ((f, args, e), h) }

  pub none_here : (t : Term) (f : SymId) (args : List Term) → t ≡ App f args → ¬ FindsSome demods (IsSubtermAt args) → ¬ FitsSome demods t → ¬ FindsSome demods (IsWithin t)
  none_here t f args e below here h = by h.path h.there
    where
      by : (path : List ℕ) → IsWithin t path h.redex → ⊥
      by [] there = here (subst (FitsSome demods) (sym there) h.reducible.1)
      by (i ∷ path) there = below (record {
        path = i ∷ path;
        redex = h.redex;
        there = subst (λ us. IsSubtermAt us (i ∷ path) h.redex) (App-injective there.0 f there.1 args (sym there.2 ∙ e)).1 there.3;
        reducible = h.reducible;
      })

  -- the answer at the term itself, where its arguments have no redex
  pub here_or_not : {E : Type 0} (r : Result Bool E) (t : Term) (f : SymId) (args : List Term) → t ≡ App f args → ¬ FindsSome demods (IsSubtermAt args)
      → IfOk r (λ has. IsTrue has ↔ FitsSome demods t) → IfOk r (λ has. IsTrue has ↔ FindsSome demods (IsWithin t))
  here_or_not (Err x) t f args e none h = tt
  here_or_not (Ok has) t f args e none h = (λ yes. some_here t f args e (h.0 yes), λ some. by has h some)
    where
      by : (has : Bool) → (IsTrue has ↔ FitsSome demods t) → FindsSome demods (IsWithin t) → IsTrue has
      by true h some = refl
      by false h some = absurd (none_here t f args e none (λ fits. true≢false (sym (h.1 fits))) some)

  -- ---- arguments

  pub some_at : (args : List Term) (i : ℕ) (t : Term) → i < length args → t ≡ get_or args i t → FindsSome demods (IsWithin t) → FindsSome demods (IsSubtermAt args)
  some_at args i t less at h = record {
    path = (i + 1) ∷ h.path;
    redex = h.redex;
    there = join args (i + 1) h.path h.redex t (number_got args i t less at) h.there;
    reducible = h.reducible;
  }

  pub none_at_any : (args : List Term) → AllWithin (λ t. ¬ FindsSome demods (IsWithin t)) args 0 (length args) → ¬ FindsSome demods (IsSubtermAt args)
  none_at_any args all = finds_no_more (IsSubtermAt args) (none_in_terms demods args (λ k t low high. finds_none (IsWithin (get_or args k t)) (all k t low high)))

-- ---- clauses

module _ (c : Clause) (d : Numbered) where
  pub clause_has : (i : ℕ) (l : Literal) → i < length c.literals → l ≡ get_or c.literals i l → FindsSome (d ∷ []) (IsSubtermAt l.args) → HasRedex c d
  clause_has i l less at h = (
    i + 1,
    h.path,
    h.redex,
    record {
      literal = l;
      literal_there = number_got c.literals i l less at;
      subterm = h.there;
      compound = h.reducible.0;
      demodulator = h.reducible.1.0;
      listed = h.reducible.1.1;
      fits = h.reducible.1.2;
    },
  )

  pub clause_has_none : AllWithin (λ (l : Literal). ¬ FindsSome (d ∷ []) (IsSubtermAt l.args)) c.literals 0 (length c.literals) → ¬ HasRedex c d
  clause_has_none all h = no_redex (d ∷ []) c (none_in_literals (d ∷ []) c.literals (λ k l low high. finds_none (d ∷ []) (IsSubtermAt ((get_or c.literals k l).args)) (all k l low high))) h.0 h.1 h.2 h.3
