-- The end of a derivation in the canonical form.
use Rattle.std.proofs.Common.{◌≡◌, ◌∙◌, sym, ap, subst, refl, ℕ, ◌-◌, ◌<◌, ◌≤◌, inl, inr, List, [], ◌∷◌, ◌++◌, length, get_or, slice_get, Some, None, Option, arith}
use Rattle.std.specs.Prelude.{IsSomeAnd, MatchOption}
use Rattle.std.proofs.lemmas.Option.{slice_get-get_or}
use Rattle.sc_term.specs.declared.Term.{Term}
use Rattle.sc_term.specs.declared.Clause.{Clause}
use Rattle.sc_term.specs.declared.Line.{Line}
use Rattle.sc_term.specs.declared.Step.TheVariants.{Instance}
use Rattle.sc_term.specs.Clause.{IsCanonical, instance, weight, width}
use Rattle.sc_term.specs.JointInstance.{canonical}
use Rattle.sc_term.specs.Numbering.{numbered}
use Rattle.sc_steps.specs.Derivation.{last_clause}
use Rattle.sc_steps.proofs.LineLaws.{number_at, map_some}
use Rattle.sc_core_rules.specs.Order.{Where}
use Rattle.sc_core_rules.specs.Derivation.{Adds, AreTermsTo, EndsCanonical}
use Rattle.sc_keep.specs.Canonical.{IsCanonicalLine}
use Rattle.sc_keep.proofs.WithinLaws.{EndsWithin, each_within}

some_here : {A : Type 0} (o : Option A) (P : A → Type 0) (x : A) → o ≡ Some x → P x → IsSomeAnd o P
some_here o P x e h = subst (λ o. IsSomeAnd o P) (sym e) h

module _ (lines : List Line) (some : 0 < length lines) where
  abbrev last_line : Line → Line
  last_line x = get_or lines (length lines - 1) x

  pub last_read : (x : Line) → last_clause lines ≡ Some (last_line x).clause
  last_read x =
      let there : slice_get lines (length lines - 1) ≡ Some (last_line x) = slice_get-get_or lines (length lines - 1) x (omega (arith, some)) in
      map_some (λ (l : Line). l.clause) (numbered lines (length lines)) (last_line x) (number_at lines (length lines) (last_line x) some there)

  abbrev Ends : List Line → Clause → Type 0
  Ends after c = Where (IsCanonical c) (after ≡ lines) ((terms : List Term) × AreTermsTo c (canonical c) terms × Adds lines (Instance (length lines) terms) after)

  pub stays_canonical : (x : Line) → IsCanonical (last_line x).clause → EndsCanonical lines lines
  stays_canonical x h = some_here (last_clause lines) (Ends lines) (last_line x).clause (last_read x) (inl (h, refl))

  pub goes_canonical : (x : Line) (of : ℕ) (line : Line) (after : List Line) → of ≡ length lines → ¬ IsCanonical (last_line x).clause → IsCanonicalLine (last_line x).clause of line
      → after ≡ lines ++ line ∷ [] → EndsCanonical lines after
  goes_canonical x of line after here h is e =
      let c = (last_line x).clause in
      let follows : IsSomeAnd (last_clause lines) (λ of. (length is.terms ≡ width of) × (line.clause ≡ instance is.terms of)) =
      some_here (last_clause lines) (λ of. (length is.terms ≡ width of) × (line.clause ≡ instance is.terms of)) c (last_read x) (is.are_terms.many, is.clause ∙ sym is.are_terms.gives) in
      some_here (last_clause lines) (Ends after) c (last_read x)
      (inr (h, (is.terms, is.are_terms, (line.clause, follows, e ∙ (λ i. lines ++ record { step = (is.step ∙ ap (λ n. Instance n is.terms) here) i; clause = line.clause } ∷ [])))))

-- what was found of the lines as they were read
abbrev Found : List Line → ℕ → Line → ℕ → Option Line → Type 0
Found seen k x of o = MatchOption o (IsCanonical (get_or seen k x).clause) (λ line. (¬ IsCanonical (get_or seen k x).clause) × IsCanonicalLine (get_or seen k x).clause of line)

pub ends_as_it_is : (seen lines : List Line) (k : ℕ) (x : Line) (of : ℕ) (o : Option Line) → seen ≡ lines → 0 < length lines → k ≡ length lines - 1 → o ≡ None → Found seen k x of o → EndsCanonical lines lines
ends_as_it_is seen lines k x of o same some last none h =
    stays_canonical lines some x (subst (λ (n : ℕ). IsCanonical (get_or lines n x).clause) last (subst (λ (ls : List Line). IsCanonical (get_or ls k x).clause) same (subst (Found seen k x of) none h)))

pub ends_with_line : (seen lines : List Line) (k : ℕ) (x : Line) (of : ℕ) (o : Option Line) (line : Line) (after : List Line) → seen ≡ lines → 0 < length lines → k ≡ length lines - 1 → of ≡ length lines
    → o ≡ Some line → Found seen k x of o → after ≡ lines ++ line ∷ [] → EndsCanonical lines after
ends_with_line seen lines k x of o line after same some last here is h e =
    let found = subst (λ (n : ℕ). Found lines n x of (Some line)) last (subst (λ (ls : List Line). Found ls k x of (Some line)) same (subst (Found seen k x of) is h)) in
    goes_canonical lines some x of line after here found.0 found.1 e

pub last_light : (seen lines : List Line) (k : ℕ) (x : Line) → seen ≡ lines → 0 < length lines → k ≡ length lines - 1 → EndsWithin lines → weight (get_or seen k x).clause ≤ 10000
last_light seen lines k x same some last h =
    let within = each_within lines (get_or lines (length lines - 1) x).clause h (last_read lines some x) in
    subst (λ (ls : List Line). weight (get_or ls k x).clause ≤ 10000) (sym same) (subst (λ (n : ℕ). weight (get_or lines n x).clause ≤ 10000) (sym last) within.light)
