-- The lines check over the same clauses from step to step, and what the steps give stays within the limits.
use Rattle.std.proofs.Common.{◌≡◌, ◌∙◌, sym, ap, subst, refl, ℕ, ◌-◌, ◌<◌, ◌≤◌, ◌++◌, Bool, true, List, [], length, get_or, Some}
use Rattle.sc_term.specs.declared.Clause.{Clause}
use Rattle.sc_term.specs.declared.Line.{Line}
use Rattle.sc_term.specs.declared.Numbered.{Numbered}
use Rattle.sc_term.specs.declared.Step.TheVariants.{Input}
use Rattle.sc_term.specs.Clause.{IsWithinLimits, weight, depth}
use Rattle.sc_term.specs.Proof.{AreSteps}
use Rattle.sc_steps.specs.Derivation.{last_clause}
use Rattle.sc_steps.proofs.LineLaws.{some_so}
use Rattle.sc_core_rules.specs.Derivation.{EndsCanonical}
use Rattle.sc_core_rules.specs.Order.{With}
use Rattle.sc_core_rules.proofs.FilterLaws.{in_first, in_second}
use Rattle.sc_demod.specs.Standing.{ChecksWith, KeepsChecking}
use Rattle.sc_keep.proofs.CanonicalForm.{ends_with_canonical}
use Rattle.sc_keep.proofs.WithinLaws.{EndsWithin, each_within, canonical_end_within}
use Rattle.sc_keep.proofs.EndLaws.{last_read}
use Rattle.sc_keep.proofs.SimplifyFound.{some_line}

module _ (live demods : List Numbered) where
  pub checks_with_demods : (lines : List Line) → ChecksWith (live ++ demods) lines → ChecksWith demods lines
  checks_with_demods lines h = (h.0, (λ p c. h.1 p (in_second p live demods c)), h.2)

  -- rewritten and turned, the lines check over the same clauses, which have the live ones
  pub still_checks : (lines rewritten turned : List Line) → KeepsChecking demods lines rewritten → ((clauses : List Clause) → AreSteps clauses rewritten → AreSteps clauses turned)
      → ChecksWith (live ++ demods) lines → ChecksWith live turned
  still_checks lines rewritten turned once then_turned h = (
    h.0,
    (λ p c. h.1 p (in_first p live demods c)),
    then_turned h.0 (once h.0 (λ p c. h.1 p (in_second p live demods c)) h.2),
  )

-- ---- the end

pub some_lines_of : (lines : List Line) (c : Clause) → last_clause lines ≡ Some c → 0 < length lines
some_lines_of lines c e = some_line lines (λ d. d ≡ c) (some_so (last_clause lines) (λ d. d ≡ c) c e refl)

pub ends_within : (lines : List Line) (c : Clause) → last_clause lines ≡ Some c → weight c ≤ 10000 → depth c ≤ 256 → EndsWithin lines
ends_within lines c e light shallow = some_so (last_clause lines) (λ c. IsWithinLimits c) c e (record { light = light; shallow = shallow })

-- merged and canonical, the last clause is within the limits
pub finished_within : (merged after : List Line) → EndsCanonical merged after → EndsWithin merged → EndsWithin after
finished_within merged after ends within =
    let some = (ends_with_canonical merged after ends).0 in
    let last = last_read after some (record { step = Input 0; clause = record { literals = [] } }) in
    some_so (last_clause after) (λ c. IsWithinLimits c) _ last (canonical_end_within merged after ends within _ last)

-- the last clause, as it is read and copied
pub made_end : (seen lines : List Line) (k : ℕ) (x : Line) (c : Clause) → seen ≡ lines → 0 < length lines → k ≡ length lines - 1 → c ≡ (get_or seen k x).clause → EndsWithin lines
    → (last_clause lines ≡ Some c) × IsWithinLimits c
made_end seen lines k x c same some last copied within =
    let ends : last_clause lines ≡ Some c = last_read lines some x ∙ (λ i. Some (get_or (sym same i) (sym last i) x).clause) ∙ ap Some (sym copied) in
    (ends, each_within lines c within ends)

-- what is done where it is asked for
pub asked_for : (A B : Type 0) (flag : Bool) → flag ≡ true → A → With flag A B
asked_for A B flag on a = subst (λ f. With f A B) (sym on) a
