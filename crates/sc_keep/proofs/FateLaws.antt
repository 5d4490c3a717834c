-- A dropped conclusion meets its fate, and another is kept.
use Rattle.std.proofs.Common.{◌≡◌, sym, refl, ℕ, inl, inr, List, [], Bool, true, Option, Some, None}
use Rattle.std.specs.Prelude.{MatchOption}
use Rattle.sc_term.specs.declared.Numbered.{Numbered}
use Rattle.sc_term.specs.Subsumption.{Subsumes}
use Rattle.sc_keep.specs.Least.{IsLeastNumber}
use Rattle.sc_term.specs.declared.Clause.{Clause}
use Rattle.sc_term.specs.declared.Line.{Line}
use Rattle.sc_input_rules.specs.Problem.{Stated}
use Rattle.sc_core_rules.specs.declared.fate.Fate.{Fate}
use Rattle.sc_core_rules.specs.declared.fate.Fate.TheVariants.{Kept, Empty, Taut, Heavy, Long, Subsumed}
use Rattle.sc_core_rules.specs.declared.fate.Processed.{Processed}
use Rattle.sc_core_rules.specs.Book.{Book, live, next_number}
use Rattle.sc_core_rules.specs.Processing.{only_fate, with_kept, Keeps, MeetsFate}
use Rattle.sc_keep.specs.Dropping.{IsDropped, IsSubsumed, IsSubsumedBy}

module _ (problem : Stated) (old : Book) (c : Clause) (lines : List Line) (turn : ℕ) (some : ¬ (c.literals ≡ [])) where
  pub dropped_meets : (fate : Fate) → IsDropped problem.flags problem.params (live old) c (Some fate) → MeetsFate problem old c lines turn old (only_fate fate)
  dropped_meets Taut h = inr (some, inl (h, (refl, refl)))
  dropped_meets Heavy h = inr (some, inr (h.0, inl (h.1, (refl, refl))))
  dropped_meets Long h = inr (some, inr (h.0, inr (h.1, inl (h.2, (refl, refl)))))
  dropped_meets (Subsumed k) h =
      let m = h.3.1.0 in
      inr (some, inr (h.0, inr (h.1, inr (h.2, inl ((h.3.0, (m, h.3.1.1.listed, h.3.1.1.holds)), (m, h.3.1.1, (refl, λ i. only_fate (Subsumed (sym h.3.1.2 i)))))))))
  dropped_meets (Kept k) h = absurd h
  dropped_meets (Empty k) h = absurd h

  pub kept_meets : (new : Book) (out : Processed) → IsDropped problem.flags problem.params (live old) c None
      → Keeps problem (with_kept problem old c lines turn) (record { number = next_number problem old; clause = c }) new out → MeetsFate problem old c lines turn new out
  kept_meets new out h keeps = inr (some, inr (h.0, inr (h.1, inr (h.2, inr (h.3, keeps)))))

-- what the search among the live clauses tells, where it is asked for
pub told_subsumer : (for_sub : Bool) (ps : List Numbered) (c : Clause) → for_sub ≡ true → (found : Option ℕ) → IsLeastNumber (λ p. Subsumes p.clause c) ps found
    → MatchOption found (¬ IsSubsumed for_sub ps c) (IsSubsumedBy for_sub ps c)
told_subsumer for_sub ps c asked None h = λ k. h k.1.0 k.1.1 k.1.2
told_subsumer for_sub ps c asked (Some n) h = (asked, h)
