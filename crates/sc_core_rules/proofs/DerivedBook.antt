-- Every clause that the search derives follows by its derivation from the clauses of smaller number.
use Rattle.std.proofs.Common.{◌≡◌, sym, ap, subst, ℕ, ◌⊎◌, inl, inr, List, [], ◌∷◌, Some}
use Rattle.std.specs.List.{Contains}
use Rattle.sc_term.specs.declared.Clause.{Clause}
use Rattle.sc_term.specs.declared.Line.{Line}
use Rattle.sc_term.specs.declared.Numbered.{Numbered}
use Rattle.sc_term.specs.Numbering.{numbered}
use Rattle.sc_term.specs.Proof.{AreSteps}
use Rattle.sc_steps.specs.declared.derivations.derivation.Derived.{Derived}
use Rattle.sc_steps.specs.Derivation.{IsDerivedFrom}
use Rattle.sc_steps.proofs.LineLaws.{number_in_whole}
use Rattle.sc_steps.proofs.DerivedLaws.{one_more_derived}
use Rattle.sc_input_rules.specs.Problem.{Stated}
use Rattle.sc_core_rules.specs.declared.fate.Processed.{Processed}
use Rattle.sc_core_rules.specs.Book.{Book, IsSound, IsDerived, numbered_clauses, live, next_number, with_derived}
use Rattle.sc_core_rules.specs.Conflict.{Conflicts}
use Rattle.sc_core_rules.specs.Processing.{with_kept, Sweeps, Keeps, MeetsFate, Processes}
use Rattle.sc_core_rules.proofs.FilterLaws.{in_first, in_second}
use Rattle.sc_core_rules.proofs.CheckLaws.{Stands, AllStand, conclusion_checks, simplified_checks}
use Rattle.sc_core_rules.proofs.Enumerations.{in_two}
use Rattle.sc_core_rules.proofs.ProcessLaws.{Becomes}
use Rattle.sc_core_rules.proofs.SoundLaws.{StandsIn, at, grown, kept_sound, kept_stands}
use Rattle.sc_core_rules.proofs.SoundProcessing.{where_either}

-- the new book's clauses are derived, and each clause that had a number has it still
pub record GoesOn (problem : Stated) (old new : Book) : Type 0 where
  pub derived : IsDerived problem new
  pub grows : (p : Numbered) → StandsIn problem old p → StandsIn problem new p

module _ (problem : Stated) where
  -- ---- one more derived clause

  pub one_more : (old : Book) (c : Clause) (lines : List Line) → IsDerived problem old → IsDerivedFrom (numbered_clauses problem old) (record { clause = c; lines = lines }) → GoesOn problem old (with_derived old c lines)
  one_more old c lines derived from = record {
    derived = one_more_derived problem.inputs old.derived (record { clause = c; lines = lines }) derived from;
    grows = λ p h. subst (λ (cs : List Clause). numbered cs p.number ≡ Some p.clause) (sym (grown problem old c lines)) (number_in_whole (numbered_clauses problem old) (c ∷ []) p.number p.clause h);
  }

  -- the clauses of a sound book stand under their numbers
  pub all_stand : (book : Book) → IsSound problem book → AllStand (numbered_clauses problem book) (live book)
  all_stand book sound p h = at (StandsIn problem book) _ p sound.under_numbers (in_first p (live book) book.demods h)

  pub demods_stand : (book : Book) → IsSound problem book → AllStand (numbered_clauses problem book) book.demods
  demods_stand book sound p h = at (StandsIn problem book) _ p sound.under_numbers (in_second p (live book) book.demods h)

  -- the empty clause of a conflict is derived from its units
  pub conflict_derived : (clauses : List Clause) (n m : Numbered) (made : Derived) → Stands clauses n → Stands clauses m → Conflicts n m made → IsDerivedFrom clauses made
  conflict_derived clauses n m made n_stands m_stands h = conclusion_checks clauses h.inference made (λ p there. by p (in_two n m p (subst (λ ps. Contains ps p) h.parents there))) h.concludes
    where
      by : (p : Numbered) → (n ≡ p) ⊎ (m ≡ p) → Stands clauses p
      by p (inl e) = subst (Stands clauses) e n_stands
      by p (inr e) = subst (Stands clauses) e m_stands

  -- ---- every fate

  module _ (old : Book) (sound : IsSound problem old) (derived : IsDerived problem old) (c : Clause) (lines : List Line) (turn : ℕ)
      (from : IsDerivedFrom (numbered_clauses problem old) (record { clause = c; lines = lines })) where
    abbrev n : Numbered
    n = record { number = next_number problem old; clause = c }

    abbrev kept : Book
    kept = with_kept problem old c lines turn

    -- the kept clause is derived: the lists play no part in it
    kept_goes_on : GoesOn problem old kept
    kept_goes_on = let step = one_more old c lines derived from in record { derived = step.derived; grows = step.grows }

    same_derived : (new : Book) → new.derived ≡ kept.derived → GoesOn problem old new
    same_derived new e = record {
      derived = subst (λ (ds : List Derived). IsDerived problem (record kept { derived = ds })) (sym e) kept_goes_on.derived;
      grows = λ p h. subst (λ (ds : List Derived). StandsIn problem (record kept { derived = ds }) p) (sym e) (kept_goes_on.grows p h);
    }

    sweeps_goes_on : (new : Book) (out : Processed) → Sweeps problem kept n new out → GoesOn problem old new
    sweeps_goes_on new out h = by h.becomes
      where
        by : Becomes problem kept n new h.subsumed h.rewritten → GoesOn problem old new
        by (inl k) = same_derived new (ap (λ (b : Book). b.derived) k.1.1)
        by (inr k) = same_derived new (ap (λ (b : Book). b.derived) k.1.1)

    keeps_goes_on : (new : Book) (out : Processed) → Keeps problem kept n new out → GoesOn problem old new
    keeps_goes_on new out = where_either
        (λ k.
        let kept_is_sound : IsSound problem kept = kept_sound problem old c lines turn sound in
        let step : GoesOn problem kept (with_derived kept k.1.clause k.1.lines) =
        one_more kept k.1.clause k.1.lines kept_goes_on.derived
        (conflict_derived (numbered_clauses problem kept) n k.0 k.1 (kept_stands problem old c lines turn) (all_stand kept kept_is_sound k.0 k.2.listed) k.3) in
        subst (GoesOn problem old) (sym k.4) (record { derived = step.derived; grows = λ p h. step.grows p (kept_goes_on.grows p h) }))
        (sweeps_goes_on new out)

    stays : (new : Book) → new ≡ old → GoesOn problem old new
    stays new e = subst (GoesOn problem old) (sym e) (record { derived = derived; grows = λ p h. h })

    meets_goes_on : (new : Book) (out : Processed) → MeetsFate problem old c lines turn new out → GoesOn problem old new
    meets_goes_on new out = where_either (λ h. subst (GoesOn problem old) (sym h.0) (one_more old c lines derived from))
        (where_either (λ h. stays new h.0)
        (where_either (λ h. stays new h.0)
        (where_either (λ h. stays new h.0)
        (where_either (λ h. stays new h.2.0)
        (keeps_goes_on new out)))))

  -- a conclusion that follows from the book's clauses is processed so that all derived clauses do
  pub processes_goes_on : (old : Book) (lines : List Line) (turn : ℕ) (new : Book) (out : Processed) → IsSound problem old → IsDerived problem old
      → AreSteps (numbered_clauses problem old) lines → Processes problem old lines turn new out → GoesOn problem old new
  processes_goes_on old lines turn new out sound derived steps h =
      let simplified = simplified_checks (numbered_clauses problem old) problem.flags problem.params.demod_limit old.demods (live old) (demods_stand old sound) (all_stand old sound) lines h.simplified h.simplifies steps in
      meets_goes_on old sound derived h.clause h.simplified turn (record { steps = simplified; ends = h.clause_last }) new out h.fated
