-- What one conclusion may add.
use Rattle.std.proofs.Common.{◌≡◌, ap, ℕ, ◌+◌, ◌≤◌, inl, inr, List, [], ◌∷◌, ◌++◌, length, arith}
use Rattle.std.proofs.lemmas.List.{length-append}
use Rattle.sc_term.specs.declared.Clause.{Clause}
use Rattle.sc_term.specs.declared.Line.{Line}
use Rattle.sc_term.specs.declared.Numbered.{Numbered}
use Rattle.sc_steps.specs.declared.derivations.derivation.Derived.{Derived}
use Rattle.sc_input_rules.specs.Problem.{Stated}
use Rattle.sc_core_rules.specs.declared.fate.Processed.{Processed}
use Rattle.sc_core_rules.specs.Book.{Book, next_number, with_derived}
use Rattle.sc_core_rules.specs.Processing.{with_kept, Sweeps, Keeps, MeetsFate, Processes}
use Rattle.sc_core_rules.proofs.ProcessLaws.{Becomes}
use Rattle.sc_core_rules.proofs.SoundProcessing.{where_either}

-- at most two clauses are derived
abbrev DerivesFew : Book → Book → Type 0
DerivesFew old new = length new.derived ≤ length old.derived + 2

one_longer : (ds : List Derived) (d : Derived) → length (ds ++ d ∷ []) ≡ length ds + 1
one_longer ds d = length-append ds (d ∷ [])

same_length : (old new : Book) → new ≡ old → DerivesFew old new
same_length old new e = let count : length new.derived ≡ length old.derived = ap (λ (b : Book). length b.derived) e in omega (arith, count)

module _ (problem : Stated) where
  module _ (old : Book) (c : Clause) (lines : List Line) (turn : ℕ) (new : Book) (out : Processed) where
    abbrev n : Numbered
    n = record { number = next_number problem old; clause = c }

    kept_longer : length (with_kept problem old c lines turn).derived ≡ length old.derived + 1
    kept_longer = one_longer old.derived (record { clause = c; lines = lines })

    -- the lists play no part in what is derived
    kept_alone : new.derived ≡ (with_kept problem old c lines turn).derived → DerivesFew old new
    kept_alone e =
        let count : length new.derived ≡ length (with_kept problem old c lines turn).derived = ap (λ (ds : List Derived). length ds) e in
        let longer = kept_longer in
        omega (arith, count, longer)

    sweeps_few : Sweeps problem (with_kept problem old c lines turn) n new out → DerivesFew old new
    sweeps_few h = by h.becomes
      where
        by : Becomes problem (with_kept problem old c lines turn) n new h.subsumed h.rewritten → DerivesFew old new
        by (inl k) = kept_alone (ap (λ (b : Book). b.derived) k.1.1)
        by (inr k) = kept_alone (ap (λ (b : Book). b.derived) k.1.1)

    keeps_few : Keeps problem (with_kept problem old c lines turn) n new out → DerivesFew old new
    keeps_few = where_either
        (λ k.
        let count : length new.derived ≡ length (with_derived (with_kept problem old c lines turn) k.1.clause k.1.lines).derived = ap (λ (b : Book). length b.derived) k.4 in
        let second = one_longer (with_kept problem old c lines turn).derived (record { clause = k.1.clause; lines = k.1.lines }) in
        let longer = kept_longer in
        omega (arith, count, second, longer))
        sweeps_few

    meets_few : MeetsFate problem old c lines turn new out → DerivesFew old new
    meets_few = where_either
        (λ h.
        let count : length new.derived ≡ length (with_derived old c lines).derived = ap (λ (b : Book). length b.derived) h.0 in
        let longer = one_longer old.derived (record { clause = c; lines = lines }) in
        omega (arith, count, longer))
        (where_either (λ h. same_length old new h.0)
        (where_either (λ h. same_length old new h.0)
        (where_either (λ h. same_length old new h.0)
        (where_either (λ h. same_length old new h.2.0)
        keeps_few))))

  pub processes_few : (old : Book) (lines : List Line) (turn : ℕ) (new : Book) (out : Processed) → Processes problem old lines turn new out
      → length new.derived ≤ length old.derived + 2
  processes_few old lines turn new out h = meets_few old h.clause h.simplified turn new out h.fated
