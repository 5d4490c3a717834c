-- A turn keeps the derived clauses, with their numbers.
use Rattle.std.proofs.Common.{◌≡◌, ◌∙◌, sym, ap, subst, refl, ℕ, ◌+◌, inl, inr, List, [], ◌∷◌, ◌++◌, append_assoc, length, map, Some}
use Rattle.std.proofs.lemmas.List.{append-nil, map-append}
use Rattle.sc_term.specs.declared.Clause.{Clause}
use Rattle.sc_term.specs.declared.Line.{Line}
use Rattle.sc_term.specs.declared.Numbered.{Numbered}
use Rattle.sc_term.specs.Numbering.{numbered}
use Rattle.sc_steps.specs.declared.derivations.derivation.Derived.{Derived}
use Rattle.sc_steps.proofs.LineLaws.{number_in_whole}
use Rattle.sc_input_rules.specs.Problem.{Stated}
use Rattle.sc_core_rules.specs.declared.fate.Processed.{Processed}
use Rattle.sc_core_rules.specs.Book.{Book, next_number, numbered_clauses}
use Rattle.sc_core_rules.specs.Processing.{with_kept, Sweeps, Keeps, MeetsFate, Processes}
use Rattle.sc_core_rules.specs.Selection.{Seen}
use Rattle.sc_core_rules.specs.Sites.{Site}
use Rattle.sc_core_rules.specs.WorkList.{Item, Finish, Works, done, too_many, nothing, found, goes_on}
use Rattle.sc_core_rules.specs.Turn.{Run, Infer, Turns, IsPassedOver, with_given}
use Rattle.sc_core_rules.specs.Run.{IsPrefixOf}
use Rattle.sc_core_rules.proofs.ProcessLaws.{Becomes}
use Rattle.sc_core_rules.proofs.SoundLaws.{StandsIn}
use Rattle.sc_core_rules.proofs.SoundProcessing.{where_either}

-- the derived clauses of the one book come first among those of the other
abbrev Extends : Book → Book → Type 0
Extends old new = IsPrefixOf old.derived new.derived

same_derived : (old new : Book) → new.derived ≡ old.derived → Extends old new
same_derived old new e = ([], append-nil old.derived ∙ sym e)

stays : (old new : Book) → new ≡ old → Extends old new
stays old new e = same_derived old new (ap (λ (b : Book). b.derived) e)

further : (old mid new : Book) → Extends old mid → Extends mid new → Extends old new
further old mid new h k = (h.0 ++ k.0, sym (append_assoc old.derived h.0 k.0) ∙ ap (λ (ds : List Derived). ds ++ k.0) h.1 ∙ k.1)

one_derived : (old new : Book) (c : Clause) (lines : List Line) → new.derived ≡ old.derived ++ record { clause = c; lines = lines } ∷ [] → Extends old new
one_derived old new c lines e = (record { clause = c; lines = lines } ∷ [], sym e)

module _ (problem : Stated) where
  module _ (old : Book) (c : Clause) (lines : List Line) (turn : ℕ) (new : Book) (out : Processed) where
    abbrev n : Numbered
    n = record { number = next_number problem old; clause = c }

    abbrev kept : Book
    kept = with_kept problem old c lines turn

    sweeps_extend : Sweeps problem kept n new out → Extends old new
    sweeps_extend h = by h.becomes
      where
        by : Becomes problem kept n new h.subsumed h.rewritten → Extends old new
        by (inl k) = one_derived old new c lines (ap (λ (b : Book). b.derived) k.1.1)
        by (inr k) = one_derived old new c lines (ap (λ (b : Book). b.derived) k.1.1)

    keeps_extend : Keeps problem kept n new out → Extends old new
    keeps_extend = where_either
        (λ k.
        further old kept new (one_derived old kept c lines refl) (one_derived kept new k.1.clause k.1.lines (ap (λ (b : Book). b.derived) k.4)))
        sweeps_extend

    meets_extend : MeetsFate problem old c lines turn new out → Extends old new
    meets_extend = where_either (λ h. one_derived old new c lines (ap (λ (b : Book). b.derived) h.0))
        (where_either (λ h. stays old new h.0)
        (where_either (λ h. stays old new h.0)
        (where_either (λ h. stays old new h.0)
        (where_either (λ h. stays old new h.2.0)
        keeps_extend))))

  processes_extend : (old : Book) (lines : List Line) (turn : ℕ) (new : Book) (out : Processed) → Processes problem old lines turn new out → Extends old new
  processes_extend old lines turn new out h = meets_extend old h.clause h.simplified turn new out h.fated

  works_extend : (turn : ℕ) (given : Numbered) (usable : List Numbered) (passed : Site → Type 0) (n : ℕ) (book new : Book) (items : List Item) (f : Finish)
      → Works problem turn given usable passed n book items new f → Extends book new
  works_extend turn given usable passed n book new items f done = stays book book refl
  works_extend turn given usable passed n book new items f too_many = stays book book refl
  works_extend turn given usable passed n book new items f (nothing h w) = works_extend turn given usable passed _ book new _ f w
  works_extend turn given usable passed n book new items f (found m o gives p e) = processes_extend book m.lines turn new o p
  works_extend turn given usable passed n book new items f (goes_on {mid = mid} m o gives p e w) =
      further book mid new (processes_extend book m.lines turn mid o p) (works_extend turn given usable passed _ mid new _ f w)

  infer_extends : (turn : ℕ) (old : Run) (seen : Seen) (new : Run) → Infer problem turn old seen new → Extends old.book new.book
  infer_extends turn old seen new h =
      subst (λ (r : Run). Extends old.book r.book) (sym h.goes_to)
      (works_extend turn h.given (with_given old.book h.given).usable IsPassedOver 100000 (with_given old.book h.given) h.book _ h.finish h.works)

  turns_extend : (old : Run) (seen : Seen) (new : Run) → Turns problem old seen new → Extends old.book new.book
  turns_extend old seen new =
      where_either (λ h. same_derived old.book new.book (ap (λ (r : Run). r.book.derived) h))
      (where_either (λ h. same_derived old.book new.book (ap (λ (r : Run). r.book.derived) h))
      (where_either (λ h. same_derived old.book new.book (ap (λ (r : Run). r.book.derived) h))
      (infer_extends (length old.given + 1) old seen new)))

  -- a clause that has a number has it still
  pub still_stands : (old : Run) (seen : Seen) (new : Run) → Turns problem old seen new → (p : Numbered) → StandsIn problem old.book p → StandsIn problem new.book p
  still_stands old seen new turn p h =
      let more = turns_extend old seen new turn in
      let clauses : numbered_clauses problem old.book ++ map (λ (d : Derived). d.clause) more.0 ≡ numbered_clauses problem new.book =
      append_assoc problem.inputs (map (λ (d : Derived). d.clause) old.book.derived) (map (λ (d : Derived). d.clause) more.0)
      ∙ ap (λ (cs : List Clause). problem.inputs ++ cs) (sym (map-append (λ (d : Derived). d.clause) old.book.derived more.0))
      ∙ ap (λ (ds : List Derived). problem.inputs ++ map (λ (d : Derived). d.clause) ds) more.1 in
      subst (λ (cs : List Clause). numbered cs p.number ≡ Some p.clause) clauses (number_in_whole (numbered_clauses problem old.book) (map (λ (d : Derived). d.clause) more.0) p.number p.clause h)
