-- The record of a run that has ended.
use Rattle.std.proofs.Common.{◌≡◌, ◌∙◌, sym, ap, subst, refl, ℕ, List, [], ◌∷◌, length, map, Option, Some, inl, true}
use Rattle.std.specs.List.{AllZip, AllByRecursion}
use Rattle.std.proofs.lemmas.List.Elements.{recursion_from_All}
use Rattle.sc_term.specs.declared.Line.{Line}
use Rattle.sc_term.specs.Proof.{IsProof}
use Rattle.sc_term.specs.Refuted.{IsRefuted}
use Rattle.sc_steps.specs.Splice.{IsSplice}
use Rattle.sc_input_rules.specs.Problem.{Stated}
use Rattle.sc_input_rules.specs.WellFormed.{IsProblem}
use Rattle.sc_interp.specs.declared.plain.VersionName.{VersionName}
use Rattle.sc_interp.specs.Versions.{ClaimedStructure}
use Rattle.sc_core_laws.specs.TrueRows.{IsTrueRow}
use Rattle.sc_core_laws.proofs.InTime.{leaves_in_time}
use Rattle.sc_core_laws.proofs.RowsTrue.{rows_are_true}
use Rattle.sc_core_rules.specs.declared.row.GivenRow.{GivenRow}
use Rattle.sc_core_rules.specs.declared.row.KeptRow.{KeptRow}
use Rattle.sc_core_rules.specs.declared.row.Outcome.{Outcome}
use Rattle.sc_core_rules.specs.declared.row.Outcome.TheVariants as outcome
use Rattle.sc_core_rules.specs.Selection.{Seen, IsGuide, ratio}
use Rattle.sc_core_rules.specs.Turn.{Run}
use Rattle.sc_core_rules.specs.Run.{IsRun, Grow, looks_of}
use Rattle.sc_text_run_rules.specs.declared.run.FinderEnd.{FinderEnd}
use Rattle.sc_text_run_rules.specs.declared.run.MarkRow.{MarkRow}
use Rattle.sc_text_run_rules.specs.declared.run.RunText.{RunText}
use Rattle.sc_text_run_rules.specs.RunValue.{VersionValue, RunValue, version_value, run_value}
use Rattle.sc_core.specs.State.{ProverState, looks_led, IsReached}
use Rattle.sc_worker.specs.declared.plan.Plan.{Plan}
use Rattle.sc_worker.specs.FinderList.{versions_of}
use Rattle.sc_worker.specs.Choosing.{Choice, at_first}
use Rattle.sc_worker.specs.Plans.{size_of_finder}
use Rattle.sc_worker.proofs.FinderLaws.{IsPublished, finder_publishes}
use Rattle.sc_world.specs.Printed.{printed, all_printed}
use Rattle.sc_world.specs.Recorded.{IsTold, AreMarks, TellsEnd, LeaveInTime, Tells, IsRecord}
use Rattle.sc_world.specs.Steps.{IsEnd}
use Rattle.sc_world.specs.Underway.{IsUnderway}
use Rattle.sc_world.proofs.LookLaws.{lengths_each, looks_front, looks_grow}
use Rattle.sc_world.proofs.InlineLaws.{is_inline}

-- ---- versions

-- versions of one size over the problem's symbols, whose claims are input clauses
abbrev pub IsPublishedList : Stated → List ClaimedStructure → Type 0
IsPublishedList problem versions = (size : ℕ) × AllByRecursion (IsPublished problem size) versions

module _ (problem : Stated) where
  told_list : (size : ℕ) (versions : List ClaimedStructure) → AllByRecursion (IsPublished problem size) versions → AllZip (IsTold problem) (map printed versions) versions
  told_list size [] h = tt
  told_list size (v ∷ versions) h = (
    record { version = (h.0).version; over = (h.0).over; size = refl; entries = refl; numbers = refl; clauses = (h.0).inputs },
    told_list size versions h.1,
  )

  told_lists : (lists : Seen) → AllByRecursion (IsPublishedList problem) lists → AllZip (AllZip (IsTold problem)) (all_printed lists) lists
  told_lists [] h = tt
  told_lists (versions ∷ lists) h = (told_list h.0.0 versions h.0.1, told_lists lists h.1)

-- ---- the proof

module _ (problem : Stated) (versions : Seen) (run : Run) (o : Outcome) where
  -- the marks are in the guide, of lines that are these
  pub tells_marked : (lines : List Line) (rows : List MarkRow) → o ≡ outcome.Proof → (goal : ℕ) × (run.goal ≡ Some goal) × IsSplice problem.inputs run.book.derived goal lines
      → IsProof problem.inputs lines → IsRefuted problem.inputs → (marked : List Line) → marked ≡ lines
      → (name : VersionName) × (v : ClaimedStructure) × IsGuide problem versions name v × AreMarks name v marked rows → TellsEnd problem versions run o lines rows
  tells_marked lines rows is found proof refuted marked same marks = inl (
    is,
    record {
      goal = found.0;
      found = found.1;
      splice = found.2;
      proof = proof;
      refuted = refuted;
      name = marks.0;
      guide = marks.1;
      guides = marks.2;
      marks = subst (λ (ls : List Line). AreMarks marks.0 marks.1 ls rows) same marks.3;
    },
  )

-- ---- all of it

module _ (problem : Stated) (versions : Seen) (run : Run) (o : Outcome) (ended : run.ended ≡ Some o) (such : IsProblem problem) (reached : IsReached problem versions run) where
  over_all : IsRun problem (looks_of run.given versions) run
  over_all = subst (λ (e : Option Outcome). IsRun problem (looks_led e run.given versions) run) ended reached.is_run

  in_time : LeaveInTime problem versions run.given run.book.kept
  in_time n t put turn = leaves_in_time problem (looks_of run.given versions) run n t over_all put turn

  pub is_told : AllByRecursion (IsPublishedList problem) versions → (text : RunValue) → text.lists ≡ all_printed versions → text.ratio ≡ ratio problem
      → text.given ≡ run.given → text.kept ≡ run.book.kept → text.outcome ≡ o → TellsEnd problem versions run o text.proof text.marks → Tells problem versions text
  is_told published text lists ratio given kept outcome proof = record {
    run = run;
    is_run = subst (λ (rows : List GivenRow). IsRun problem (looks_of rows versions) run) (sym given) over_all;
    grow = subst (λ (rows : List GivenRow). Grow (looks_of rows versions)) (sym given) (looks_grow versions run.given reached.grow);
    lists = subst (λ (l : List (List VersionValue)). AllZip (AllZip (IsTold problem)) l versions) (sym lists) (told_lists problem versions published);
    ratio = ratio;
    given = given;
    true_rows = subst (AllByRecursion (IsTrueRow problem versions run.book)) (sym given)
        (rows_are_true problem versions (looks_of run.given versions) run such (looks_front versions run.given reached.told) over_all);
    lengths = subst (AllByRecursion (λ (row : GivenRow). length row.lengths ≡ length versions)) (sym given) (lengths_each versions run.given reached.told);
    kept = kept;
    outcome = ended ∙ ap Some (sym outcome);
    proof = subst (λ (p : Outcome). TellsEnd problem versions run p text.proof text.marks) (sym outcome) proof;
    in_time = subst (λ (rows : List GivenRow). LeaveInTime problem versions rows text.kept) (sym given)
        (subst (λ (rows : List KeptRow). LeaveInTime problem versions run.given rows) (sym kept) in_time);
  }

-- the record of a run under way that has ended, by its parts
pub is_record : (problem : Stated) (plan : Plan) (prover : ProverState) (choice : Choice) → IsUnderway (at_first problem plan 1) prover choice
    → IsProblem prover.problem → (prover.whole ≡ true → IsReached prover.problem prover.seen prover.run) → (o : Outcome) → prover.run.ended ≡ Some o
    → (text : RunText) (lines : List Line) (rows : List MarkRow) → TellsEnd prover.problem prover.seen prover.run o lines rows
    → text.ratio ≡ ratio problem → map (map version_value) text.lists ≡ all_printed prover.seen → text.given ≡ prover.run.given → text.kept ≡ prover.run.book.kept
    → ((end : FinderEnd) × IsEnd choice end × (text.ends ≡ end ∷ [])) → text.outcome ≡ o → text.proof ≡ lines → text.marks ≡ rows
    → IsRecord problem plan prover.seen (run_value text)
is_record problem plan prover choice h such reached o ended text lines rows told ratio_is lists given kept ends outcome proof marks = record {
  list = versions_of h.answers;
  one = h.sees;
  tells = is_told problem prover.seen prover.run o ended well_formed
      (subst (λ (p : Stated). IsReached p prover.seen prover.run) h.same (reached h.whole))
      (subst (AllByRecursion (IsPublishedList problem)) (sym h.sees) ((size_of_finder plan 1, published), tt))
      (run_value text) lists ratio_is given kept outcome
      (subst (λ (p : Stated). TellsEnd p prover.seen prover.run o text.proof text.marks) h.same
      (subst (λ (l : List Line). TellsEnd prover.problem prover.seen prover.run o l text.marks) (sym proof)
      (subst (λ (m : List MarkRow). TellsEnd prover.problem prover.seen prover.run o lines m) (sym marks) told)));
  inline = is_inline problem plan prover choice h o ended (run_value text) given outcome ends;
}
  where
    well_formed : IsProblem problem
    well_formed = subst IsProblem h.same such

    published : AllByRecursion (IsPublished problem (size_of_finder plan 1)) (versions_of h.answers)
    published = recursion_from_All (IsPublished problem (size_of_finder plan 1)) (versions_of h.answers) (finder_publishes problem plan 1 h.worked h.answers well_formed h.finds)
