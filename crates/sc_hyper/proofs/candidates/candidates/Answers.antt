use Rattle.std.proofs.Common.{◌≡◌, ◌∙◌, sym, subst, ◌+◌, List, [], length, arith}
use Rattle.std.proofs.lemmas.List.Elements.{All-contains}
use Rattle.std.proofs.lemmas.List.{length-map}
use Rattle.std.specs.Borrow.{Bor}
use Rattle.sc_term.specs.declared.Numbered.{Numbered}
use Rattle.sc_resolve.specs.ByNumber.{seen}
use Rattle.sc_resolve.specs.Extending.{Extends, Below}
use Rattle.sc_resolve.specs.Kept.{IsKept}
use Rattle.sc_resolve.proofs.KeptLaws.{kept_length}
use Rattle.sc_resolve.proofs.OrderLaws.{seen_at, all_at}
use Rattle.sc_resolve.proofs.LiteralLaws.{contains_at}
use Rattle.sc_core_rules.specs.Hyperresolution.{IsPositive}
use Rattle.sc_hyper.specs.declared.candidates.Candidate.{Candidate}
use Rattle.sc_hyper.specs.Candidates.{candidate_numbers, IsOfUsable}
use Rattle.sc_hyper.proofs.ExtendingLaws.{further}
use Rattle.sc_hyper.proofs.CandidateLaws.{of_usable_rise, with_electron, no_electron, all_positive, not_all_positive, are_candidates}
use Rattle.sc_hyper.proofs.candidates.candidates.Goals as goal
use Rattle.sc_hyper.proofs.candidates.candidates.Goals.{then-is_positive+in_ok-add_of_electron, else-is_positive}

pub loop-electron-preserved : goal.loop-electron-preserved
loop-electron-preserved c =
    let usable = seen c.args.usable.now in
    let at = c.loop-electron.electron-index in
    let e = c.electron-item.result.now in
    let there = seen_at c.args.usable.now at c.electron-item.result c.loop-electron-test.true c.electron-item.is in
    elim c.if-is_positive.branch [
      | then-is_positive+in_ok-add_of_electron w ↦
          subst (λ (fs : List Candidate). Extends candidate_numbers (Below (IsOfUsable IsPositive usable) (at + 1)) (length fs + 1) [] fs) (sym w.found-is)
          (further candidate_numbers (IsOfUsable IsPositive usable) (of_usable_rise IsPositive usable c.requires.rising) at [] c.loop-electron.found w.add_of_electron.new.found c.loop-electron.invariant
          (with_electron IsPositive usable at e there (all_positive e.clause (sym c.is_positive.ensures ∙ w.if-is_positive.true)) (length w.add_of_electron.new.found + 1) c.loop-electron.found w.add_of_electron.new.found
          w.in_ok-add_of_electron.ensures))
      | else-is_positive w ↦
          subst (λ (fs : List Candidate). Extends candidate_numbers (Below (IsOfUsable IsPositive usable) (at + 1)) (length fs + 1) [] fs) (sym w.found-is)
          (further candidate_numbers (IsOfUsable IsPositive usable) (of_usable_rise IsPositive usable c.requires.rising) at [] c.loop-electron.found c.loop-electron.found c.loop-electron.invariant
          (no_electron IsPositive usable at e there (not_all_positive e.clause (sym c.is_positive.ensures ∙ w.if-is_positive.false)) (length c.loop-electron.found + 1) c.loop-electron.found))
    ]

pub add_of_electron-requires-clause-few : goal.add_of_electron-requires-clause-few
add_of_electron-requires-clause-few c =
    let usable = seen c.args.usable.now in
    let at = c.loop-electron.electron-index in
    let e = c.electron-item.result.now in
    let there = seen_at c.args.usable.now at c.electron-item.result c.loop-electron-test.true c.electron-item.is in
    kept_length e.clause (All-contains (λ (p : Numbered). IsKept p.clause) usable e c.requires.kept (contains_at usable at e there))

pub returns : goal.returns
returns c =
    let usable = seen c.args.usable.now in
    let long : c.loop-electron.electron-index ≡ length usable = omega (arith, c.loop-electron.auto.electron-index-end, length-map c.args.usable.now (λ (p : Bor Numbered). p.now)) in
    are_candidates IsPositive usable c.loop-electron.found
    (subst (λ n. Extends candidate_numbers (Below (IsOfUsable IsPositive usable) n) (length c.loop-electron.found + 1) [] c.loop-electron.found) long c.loop-electron.invariant)

pub add_of_electron-requires-clause-kept : goal.add_of_electron-requires-clause-kept
add_of_electron-requires-clause-kept c =
    all_at (λ p. IsKept p.clause) c.args.usable.now c.loop-electron.electron-index c.electron-item.result c.loop-electron-test.true c.electron-item.is c.requires.kept
