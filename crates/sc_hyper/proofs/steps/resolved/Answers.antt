use Rattle.std.proofs.Common.{◌≡◌, ◌+◌, ◌∙◌, sym, ap, subst, ℕ, List, Some, get_or, length, arith}
use Rattle.std.proofs.lemmas.Result.{IfOk-weaker}
use Rattle.std.proofs.lemmas.Option.{slice_get_read, slice_get-get_or}
use Rattle.sc_term.specs.declared.Clause.{Clause}
use Rattle.sc_term.specs.Proof.{clause_of}
use Rattle.sc_core_rules.specs.Derivation.{EndsCanonical}
use Rattle.sc_core_rules.specs.Inference.{Resolving, Ends}
use Rattle.sc_hyper.specs.Making.{AreResolvedAll}
use Rattle.sc_hyper.proofs.ListPieces.{zip_long}
use Rattle.sc_hyper.proofs.StepsLaws.{can_parts_long, there_so, can_so, resolved_none, opposed_now, is_behind, resolved_next, resolved_end}
use Rattle.sc_hyper.proofs.steps.resolved.Goals as goal

pub loop-at-init : goal.loop-at-init
loop-at-init c =
    let start = c.args.opening.lines in
    let ks = c.as_slice-part_lines.result.now in
    let parts = c.as_slice-parts.result.now in
    let there = there_so start c.args.opening.part_lines ks c.args.opening.parts parts c.as_slice-part_lines.ensures c.as_slice-parts.ensures c.requires.there in
    let can = can_so c.args.opening.parts parts c.args.lits.now c.args.others.now c.as_slice-parts.ensures c.requires.can in
    let long = can_parts_long parts c.args.lits.now c.args.others.now can in
    let more = zip_long (λ k part. clause_of start k ≡ Some part) ks parts there in
    resolved_none start ks parts c.args.lits.now c.args.others.now (get_or ks 0 0) c.in_ok-clause.clause there can
    (slice_get-get_or ks 0 0 (omega (arith, long.0, more)))
    (slice_get_read parts (length parts) 0 c.index-parts-0.result (λ i. length parts) (omega (arith, long.0)) c.index-parts-0.is ∙ ap (λ (d : Clause). Some d) (sym c.in_ok-clause.ensures))

pub overflow_sub-lit : goal.overflow_sub-lit
overflow_sub-lit c =
    let start = c.args.opening.lines in
    let ks = c.as_slice-part_lines.result.now in
    let parts = c.as_slice-parts.result.now in
    let lits = c.args.lits.now in
    let others = c.args.others.now in
    let at = c.loop-at.at in
    let long = can_parts_long parts lits others (can_so c.args.opening.parts parts lits others c.as_slice-parts.ensures c.requires.can) in
    let at_a = slice_get-get_or lits at 0 c.loop-at-test.true in
    let at_b = slice_get-get_or others at 0 (omega (arith, long.1, c.loop-at-test.true)) in
    let q = get_or parts (at + 1) c.index-parts-0.result in
    let at_q = slice_get-get_or parts (at + 1) c.index-parts-0.result (omega (arith, long.0, c.loop-at-test.true)) in
    let behind = is_behind start ks parts lits others at c.loop-at.lines c.loop-at.line c.loop-at.clause c.loop-at.invariant (get_or lits at 0) (get_or others at 0) q at_a at_b at_q in omega (arith, behind)

pub bounds-part_lines-at : goal.bounds-part_lines-at
bounds-part_lines-at c =
    let start = c.args.opening.lines in
    let ks = c.as_slice-part_lines.result.now in
    let parts = c.as_slice-parts.result.now in
    let lits = c.args.lits.now in
    let others = c.args.others.now in
    let at = c.loop-at.at in
    let long = can_parts_long parts lits others (can_so c.args.opening.parts parts lits others c.as_slice-parts.ensures c.requires.can) in
    let more = zip_long (λ k part. clause_of c.loop-at.lines k ≡ Some part) ks parts c.loop-at.invariant.parts_there in
    omega (arith, long.0, more, c.loop-at-test.true)

pub resolvent-requires : goal.resolvent-requires
resolvent-requires c =
    let start = c.args.opening.lines in
    let ks = c.as_slice-part_lines.result.now in
    let parts = c.as_slice-parts.result.now in
    let lits = c.args.lits.now in
    let others = c.args.others.now in
    let at = c.loop-at.at in
    let long = can_parts_long parts lits others (can_so c.args.opening.parts parts lits others c.as_slice-parts.ensures c.requires.can) in
    let at_a = slice_get-get_or lits at 0 c.loop-at-test.true in
    let at_b = slice_get-get_or others at 0 (omega (arith, long.1, c.loop-at-test.true)) in
    let q = c.index-parts-at.result in
    let at_q = slice_get_read parts (length parts) (at + 1) q (λ i. length parts) (omega (arith, long.0, c.loop-at-test.true)) c.index-parts-at.is in
    opposed_now start ks parts lits others at c.loop-at.lines c.loop-at.line c.loop-at.clause c.loop-at.invariant (get_or lits at 0) (get_or others at 0) q at_a at_b at_q

pub loop-at-preserved : goal.loop-at-preserved
loop-at-preserved c =
    let start = c.args.opening.lines in
    let ks = c.as_slice-part_lines.result.now in
    let parts = c.as_slice-parts.result.now in
    let lits = c.args.lits.now in
    let others = c.args.others.now in
    let at = c.loop-at.at in
    let long = can_parts_long parts lits others (can_so c.args.opening.parts parts lits others c.as_slice-parts.ensures c.requires.can) in
    let at_a = slice_get-get_or lits at 0 c.loop-at-test.true in
    let at_b = slice_get-get_or others at 0 (omega (arith, long.1, c.loop-at-test.true)) in
    let q = c.index-parts-at.result in
    let at_q = slice_get_read parts (length parts) (at + 1) q (λ i. length parts) (omega (arith, long.0, c.loop-at-test.true)) c.index-parts-at.is in
    let more = zip_long (λ k part. clause_of c.loop-at.lines k ≡ Some part) ks parts c.loop-at.invariant.parts_there in
    let at_k = slice_get-get_or ks (at + 1) 0 (omega (arith, long.0, more, c.loop-at-test.true)) in
    resolved_next start ks parts lits others at c.loop-at.lines c.loop-at.line c.loop-at.clause c.loop-at.invariant (get_or lits at 0) (get_or others at 0) q at_a at_b at_q
    (get_or ks (at + 1) 0) c.in_ok-clause-2.clause c.add_resolvent.new.lines c.in_ok-line.line at_k c.in_ok-clause-2.ensures c.in_ok-line.ensures

pub returns : goal.returns
returns c =
    let start = c.args.opening.lines in
    let ks = c.as_slice-part_lines.result.now in
    let parts = c.as_slice-parts.result.now in
    let lits = c.args.lits.now in
    let others = c.args.others.now in
    let at = c.loop-at.at in
    let long = can_parts_long parts lits others (can_so c.args.opening.parts parts lits others c.as_slice-parts.ensures c.requires.can) in
    let ends = resolved_end start ks parts lits others at c.loop-at.lines c.loop-at.line c.loop-at.clause c.loop-at.invariant (omega (arith, c.loop-at.auto.at-end, c.loop-at-test.false)) long.0 long.1 in
    IfOk-weaker c.finish.result (λ made. EndsCanonical c.loop-at.lines made.lines) (λ made. AreResolvedAll start c.args.opening.part_lines lits others made.lines)
    (λ made last. record {
      steps = c.loop-at.lines;
      ends = subst (λ (ns : List ℕ). Ends (Resolving lits others) ns start c.loop-at.lines) c.as_slice-part_lines.ensures ends;
      canonical_last = last;
    }) c.finish.ensures
