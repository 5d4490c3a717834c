use Rattle.std.proofs.Common.{ap, subst, ◌-◌, length, arith}
use Rattle.std.proofs.lemmas.List.{length_push}
use Rattle.sc_find.specs.Watching.{Goes}
use Rattle.sc_find.proofs.WatchLaws.{grown_none, grown_more, grown_places, in_place, one_false, wake_first, wake_step, wake_last}
use Rattle.sc_find.proofs.waking.wake.Goals as goal

pub loop-at-init : goal.loop-at-init
loop-at-init c = record {
  grown = grown_none (length c.args.instances.now) c.args.watches.now;
  waking = wake_first c.args.clauses.now c.args.instances.now c.args.given.now (c.len-cell.result - 1) c.latest-at.result c.args.watches.now c.latest-at.ensures;
}

pub watch-requires-clause-number : goal.watch-requires-clause-number
watch-requires-clause-number c =
    in_place (length c.args.instances.now) (c.loop-at.at - 1) c.loop-at.watches.watches c.get-watched.result
    (grown_places (length c.args.instances.now) c.args.watches.now c.loop-at.watches c.loop-at.invariant.grown c.requires.last.3.places) c.get-watched.ensures.value

pub returns-then-not-branch-clause-all : goal.returns-then-not-branch-clause-all
returns-then-not-branch-clause-all c =
    let lt = in_place (length c.args.instances.now) (c.loop-at.at - 1) c.loop-at.watches.watches c.get-watched.result
    (grown_places (length c.args.instances.now) c.args.watches.now c.loop-at.watches c.loop-at.invariant.grown c.requires.last.3.places) c.get-watched.ensures.value in
    one_false c.args.clauses.now c.args.instances.now c.args.given.now c.watch.new.watches.watches c.get-watched.result.instance c.in_ok-watch.field-0 lt c.in_ok-watch.ensures.goes c.if-not-branch.true

pub loop-at-preserved : goal.loop-at-preserved
loop-at-preserved c = record {
  grown = grown_more (length c.args.instances.now) c.args.watches.now c.loop-at.watches c.watch.new.watches c.loop-at.invariant.grown c.in_ok-watch.ensures.grown;
  waking = wake_step c.args.clauses.now c.args.instances.now c.args.given.now (c.len-cell.result - 1) c.loop-at.at c.args.watches.now c.loop-at.watches c.watch.new.watches c.get-watched.result
      c.loop-at.invariant.grown c.loop-at.invariant.waking (omega (arith, c.loop-at-test.true)) c.get-watched.ensures.value c.get-watched.ensures.next c.in_ok-watch.ensures.grown
      (subst (λ b. Goes c.args.clauses.now c.args.instances.now c.args.given.now c.watch.new.watches.watches c.get-watched.result.instance b) c.if-not-branch.false c.in_ok-watch.ensures.goes);
}

pub returns-clause-all : goal.returns-clause-all
returns-clause-all c =
    let before = c.requires.last in
    wake_last c.args.clauses.now c.args.instances.now c.args.given.now before.0 before.1 (c.len-cell.result - 1) c.loop-at.at c.args.watches.now c.loop-at.watches before.2
    (omega (arith, c.len-cell.ensures.value, ap length before.2, length_push before.0 before.1)) (omega (arith, c.len-cell.ensures.kept)) before.3 c.loop-at.invariant.grown c.loop-at.invariant.waking
    (omega (arith, c.loop-at-test.false))
