use Rattle.std.proofs.Common.{length, arith}
use Rattle.sc_find.proofs.WatchLaws.{grown_more, each_further, one_false, all_first}
use Rattle.sc_find.proofs.waking.watch_all.Goals as goal

pub returns-then-not-branch-clause-all : goal.returns-then-not-branch-clause-all
returns-then-not-branch-clause-all c =
    one_false c.args.clauses.now c.args.instances.now c.args.given.now c.watch.new.watches.watches c.loop-number.number c.in_ok-watch.field-0 c.loop-number-test.true c.in_ok-watch.ensures.goes c.if-not-branch.true

pub returns-then-not-branch-clause-grown : goal.returns-then-not-branch-clause-grown
returns-then-not-branch-clause-grown c = grown_more (length c.args.instances.now) c.args.watches.now c.loop-number.watches c.watch.new.watches c.loop-number.invariant.grown c.in_ok-watch.ensures.grown

pub loop-number-preserved : goal.loop-number-preserved
loop-number-preserved c = record {
  grown = grown_more (length c.args.instances.now) c.args.watches.now c.loop-number.watches c.watch.new.watches c.loop-number.invariant.grown c.in_ok-watch.ensures.grown;
  each = λ n lt. each_further c.args.clauses.now c.args.instances.now c.args.given.now c.loop-number.number n c.loop-number.watches c.watch.new.watches c.in_ok-watch.field-0
      c.loop-number.invariant.each c.in_ok-watch.ensures.grown c.in_ok-watch.ensures.goes c.if-not-branch.false lt;
}

pub returns-clause-all : goal.returns-clause-all
returns-clause-all c =
    all_first c.args.clauses.now c.args.instances.now c.args.given.now c.args.watches.now c.loop-number.watches (length c.args.given.now.cells) c.requires.none c.requires.empty c.loop-number.invariant.grown
    (λ n lt. c.loop-number.invariant.each n (omega (arith, lt, c.loop-number-test.false)))
