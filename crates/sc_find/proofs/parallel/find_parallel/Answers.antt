use Rattle.std.proofs.Common.{rules, ◌+◌, subst, Option, arith}
use Rattle.sc_find.specs.declared.answer.FoundAll.{FoundAll}
use Rattle.sc_find.specs.Pieces.{IsDecided}
use Rattle.sc_find.proofs.PieceLaws.{none_of_all}
use Rattle.sc_find.proofs.parallel.find_parallel.Goals as goal

pub loop-from-init : goal.loop-from-init
loop-from-init g c = record { some = omega arith; within = omega arith; none = λ q piece less is. absurd (omega (arith, less, (c.pieces-end.ensures.none q piece is).0)) }

pub search_together-requires-clause-pieces : goal.search_together-requires-clause-pieces
search_together-requires-clause-pieces g c κs within i less = c.pieces-end.ensures.each (c.loop-from.from + i) (omega (arith, c.loop-from.invariant.some)) (search rules)

pub returns-in-Some : goal.returns-in-Some
returns-in-Some g c = subst (λ (d : Option FoundAll). IsDecided c.args.job.now c.args.budget (c.loop-from.from + c.min-count.result) d) c.in-Some.is (c.in_ok-all.ensures c.loop-from.invariant.none)

pub loop-from-preserved : goal.loop-from-preserved
loop-from-preserved g c = record {
  some = omega (arith, c.loop-from.invariant.some);
  within = search rules;
  none = subst (λ (d : Option FoundAll). IsDecided c.args.job.now c.args.budget (c.loop-from.from + c.min-count.result) d) c.in_default.is (c.in_ok-all.ensures c.loop-from.invariant.none);
}

pub returns : goal.returns
returns g c = none_of_all c.args.job.now c.loop-from.from c.pieces-end.result (search rules) c.pieces-end.ensures.none c.loop-from.invariant.none
