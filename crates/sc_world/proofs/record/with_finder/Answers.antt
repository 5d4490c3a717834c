use Rattle.sc_world.proofs.StepLaws.{few_candidates, starts_underway}
use Rattle.sc_world.proofs.record.with_finder.Goals as goal

pub finish-requires-clause-few : goal.finish-requires-clause-few
finish-requires-clause-few c = few_candidates c.args.problem.now c.args.plan.now c.in_ok-chooser.chooser c.in_ok-chooser.ensures c.requires.plan

pub finish-requires-clause-underway : goal.finish-requires-clause-underway
finish-requires-clause-underway c =
    starts_underway c.args.problem.now c.args.plan.now c.args.prover.now c.in_ok-chooser.chooser c.in_ok-chooser.ensures c.requires.started

pub returns : goal.returns
returns c = c.in_ok-run.ensures c.args.plan.now c.in_ok-chooser.ensures
