use Rattle.sc_core.proofs.WaitingLaws.{fresh_at}
use Rattle.sc_core.proofs.selecting.waiting.Goals as goal

pub push-requires-clause-fresh : goal.push-requires-clause-fresh
push-requires-clause-fresh c =
    fresh_at c.args.sos.now c.loop-p.p-index c.p-item.result c.loop-p-test.true c.p-item.is c.requires.apart c.loop-p.waiting.clauses c.loop-p.invariant.clauses
