use Rattle.std.proofs.Common.{arith, rules}
use Rattle.sc_shelf.proofs.EntryLaws.{pair_more, starts_all}
use Rattle.sc_shelf.proofs.compare.begins.Goals as goal

pub loop-i-preserved : goal.loop-i-preserved
loop-i-preserved c = pair_more c.args.entries.now c.args.seen.now c.loop-i.i c.index-entries-i.result c.index-seen-i.result (omega (arith, c.loop-i-test.true, c.if-seen-entries.false)) c.loop-i-test.true c.index-entries-i.is c.index-seen-i.is c.loop-i.invariant (c.if-not-is_entry_of.ensures (search rules))

pub returns : goal.returns
returns c = λ _. starts_all c.args.entries.now c.args.seen.now c.loop-i.i (omega (arith, c.loop-i.auto.i-end, c.loop-i-test.false)) c.loop-i.invariant
