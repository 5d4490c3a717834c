use Rattle.std.proofs.Common.{arith}
use Rattle.sc_mark.proofs.KnownLaws.{all_hold}
use Rattle.sc_mark.proofs.trying.first_false.Goals as goal

pub returns-clause-none : goal.returns-clause-none
returns-clause-none c = all_hold (record { size = c.args.size; tables = c.args.tables.now }) c.args.c.now c.args.values.now c.loop-number.number
    (omega (arith, c.requires.long)) (omega (arith, c.requires.all, c.loop-number-test.false)) c.loop-number.invariant.before
