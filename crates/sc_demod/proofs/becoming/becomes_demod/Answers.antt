use Rattle.sc_demod.proofs.BecomingLaws.{becomes_where}
use Rattle.sc_demod.proofs.becoming.becomes_demod.Goals as goal

pub returns-in-Some : goal.returns-in-Some
returns-in-Some c = becomes_where c.args.c.now c.in-Some.left.now c.in-Some.right.now c.are_decreasing.result c.in-Some.ensures.found c.are_decreasing.ensures
