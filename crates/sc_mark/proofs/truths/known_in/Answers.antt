use Rattle.std.proofs.Common.{arith}
use Rattle.sc_mark.proofs.NarrowLaws.{narrow}
use Rattle.sc_mark.proofs.truths.known_in.Goals as goal

pub tried-requires-clause-wide : goal.tried-requires-clause-wide
tried-requires-clause-wide c = omega (arith, narrow c.args.c.now c.requires.canonical c.requires.within, c.requires.register, c.as_mut_slice.ensures.len)
