use Rattle.std.proofs.Common.{arith}
use Rattle.sc_mark.proofs.NarrowLaws.{narrow}
use Rattle.sc_mark.proofs.truths.carried_one.Goals as goal

pub known_after-requires-clause-wide : goal.known_after-requires-clause-wide
known_after-requires-clause-wide c = omega (arith, narrow c.args.p.now.clause c.requires.canonical c.requires.within, c.requires.register, c.as_mut_slice.ensures.len)
