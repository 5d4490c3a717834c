use Rattle.std.proofs.Common.{◌++◌}
use Rattle.sc_keep.proofs.FateLaws.{told_subsumer}
use Rattle.sc_keep.proofs.dropping.subsumer.Goals as goal

pub returns : goal.returns
returns c = told_subsumer c.args.for_sub (c.args.live.usable.now ++ c.args.live.sos.now ++ c.args.live.passive.now) c.args.c.now c.if-not-for_sub.false c.in_ok-found.found c.in_ok-found.ensures
