use Rattle.std.proofs.Common.{Some}
use Rattle.sc_mark.proofs.TruthLaws.{put_after}
use Rattle.sc_mark.proofs.truths.add_known.Goals as goal

pub returns : goal.returns
returns c = put_after c.args.n (Some c.args.known) c.args.stored.now c.make_room.new.stored c.put.new.stored c.make_room.ensures.same c.put.ensures
