use Rattle.sc_index.proofs.WalkingLaws.{ends_where}
use Rattle.sc_index.proofs.walking.is_end.Goals as goal

pub returns-then-spot-eq0 : goal.returns-then-spot-eq0
returns-then-spot-eq0 c = ends_where c.args.query.now c.args.spot.at c.args.spot.pending c.if-spot-eq0.true
