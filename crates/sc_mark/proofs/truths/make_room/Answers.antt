use Rattle.std.proofs.Common.{◌∙◌, ap, List, Option}
use Rattle.sc_mark.specs.declared.known.Known.{Known}
use Rattle.sc_mark.specs.Marking.{known_at}
use Rattle.sc_mark.proofs.TruthLaws.{grown}
use Rattle.sc_mark.proofs.truths.make_room.Goals as goal

pub loop-stored-preserved : goal.loop-stored-preserved
loop-stored-preserved c n = ap (λ (ts : List (Option Known)). known_at ts n) c.in_ok-push.ensures.ok ∙ grown c.loop-stored.stored n ∙ c.loop-stored.invariant n
