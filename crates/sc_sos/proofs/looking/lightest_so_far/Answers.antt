use Rattle.std.proofs.Common.{◌∙◌, sym, true≢false}
use Rattle.sc_sos.specs.Waiting.{weight_of, IsFalseIn}
use Rattle.sc_sos.proofs.LookingLaws.{one_more, passed}
use Rattle.sc_sos.proofs.looking.lightest_so_far.Goals as goal

pub returns-then-is_marked_false : goal.returns-then-is_marked_false
returns-then-is_marked_false c front h =
    one_more weight_of (IsFalseIn c.args.marks.now) front c.args.next c.args.best c.sooner.result
    (c.is_marked_false.ensures.0 c.if-is_marked_false.true) c.sooner.ensures h

pub returns-else-is_marked_false : goal.returns-else-is_marked_false
returns-else-is_marked_false c front h =
    passed weight_of (IsFalseIn c.args.marks.now) front c.args.next c.args.best
    (λ holds. true≢false (sym (c.is_marked_false.ensures.1 holds) ∙ c.if-is_marked_false.false)) h
