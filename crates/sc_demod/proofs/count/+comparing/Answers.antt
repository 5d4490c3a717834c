use Rattle.std.proofs.Common.{◌∙◌, sym, true≢false}
use Rattle.sc_demod.specs.Counting.{OccursNoMore}
use Rattle.sc_demod.proofs.CountLaws.{holds_at}
use Rattle.sc_demod.proofs.count.+comparing.Goals as goal

pub all_no_more-returns-then-not-each_no_more : goal.all_no_more-returns-then-not-each_no_more
all_no_more-returns-then-not-each_no_more t c = (
  λ e. absurd (true≢false (sym e)),
  λ h. absurd (true≢false (sym (c.each_no_more.ensures.1 (holds_at (OccursNoMore c.args.right.now c.args.left.now) c.args.terms.now c.loop-term.term-index c.term-item.result c.loop-term-test.true c.term-item.is h))
      ∙ c.if-not-each_no_more.true)),
)
