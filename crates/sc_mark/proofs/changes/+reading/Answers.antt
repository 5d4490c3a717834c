use Rattle.std.proofs.Common.{◌∙◌, sym}
use Rattle.sc_mark.specs.Changes as spec
use Rattle.sc_mark.proofs.ChangeLaws.{one_passes}
use Rattle.sc_mark.proofs.changes.+reading.Goals as goal

pub terms_changed-returns-then-term_changed : goal.terms_changed-returns-then-term_changed
terms_changed-returns-then-term_changed t c = one_passes (spec.term_changed c.args.changes.now) c.args.terms.now c.loop-term.term-index c.term-item.result
    c.loop-term-test.true c.term-item.is (sym c.term_changed.ensures ∙ c.if-term_changed.true)
