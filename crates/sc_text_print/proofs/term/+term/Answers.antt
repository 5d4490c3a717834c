use Rattle.std.proofs.Common.{append_assoc, refl}
use Rattle.sc_text_rules.specs.ClauseText.{term_text}
use Rattle.sc_text_print.proofs.Rows.{joined_more}
use Rattle.sc_text_print.proofs.term.+term.Goals as goal

pub joined_terms-loop-i-preserved : goal.joined_terms-loop-i-preserved
joined_terms-loop-i-preserved _ c =
    let h = c.in_ok-separator.ensures in
    let k = c.in_ok-term.ensures in
    let i = c.loop-i.invariant in
    let t = c.index-terms-i.result in
    let m = joined_more c.args.between.now (term_text c.args.sig.now) c.args.terms.now c.loop-i.i t t c.loop-i-test.true c.index-terms-i.is in
    rw (k, h, i) (simp append_assoc (rw m refl))
