use Rattle.std.proofs.Common.{append_assoc, refl}
use Rattle.std.specs.Prelude.{codes}
use Rattle.sc_text_rules.specs.ClauseText.{literal_text}
use Rattle.sc_text_print.proofs.Rows.{joined_more}
use Rattle.sc_text_print.proofs.clause.joined_literals.Goals as goal

pub loop-i-preserved : goal.loop-i-preserved
loop-i-preserved c =
    let h = c.in_ok-separator.ensures in
    let k = c.in_ok-literal.ensures in
    let i = c.loop-i.invariant in
    let l = c.index-literals-i.result in
    let m = joined_more (codes " | ") (literal_text c.args.sig.now) c.args.literals.now c.loop-i.i l l c.loop-i-test.true c.index-literals-i.is in
    rw (k, h, i) (simp append_assoc (rw m refl))
