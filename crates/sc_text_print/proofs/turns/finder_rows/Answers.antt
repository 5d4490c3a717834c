use Rattle.std.proofs.Common.{◌++◌, ap, append_assoc, get_or, refl}
use Rattle.sc_text_run_rules.specs.declared.run.FinderEnd.TheVariants.{Done}
use Rattle.sc_text_print.proofs.RunRows.{end_more}
use Rattle.sc_text_print.proofs.turns.finder_rows.Goals as goal

pub loop-i-preserved : goal.loop-i-preserved
loop-i-preserved c =
    let k = c.in_ok-finder_row.ensures in
    let i = c.loop-i.invariant in
    let m = end_more c.args.ends.now c.loop-i.i Done (get_or c.args.ends.now c.loop-i.i Done) c.loop-i-test.true refl in
    rw (k, i, append_assoc) (ap (λ s. c.args.text.now.items ++ s) m)
