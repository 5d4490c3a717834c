use Rattle.std.proofs.Common.{◌∙◌, ap, subst, sym, length, length-append, arith, List, Some, ℕ}
use Rattle.std.proofs.lemmas.Option.{slice_get-get_or}
use Rattle.sc_text_run_rules.specs.declared.run.MarkRow.{MarkRow}
use Rattle.sc_world.specs.Recorded.{IsMarkOf}
use Rattle.sc_world.proofs.MarkLaws.{AreOfLines, one_mark_more}
use Rattle.sc_world.proofs.lines.mark_rows.Goals as goal

pub loop-i-preserved : goal.loop-i-preserved
loop-i-preserved c = record {
  many = let e = ap (λ (rows : List MarkRow). length rows) c.in_ok-push.ensures.ok in let many = c.loop-i.invariant.many in omega (arith, length-append {A = MarkRow}, e, many);
  each = subst (AreOfLines c.args.name c.args.version.now c.args.lines.now) (sym c.in_ok-push.ensures.ok)
      (one_mark_more c.args.name c.args.version.now c.args.lines.now c.loop-i.rows c.loop-i.i c.index-lines-i.result c.in_ok-mark_row.field-0
      c.loop-i.invariant.many (slice_get-get_or c.args.lines.now c.loop-i.i c.index-lines-i.result (omega arith) ∙ ap Some (sym c.index-lines-i.is))
      (subst (λ (n : ℕ). IsMarkOf c.args.name c.args.version.now n c.index-lines-i.result c.in_ok-mark_row.field-0) c.in_ok-number.ensures.value c.in_ok-mark_row.ensures)
      c.loop-i.invariant.each);
}
