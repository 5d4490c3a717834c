use Rattle.std.proofs.Common.{◌∙◌, ap, replicate}
use Rattle.sc_find_given.proofs.NumberLaws.{rows_behind}
use Rattle.sc_find_given.proofs.number.blank_rows.Goals as goal

pub loop-id-preserved : goal.loop-id-preserved
loop-id-preserved c =
    rows_behind c.args.size c.args.number c.args.sig.now c.loop-id.id c.symbol-symbol.result.now c.loop-id.rows.items c.push.new.self.items
    c.in_ok-blank_numbers.field-0 c.loop-id.auto.id c.symbol-symbol.ensures c.loop-id.invariant
    (c.in_ok-blank_numbers.ensures ∙ ap (λ n. replicate n c.args.number) c.row_len.ensures) c.in_ok-push.ensures.items
