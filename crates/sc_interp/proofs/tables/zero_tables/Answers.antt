use Rattle.std.proofs.Common.{◌∙◌, ap, replicate}
use Rattle.sc_interp.proofs.Symbols.{zeros_behind}
use Rattle.sc_interp.proofs.tables.zero_tables.Goals as goal

pub loop-number-preserved : goal.loop-number-preserved
loop-number-preserved c =
    zeros_behind c.args.size c.args.sig.now c.loop-number.number c.symbol-symbol.result.now c.loop-number.tables.items c.push.new.self.items
    c.in_ok-zero_entries.field-0 c.loop-number.auto.number c.symbol-symbol.ensures c.loop-number.invariant
    (c.in_ok-zero_entries.ensures ∙ ap (λ n. replicate n 0) c.table_len.ensures.value) c.in_ok-push.ensures.items
