use Rattle.std.proofs.Common.{arith}
use Rattle.sc_cells.proofs.CountLaws.{counted_behind}
use Rattle.sc_cells.proofs.cells.count_cells.Goals as goal

pub loop-number-preserved : goal.loop-number-preserved
loop-number-preserved c =
    let more = counted_behind c.args.size c.args.sig.now c.loop-number.number c.symbol-symbol.result.now c.loop-number.auto.number c.symbol-symbol.ensures in (
      omega (arith, more, c.loop-number.invariant.0, c.table_len.ensures.value, c.from-count.ensures),
      omega (arith, c.loop-number.invariant.1, c.table_len.ensures.bound, c.from-count.ensures),
    )
