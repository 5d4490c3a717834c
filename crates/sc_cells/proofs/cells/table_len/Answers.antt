use Rattle.std.proofs.Common.{arith}
use Rattle.sc_cells.proofs.CountLaws.{small_power}
use Rattle.sc_cells.proofs.cells.table_len.Goals as goal

pub pow-requires : goal.pow-requires
pow-requires c =
    let small = small_power c.from.result c.from-2.result (omega (arith, c.from.ensures, c.requires.size)) (omega (arith, c.from-2.ensures, c.requires.arity)) in
    omega (arith, small)

pub returns-clause-bound : goal.returns-clause-bound
returns-clause-bound c =
    let small = small_power c.from.result c.from-2.result (omega (arith, c.from.ensures, c.requires.size)) (omega (arith, c.from-2.ensures, c.requires.arity)) in
    omega (arith, small, c.pow.ensures)
