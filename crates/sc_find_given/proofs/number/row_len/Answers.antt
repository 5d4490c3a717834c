use Rattle.std.proofs.Common.{arith}
use Rattle.sc_interp.proofs.Symbols.{small_power}
use Rattle.sc_find_given.proofs.number.row_len.Goals as goal

pub pow-requires : goal.pow-requires
pow-requires c =
    let small = small_power c.from.result c.from-2.result (omega (arith, c.from.ensures, c.requires.size)) (omega (arith, c.from-2.ensures, c.requires.arity)) in
    omega (arith, small)
