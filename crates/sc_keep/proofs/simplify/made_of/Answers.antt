use Rattle.std.proofs.Common.{◌-◌, arith}
use Rattle.sc_keep.proofs.SimplifySteps.{made_end}
use Rattle.sc_keep.proofs.simplify.made_of.Goals as goal

pub invariant_of-result : goal.invariant_of-result
invariant_of-result c =
    let told = made_end c.as_slice.result.now c.args.lines (c.len.result - 1) c.index-as_slice-len.result c.in_ok-clause.clause c.as_slice.ensures c.requires.some (omega (arith, c.len.ensures))
    c.in_ok-clause.ensures c.requires.within in
    record { ends = told.0; light = told.1.light; shallow = told.1.shallow }
