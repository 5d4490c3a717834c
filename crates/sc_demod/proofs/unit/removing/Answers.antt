use Rattle.std.proofs.Common.{◌∙◌, sym, arith}
use Rattle.sc_demod.proofs.CutLaws.{only_one, removal_where}
use Rattle.sc_demod.proofs.unit.removing.Goals as goal

pub returns-else-not-are_opposed : goal.returns-else-not-are_opposed
returns-else-not-are_opposed c =
    let only = sym c.as_slice.ensures ∙ only_one c.as_slice.result.now c.m-item.result (omega (arith, c.in-len1.len_at_least, c.in-len1.len_below)) c.m-item.is in
    removal_where c.match_onto.result c.args.l.now c.m-item.result c.args.u.now only (c.are_opposed.ensures.0 c.if-not-are_opposed.false) c.match_onto.ensures
