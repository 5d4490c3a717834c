use Rattle.std.proofs.Common.{◌∙◌, ap, inl, arith}
use Rattle.sc_resolve.specs.ByNumber.{seen}
use Rattle.sc_keep.proofs.SimplifyUnits.{seen_more}
use Rattle.sc_keep.proofs.units_in_order.note_unit.Goals as goal

pub returns : goal.returns
returns c = inl (omega arith, ap seen c.in_ok-push.ensures.items ∙ seen_more c.args.units.now.items c.args.p)
