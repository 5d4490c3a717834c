use Rattle.std.proofs.Common.{subst, refl}
use Rattle.sc_interp.specs.Structure.{Structure}
use Rattle.sc_interp.specs.Marks.{IsMark}
use Rattle.sc_world.proofs.lines.mark_row.Goals as goal

pub returns : goal.returns
returns c = record {
  number = refl;
  named = refl;
  truth = subst (λ (t : Structure). IsMark t c.args.line.now.clause c.in_ok-truth.truth) c.tables.ensures.value c.in_ok-truth.ensures;
}
