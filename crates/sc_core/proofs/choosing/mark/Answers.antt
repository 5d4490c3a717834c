use Rattle.std.proofs.Common.{subst, arith}
use Rattle.sc_interp.specs.Structure.{Structure}
use Rattle.sc_interp.specs.Marks.{IsMark}
use Rattle.sc_keep.proofs.LightLaws.{narrow}
use Rattle.sc_core.proofs.choosing.mark.Goals as goal

pub width-requires : goal.width-requires
width-requires c =
    let few = narrow (record { number = 0; clause = c.args.c.now }) (record { canonical = c.requires.canonical; within = c.requires.within }) in
    omega (arith, few)

pub returns : goal.returns
returns c = subst (λ (t : Structure). IsMark t c.args.c.now c.truth.result) c.tables.ensures.value c.truth.ensures.mark
