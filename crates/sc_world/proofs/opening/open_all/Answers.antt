use Rattle.std.proofs.Common.{◌+◌, arith}
use Rattle.sc_shelf.specs.State.{new_window}
use Rattle.sc_world.proofs.BesideLaws.{one_opened, one_wider, one_new}
use Rattle.sc_world.proofs.opening.open_all.Goals as goal

pub loop-made-preserved : goal.loop-made-preserved
loop-made-preserved g c =
    let many = c.loop-made.invariant.0 in (
      one_wider _ _ _ _ many c.in_ok-open_one.ensures.actors.2,
      one_opened c.args.problem.now c.args.plan.now _ _ (c.loop-made.made + 1) (omega (arith, many)) c.loop-made.invariant.1 c.in_ok-open_one.ensures.actors,
      one_wider _ _ _ _ c.loop-made.invariant.2 c.in_ok-open_one.ensures.windows,
      one_new (new_window c.args.problem.now.symbols) _ _ c.loop-made.invariant.3 c.in_ok-open_one.ensures.windows,
    )
