use Rattle.sc_world.proofs.WorldSteps.{new_world}
use Rattle.sc_world.proofs.world.World.new.Goals as goal

pub invariant_of-result : goal.invariant_of-result
invariant_of-result c = new_world c.args.problem.now c.args.lists c.in_ok-lists.lists.items c.in_ok-prover.prover c.in_ok-lists.ensures c.in_ok-prover.ensures
