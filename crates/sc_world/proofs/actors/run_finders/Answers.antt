use Rattle.std.proofs.Common.{subst, get_or}
use Rattle.sc_world.specs.Acting.{Acted}
use Rattle.sc_world.proofs.Stepping.{zip_each}
use denote.Param.Send.{sendable}
use Rattle.std.proofs.Crossing.{crosses}
use Rattle.sc_world.proofs.ActorCrossing.{actor_send}
use Rattle.sc_world.proofs.actors.run_finders.Goals as goal

pub returns : goal.returns
returns g c = zip_each Acted _ _ c.for_each_mut.auto.s (λ k d low.
    let p = (c.for_each_mut.ensures k d low).1 in
    let is : Acted p.argument.now p.after_call.now = p.call in
    subst (λ x. Acted x (get_or c.for_each_mut.new.s k d)) p.argument_is (subst (λ y. Acted p.argument.now y) p.left is))

pub for_each_mut-requires-send-T : goal.for_each_mut-requires-send-T
for_each_mut-requires-send-T g c κs within = search (actor_send, crosses, sendable) depth 60 fits 20000
