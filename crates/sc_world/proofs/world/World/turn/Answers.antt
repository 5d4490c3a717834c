use Rattle.std.proofs.Common.{◌∙◌, ap}
use Rattle.std.proofs.lemmas.Result.{on_ok_weaker}
use Rattle.sc_world.specs.World.{WorldState}
use Rattle.sc_world.proofs.WorldSteps.{where_whole, turn_happens, turn_world}
use Rattle.sc_world.proofs.world.World.turn.Goals as goal

pub invariant_of-self : goal.invariant_of-self
invariant_of-self c =
    let going = ap (λ (w : WorldState). w.run.ended) c.self.view_is ∙ c.requires.going in
    let whole = ap (λ (w : WorldState). w.whole) c.self.view_is ∙ c.requires.whole in
    turn_world c.self.inside.lists.items c.self.inside.prover c.turn.new.self going c.turn.ensures.seen whole c.turn.ensures.problem
    (where_whole c.turn.result c.turn.new.self.whole c.turn.ensures.turns c.turn.ensures.halfway) c.self.invariant

pub returns-clause-happens : goal.returns-clause-happens
returns-clause-happens c =
    let going = ap (λ (w : WorldState). w.run.ended) c.self.view_is ∙ c.requires.going in
    on_ok_weaker c.turn.result (turn_happens c.self.inside.lists.items c.self.inside.prover c.turn.new.self going c.turn.ensures.seen c.args.self.now c.self.view_is) c.turn.ensures.turns
