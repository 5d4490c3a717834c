use Rattle.std.proofs.Common.{◌≡◌, ◌∙◌, ◌<◌, ◌≤◌, sym, subst, length, arith}
use Rattle.sc_input_rules.specs.Problem.{Stated}
use Rattle.sc_world.specs.Underway.{turns_left}
use Rattle.sc_world.proofs.AbreastLaws.{looked_so_far, turn_abreast, room, fewer_left}
use Rattle.sc_world.proofs.turns.run_turns.Goals as goal

pub next_turn-requires : goal.next_turn-requires
next_turn-requires g c =
    let few = (c.keeps.ensures.counted c.loop-outcome.invariant.whole).few_given in
    let most = c.keeps.ensures.problem.params.max_given.1 in
    omega (arith, few, most)

pub look_and_turn-requires-clause-room : goal.look_and_turn-requires-clause-room
look_and_turn-requires-clause-room g c =
    let few = (c.keeps.ensures.counted c.loop-outcome.invariant.whole).few_given in
    let most = c.keeps.ensures.problem.params.max_given.1 in
    room c.loop-outcome.prover.run.given c.loop-outcome.windows (looked_so_far _ _ _ (sym c.in-None.ensures) c.loop-outcome.invariant.looked) (omega (arith, few, most))

pub loop-outcome-smaller : goal.loop-outcome-smaller
loop-outcome-smaller g c =
    let few = (c.keeps.ensures.counted c.loop-outcome.invariant.whole).few_given in
    let turn = c.in_ok-look_and_turn.ensures in
    subst (λ (p : Stated). turns_left p.params.max_given c.look_and_turn.new.prover.run.ended (length c.look_and_turn.new.prover.run.given)
    < turns_left p.params.max_given c.loop-outcome.prover.run.ended (length c.loop-outcome.prover.run.given)) c.loop-outcome.invariant.same
    (fewer_left c.loop-outcome.prover.problem c.look_and_turn.new.prover.seen c.loop-outcome.prover.run c.look_and_turn.new.prover.run (sym c.in-None.ensures) few turn.turns)

pub loop-outcome-preserved : goal.loop-outcome-preserved
loop-outcome-preserved g c =
    turn_abreast _ c.loop-outcome.prover c.look_and_turn.new.prover c.loop-outcome.windows c.look_and_turn.new.windows c.loop-outcome.invariant (sym c.in-None.ensures) c.in_ok-look_and_turn.ensures
