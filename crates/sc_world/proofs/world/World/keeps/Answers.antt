use Rattle.std.proofs.Common.{◌∙◌, ap, subst}
use Rattle.sc_world.specs.Kept.{Holds}
use Rattle.sc_world.specs.World.{WorldState, machine_of, world_of}
use Rattle.sc_world.proofs.WorldLaws.{holds}
use Rattle.sc_world.proofs.world.World.keeps.Goals as goal

pub returns-clause-holds : goal.returns-clause-holds
returns-clause-holds c = λ whole.
    let published = c.self.inside.lists.items in
    let prover = c.self.inside.prover in
    subst (λ (w : WorldState). Holds w.problem (machine_of w)) c.self.view_is
    (holds prover.problem c.keeps.ensures.problem c.rows_are_true.ensures c.clauses_leave_in_time.ensures c.run_refutes.ensures (machine_of (world_of published prover))
    c.self.invariant.prefixes (c.self.invariant.made (ap (λ (w : WorldState). w.whole) c.self.view_is ∙ whole)))
