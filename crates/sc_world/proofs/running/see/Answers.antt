use Rattle.std.proofs.Common.{◌∙◌, ap, sym}
use Rattle.sc_worker.specs.declared.worked.Worked.{Worked}
use Rattle.sc_world.specs.Steps.{seeing}
use Rattle.sc_world.proofs.StepLaws.{list_there}
use Rattle.sc_world.proofs.running.see.Goals as goal

pub receive-requires-clause-there : goal.receive-requires-clause-there
receive-requires-clause-there c = list_there c.args.prover.now.seen c.requires

pub returns-in_ok-receive-in-Joined : goal.returns-in_ok-receive-in-Joined
returns-in_ok-receive-in-Joined c = c.in_ok-receive-in-Joined.ensures.added ∙ ap (λ (w : Worked). seeing w c.args.prover.now) (sym c.in-Joined.is)
