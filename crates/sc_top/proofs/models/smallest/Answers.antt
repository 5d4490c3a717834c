use Rattle.sc_top.proofs.ModelAnswers.{of_problem}
use Rattle.sc_smallest.specs.Smallest.{Sought, IsSmallest}
use Rattle.sc_top.proofs.models.smallest.Goals as goal

pub returns-in-Ok : goal.returns-in-Ok
returns-in-Ok g c =
    c.told_of.ensures c.args.nodes
    (of_problem c.args.problem.now c.sig.result.now c.inputs.result.now (λ (s : Sought). IsSmallest s c.args.from c.args.to c.args.nodes c.in-Ok.found)
    c.sig.ensures c.inputs.ensures c.in-Ok.ensures.value)
