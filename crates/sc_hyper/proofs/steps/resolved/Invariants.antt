use Rattle.sc_hyper.proofs.StepsLaws.{IsResolvedTo}
use Rattle.sc_hyper.proofs.steps.resolved.Given as goal

abbrev pub invariant-loop-at : goal.invariant-loop-at
invariant-loop-at l = IsResolvedTo l.initial.lines l.part_lines l.parts l.lits l.others l.at l.lines l.line l.clause
