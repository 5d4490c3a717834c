use Rattle.sc_input.proofs.Laws.{problem_keeps}
use Rattle.sc_input.proofs.read.read_problem.Goals as goal

pub problem_from-requires : goal.problem_from-requires
problem_from-requires c = rw c.as_slice.ensures (problem_keeps c.args.bytes.now _ _ c.in_ok-items.ensures)
