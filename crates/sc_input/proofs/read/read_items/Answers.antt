use Rattle.sc_input.proofs.Laws.{items_keep}
use Rattle.sc_input.proofs.read.read_items.Goals as goal

pub problem_from-requires : goal.problem_from-requires
problem_from-requires c = rw c.as_slice.ensures (items_keep c.args.bytes.now _ _ c.in_ok-items.ensures)
