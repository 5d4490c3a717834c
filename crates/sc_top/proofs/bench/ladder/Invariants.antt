use Rattle.std.proofs.Common.{◌≡◌, ◌++◌}
use Rattle.std.specs.Prelude.{codes}
use Rattle.sc_cells.specs.Listing.{in_turn}
use Rattle.sc_top.specs.Ladder.{rung}
use Rattle.sc_top.proofs.bench.ladder.Given as goal

-- the rungs so far
abbrev pub invariant-loop-i : goal.invariant-loop-i
invariant-loop-i l = l.text.items ≡ codes "set(binary_res).\nlist(usable).\n" ++ in_turn rung l.i
