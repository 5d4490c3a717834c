use Rattle.std.proofs.Common.{◌≡◌, ◌<◌, ◌-◌, ◌^◌, length, take}
use Rattle.sc_steps.specs.Splice.{spliced, join_clauses}
use Rattle.sc_steps.specs.Walk.{last_in}
use Rattle.sc_steps.proofs.derivations.join.join_clauses.Given as goal

abbrev pub invariant-loop-n : goal.invariant-loop-n
invariant-loop-n l =
    (spliced l.lines (last_in l.last) ≡ join_clauses l.inputs l.derived (take l.n-index l.ns)) × (length l.lines < 2 ^ 32 - 1)
