use Rattle.std.proofs.Common.{◌≡◌, ◌<◌, ◌-◌, ◌^◌, length, take}
use Rattle.sc_steps.specs.Splice.{joined, join_lines}
use Rattle.sc_steps.specs.Walk.{last_in}
use Rattle.sc_steps.proofs.derivations.join.join_lines.Given as goal

abbrev pub invariant-loop-line : goal.invariant-loop-line
invariant-loop-line l =
    (joined l.lines l.became ≡ join_lines (last_in l.last) l.fn.lines (take l.line-index l.derivation)) × (length l.lines < 2 ^ 32 - 1)
