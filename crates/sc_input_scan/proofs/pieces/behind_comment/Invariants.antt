use Rattle.std.proofs.Common.{◌≡◌, drop, true}
use Rattle.sc_input_scan.specs.Rest.{tokens_left}
use Rattle.sc_input_scan.proofs.pieces.behind_comment.Given as goal

abbrev pub invariant-loop-i : goal.invariant-loop-i
invariant-loop-i l = tokens_left true l.total l.rest ≡ tokens_left true l.total (drop l.i l.rest)
