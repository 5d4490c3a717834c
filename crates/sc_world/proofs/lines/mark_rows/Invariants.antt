use Rattle.std.proofs.Common.{◌≡◌, length}
use Rattle.sc_world.proofs.MarkLaws.{AreOfLines}
use Rattle.sc_world.proofs.lines.mark_rows.Given as goal

abbrev pub invariant-loop-i : goal.invariant-loop-i
invariant-loop-i l = record {
  many : length l.rows ≡ l.i;
  each : AreOfLines l.name l.version l.lines l.rows;
}
