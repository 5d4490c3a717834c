use Rattle.std.proofs.Common.{◌≡◌, ◌+◌, ◌≤◌, length, map, take}
use Rattle.sc_core.specs.Choice.{weighed}
use Rattle.sc_core.proofs.selecting.waiting.Given as goal

abbrev pub invariant-loop-p : goal.invariant-loop-p
invariant-loop-p l = record {
  clauses : l.waiting.clauses ≡ map weighed (take l.p-index l.sos);
  room : length l.sos ≤ l.waiting.spare + l.p-index;
}
