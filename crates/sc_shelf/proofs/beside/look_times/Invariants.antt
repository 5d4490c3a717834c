use Rattle.std.proofs.Common.{◌≡◌, ◌≤◌, ◌+◌, length}
use Rattle.sc_shelf.specs.Looks.{Looked}
use Rattle.sc_shelf.proofs.beside.look_times.Given as goal

abbrev pub invariant-loop-time : goal.invariant-loop-time
invariant-loop-time l = Looked l.initial.window l.window
    × (length l.window.looks ≤ length l.initial.window.looks + l._time)
    × (l.window.symbols ≡ l.initial.window.symbols)
