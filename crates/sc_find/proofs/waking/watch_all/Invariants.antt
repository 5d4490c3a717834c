use Rattle.std.proofs.Common.{ℕ, ◌<◌, length}
use Rattle.sc_find.specs.Watching.{IsWatched, IsGrown}
use Rattle.sc_find.proofs.waking.watch_all.Given as goal

abbrev pub invariant-loop-number : goal.invariant-loop-number
invariant-loop-number l = record {
  grown : IsGrown (length l.instances) l.fn.watches l.watches;
  each : (n : ℕ) → n < l.number → IsWatched l.clauses l.instances l.given l.watches.watches n;
}
