use Rattle.std.proofs.Common.{◌≡◌, length}
use Rattle.sc_index.specs.Entries.{AreEmptied}
use Rattle.sc_index.proofs.removal.empty_each.Given as goal

abbrev pub invariant-loop-at : goal.invariant-loop-at
invariant-loop-at l = record {
  long : length l.slots ≡ length l.initial.slots;
  emptied : AreEmptied (record { literal = l.lit; number = l.number }) l.at l.initial.slots l.slots;
}
