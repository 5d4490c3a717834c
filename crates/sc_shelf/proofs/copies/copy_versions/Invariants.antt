use Rattle.std.proofs.Common.{◌≡◌, ◌++◌, take}
use Rattle.sc_shelf.specs.Entries.{versions}
use Rattle.sc_shelf.proofs.copies.copy_versions.Given as goal

abbrev pub invariant-loop-entry : goal.invariant-loop-entry
invariant-loop-entry l = l.seen ≡ l.initial.seen ++ versions (take l.entry-index l.entries)
