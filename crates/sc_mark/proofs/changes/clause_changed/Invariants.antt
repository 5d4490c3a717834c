use Rattle.std.proofs.Common.{◌≡◌, take, false}
use Rattle.std.specs.List.{list_any}
use Rattle.sc_mark.specs.Changes as spec
use Rattle.sc_mark.proofs.changes.clause_changed.Given as goal

abbrev pub invariant-loop-literal : goal.invariant-loop-literal
invariant-loop-literal l = list_any (spec.literal_changed l.changes) (take l.literal-index l.literal-items) ≡ false
