use Rattle.std.proofs.Common.{◌≡◌, map, take, false}
use Rattle.std.specs.List.{list_any}
use Rattle.sc_mark.specs.Changes as spec
use Rattle.sc_mark.proofs.changes.+reading.Given as goal

abbrev pub invariant-terms_changed-loop-term : goal.invariant-terms_changed-loop-term
invariant-terms_changed-loop-term l = list_any (λ b. b) (map (spec.term_changed l.changes) (take l.term-index l.terms)) ≡ false
