use Rattle.std.proofs.Common.{◌≡◌}
use Rattle.sc_keep.specs.Canonical.{place_terms}
use Rattle.sc_keep.proofs.canonical.places.Given as goal

abbrev pub invariant-loop-n : goal.invariant-loop-n
invariant-loop-n l = l.terms ≡ place_terms l.order l.n
