use Rattle.std.proofs.Common.{Some, ◌≡◌, slice_get}
use Rattle.sc_term.specs.declared.Literal.{Literal}
use Rattle.sc_core_rules.specs.Resolution.{factor_numbers}
use Rattle.sc_resolve.specs.Extending.{Extends, Below}
use Rattle.sc_resolve.specs.Factor.{IsWithSecond}
use Rattle.sc_resolve.proofs.factor.add_with_first.Given as goal

abbrev pub invariant-loop-at : goal.invariant-loop-at
invariant-loop-at l = (a : Literal) → slice_get l.literals l.first ≡ Some a → Extends factor_numbers (Below (IsWithSecond l.first a l.literals) l.at) l.limit l.initial.sites l.sites
