use Rattle.sc_core_rules.specs.Resolution.{binary_numbers}
use Rattle.sc_resolve.specs.Extending.{Extends, Below}
use Rattle.sc_resolve.specs.Binary.{IsWithLiteral}
use Rattle.sc_resolve.proofs.binary.add_with_literal.Given as goal

abbrev pub invariant-loop-at : goal.invariant-loop-at
invariant-loop-at l = Extends binary_numbers (Below (IsWithLiteral l.partner l.given_lit l.l l.others) l.at) l.limit l.initial.sites l.sites
