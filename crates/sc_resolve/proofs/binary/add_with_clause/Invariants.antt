use Rattle.sc_core_rules.specs.Resolution.{binary_numbers}
use Rattle.sc_resolve.specs.Extending.{Extends, Below}
use Rattle.sc_resolve.specs.Binary.{IsWithClause}
use Rattle.sc_resolve.proofs.binary.add_with_clause.Given as goal

abbrev pub invariant-loop-at : goal.invariant-loop-at
invariant-loop-at l = Extends binary_numbers (Below (IsWithClause l.partner l.literals l.others) l.at) l.limit l.initial.sites l.sites
