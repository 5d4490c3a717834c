use Rattle.std.proofs.Common.{[]}
use Rattle.sc_core_rules.specs.Resolution.{factor_numbers}
use Rattle.sc_resolve.specs.Extending.{Extends, Below}
use Rattle.sc_resolve.specs.Factor.{IsWithFirst}
use Rattle.sc_resolve.proofs.factor.factor_sites.Given as goal

abbrev pub invariant-loop-first : goal.invariant-loop-first
invariant-loop-first l = Extends factor_numbers (Below (IsWithFirst l.literals) l.first) l.limit [] l.sites
