use Rattle.std.proofs.Common.{[]}
use Rattle.sc_core_rules.specs.Resolution.{binary_numbers}
use Rattle.sc_resolve.specs.ByNumber.{seen}
use Rattle.sc_resolve.specs.Extending.{Extends, Below}
use Rattle.sc_resolve.specs.Binary.{IsWithPartner}
use Rattle.sc_resolve.proofs.binary.sites_in_order.Given as goal

abbrev pub invariant-loop-partner : goal.invariant-loop-partner
invariant-loop-partner l = Extends binary_numbers (Below (IsWithPartner l.given (seen l.partners)) l.partner-index) l.limit [] l.sites
