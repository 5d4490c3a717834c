use Rattle.std.proofs.Common.{[]}
use Rattle.sc_core_rules.specs.Paramodulation.{para_from_numbers}
use Rattle.sc_resolve.specs.ByNumber.{seen}
use Rattle.sc_resolve.specs.Extending.{Extends, Below}
use Rattle.sc_para.specs.Pairs.{IsIntoPartner}
use Rattle.sc_para.proofs.listing.from_sites_in_order.Given as goal

abbrev pub invariant-loop-into : goal.invariant-loop-into
invariant-loop-into l = Extends para_from_numbers (Below (IsIntoPartner l.given (seen l.partners)) l.into-index) l.limit [] l.sites
