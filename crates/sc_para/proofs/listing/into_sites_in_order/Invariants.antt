use Rattle.std.proofs.Common.{[]}
use Rattle.sc_core_rules.specs.Paramodulation.{para_into_numbers}
use Rattle.sc_resolve.specs.ByNumber.{seen}
use Rattle.sc_resolve.specs.Extending.{Extends, Below}
use Rattle.sc_para.specs.Pairs.{IsFromPartner}
use Rattle.sc_para.proofs.listing.into_sites_in_order.Given as goal

abbrev pub invariant-loop-from : goal.invariant-loop-from
invariant-loop-from l = Extends para_into_numbers (Below (IsFromPartner l.given (seen l.partners)) l.from-index) l.limit [] l.sites
