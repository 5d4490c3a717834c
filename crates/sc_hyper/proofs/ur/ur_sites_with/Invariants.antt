use Rattle.std.proofs.Common.{[]}
use Rattle.sc_core_rules.specs.Hyperresolution.{ur_numbers}
use Rattle.sc_resolve.specs.ByNumber.{seen}
use Rattle.sc_resolve.specs.Extending.{Extends, Below}
use Rattle.sc_hyper.specs.Ur.{IsWithUrUsable}
use Rattle.sc_hyper.proofs.ur.ur_sites_with.Given as goal

abbrev pub invariant-loop-nucleus : goal.invariant-loop-nucleus
invariant-loop-nucleus l = Extends ur_numbers (Below (IsWithUrUsable l.given l.units (seen l.usable)) l.nucleus-index) l.limit [] l.sites
