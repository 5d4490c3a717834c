use Rattle.std.proofs.Common.{[]}
use Rattle.sc_core_rules.specs.Hyperresolution.{hyper_numbers}
use Rattle.sc_resolve.specs.ByNumber.{seen}
use Rattle.sc_resolve.specs.Extending.{Extends, Below}
use Rattle.sc_hyper.specs.Choosing.{IsWithUsable}
use Rattle.sc_hyper.proofs.hyper.sites_with.Given as goal

abbrev pub invariant-loop-nucleus : goal.invariant-loop-nucleus
invariant-loop-nucleus l = Extends hyper_numbers (Below (IsWithUsable l.given l.candidates (seen l.usable)) l.nucleus-index) l.limit [] l.sites
