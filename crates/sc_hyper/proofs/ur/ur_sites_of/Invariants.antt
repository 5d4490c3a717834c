use Rattle.std.proofs.Common.{◌≡◌, map, take}
use Rattle.sc_hyper.specs.Ur.{ur_of}
use Rattle.sc_hyper.proofs.ur.ur_sites_of.Given as goal

abbrev pub invariant-loop-site : goal.invariant-loop-site
invariant-loop-site l = l.sites ≡ map (ur_of l.target) (take l.site-index l.whole)
