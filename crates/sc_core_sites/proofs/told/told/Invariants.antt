use Rattle.std.proofs.Common.{List, ◌++◌, length, reverse}
use Rattle.std.specs.List.{AllZip}
use Rattle.sc_core_sites.specs.declared.site.Site.{Site}
use Rattle.sc_core_sites.proofs.told.told.Given as goal

abbrev pub invariant-loop-site : goal.invariant-loop-site
invariant-loop-site g l = (ys : List Site) → AllZip (λ s x. goal.F-post g l.fn.tell s x) l.rest ys → AllZip (λ s x. goal.F-post g l.fn.tell s x) l.fn.found (ys ++ reverse l.turned.items)

abbrev pub decreases-loop-site : goal.decreases-loop-site
decreases-loop-site g l = length l.rest
