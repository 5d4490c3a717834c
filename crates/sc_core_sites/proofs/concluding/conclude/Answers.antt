use Rattle.std.proofs.Common.{ap}
use Rattle.sc_core_rules.specs.Sites.{Factor, Hyper, Ur}
use Rattle.sc_core_sites.specs.Sites.{site_of}
use Rattle.sc_core_sites.proofs.ConcludingLaws.{concludes_told}
use Rattle.sc_core_sites.proofs.concluding.conclude.Goals as goal

pub returns-in-Factor : goal.returns-in-Factor
returns-in-Factor c =
    concludes_told c.args.given.now c.args.parents.now c.args.site.now (Factor c.in-Factor.factor) (ap site_of c.in-Factor.is) c.make_factor.result c.requires.site
    (λ i h. c.make_factor.ensures i h)

pub returns-in-Hyper : goal.returns-in-Hyper
returns-in-Hyper c =
    concludes_told c.args.given.now c.args.parents.now c.args.site.now (Hyper c.in-Hyper.hyper) (ap site_of c.in-Hyper.is) c.make_hyper.result c.requires.site
    (λ i h. c.make_hyper.ensures c.args.given.now i h)

pub returns-in-Ur : goal.returns-in-Ur
returns-in-Ur c =
    concludes_told c.args.given.now c.args.parents.now c.args.site.now (Ur c.in-Ur.ur) (ap site_of c.in-Ur.is) c.make_ur.result c.requires.site
    (λ i h. c.make_ur.ensures c.args.given.now i h)
