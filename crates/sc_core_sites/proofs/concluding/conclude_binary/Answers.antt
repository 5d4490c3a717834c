use Rattle.std.proofs.Common.{subst, refl, List}
use Rattle.std.specs.List.{Contains}
use Rattle.sc_term.specs.declared.Numbered.{Numbered}
use Rattle.sc_core_rules.specs.Sites.{Binary}
use Rattle.sc_core_sites.proofs.ConcludingLaws.{concludes, with_partner}
use Rattle.sc_core_sites.proofs.concluding.conclude_binary.Goals as goal

pub make_binary-requires-clause-site : goal.make_binary-requires-clause-site
make_binary-requires-clause-site c = (
  c.requires.site.0,
  with_partner c.args.given.now c.args.parents.now c.requires.differ c.args.site.now.partner c.in-Some.partner.now c.in-Some.ensures.0
      (subst (λ (l : List Numbered). Contains l c.in-Some.partner.now) c.as_slice.ensures c.in-Some.ensures.1) c.args.site.now refl c.requires.site.0 c.requires.site.1,
)

pub returns-in-Some : goal.returns-in-Some
returns-in-Some c =
    concludes c.args.given.now c.args.parents.now (Binary c.args.site.now) c.make_binary.result c.requires.site
    (λ i h. c.make_binary.ensures i
    (with_partner c.args.given.now c.args.parents.now c.requires.differ c.args.site.now.partner c.in-Some.partner.now c.in-Some.ensures.0
    (subst (λ (l : List Numbered). Contains l c.in-Some.partner.now) c.as_slice.ensures c.in-Some.ensures.1) c.args.site.now refl i h))
