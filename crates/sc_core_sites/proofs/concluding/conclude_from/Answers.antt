use Rattle.std.proofs.Common.{subst, refl, List}
use Rattle.std.specs.List.{Contains}
use Rattle.sc_term.specs.declared.Numbered.{Numbered}
use Rattle.sc_core_rules.specs.Sites.{ParaFrom}
use Rattle.sc_core_sites.proofs.ConcludingLaws.{concludes, into_this}
use Rattle.sc_core_sites.proofs.concluding.conclude_from.Goals as goal

pub make_para-requires-clause-site : goal.make_para-requires-clause-site
make_para-requires-clause-site c = (
  c.requires.site.0,
  into_this c.args.given.now c.args.parents.now c.requires.differ c.args.site.now.into c.in-Some.into.now c.in-Some.ensures.0
      (subst (λ (l : List Numbered). Contains l c.in-Some.into.now) c.as_slice.ensures c.in-Some.ensures.1) c.args.site.now refl c.requires.site.0 c.requires.site.1,
)

pub returns-in-Some : goal.returns-in-Some
returns-in-Some c =
    concludes c.args.given.now c.args.parents.now (ParaFrom c.args.site.now) c.make_para.result c.requires.site
    (λ i h. c.make_para.ensures i
    (into_this c.args.given.now c.args.parents.now c.requires.differ c.args.site.now.into c.in-Some.into.now c.in-Some.ensures.0
    (subst (λ (l : List Numbered). Contains l c.in-Some.into.now) c.as_slice.ensures c.in-Some.ensures.1) c.args.site.now refl i h))
