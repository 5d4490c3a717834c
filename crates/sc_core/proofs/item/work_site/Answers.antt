use Rattle.std.proofs.Common.{subst, Option}
use Rattle.sc_steps.specs.declared.derivations.made.Made.{Made}
use Rattle.sc_core_rules.specs.Book.{numbered_clauses}
use Rattle.sc_core_rules.specs.Turn.{IsPassedOver}
use Rattle.sc_core_rules.specs.WorkList.{At}
use Rattle.sc_core_sites.specs.Sites.{site_of, IsConclusion}
use Rattle.sc_core.proofs.ItemLaws.{nothing_given}
use Rattle.sc_core.proofs.UsableLaws.{made_checks}
use Rattle.sc_core.proofs.item.work_site.Goals as goal

pub process_made-requires-clause-steps : goal.process_made-requires-clause-steps
process_made-requires-clause-steps c =
    made_checks (numbered_clauses c.args.book.now.problem c.args.book.now.book) c.args.given.now c.requires.site.0 (site_of c.args.site.now) c.requires.site.1 c.in-Some.made
    (subst (λ (o : Option Made). IsConclusion c.args.given.now c.requires.site.0 (site_of c.args.site.now) o) c.in-Some.is (c.in_ok-made.ensures c.requires.site.0 c.requires.site.1))

pub returns-in_ok-found-in-Some-clause-worked : goal.returns-in_ok-found-in-Some-clause-worked
returns-in_ok-found-in-Some-clause-worked c usable is =
    c.in_ok-found-in-Some.ensures.worked c.args.given.now usable (At (site_of c.args.site.now))
    ((λ passed. passed), subst (λ (o : Option Made). IsConclusion c.args.given.now usable (site_of c.args.site.now) o) c.in-Some.is (c.in_ok-made.ensures usable is))

pub returns-in-None-clause-worked : goal.returns-in-None-clause-worked
returns-in-None-clause-worked c usable is =
    nothing_given c.args.book.now.problem c.args.turn c.args.given.now usable IsPassedOver c.args.book.now.book c.args.waiting.now.items (site_of c.args.site.now)
    (subst (λ (o : Option Made). IsConclusion c.args.given.now usable (site_of c.args.site.now) o) c.in-None.is (c.in_ok-made.ensures usable is))
