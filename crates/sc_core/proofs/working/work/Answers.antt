use Rattle.std.proofs.Common.{◌∙◌, sym, subst, refl, ◌+◌, ◌≤◌, List, All, map, drop, length, arith}
use Rattle.std.proofs.lemmas.List.{length-map}
use Rattle.sc_core_rules.specs.Book.{numbered_clauses}
use Rattle.sc_core_rules.specs.Turn.{IsPassedOver}
use Rattle.sc_core_rules.specs.WorkList.{At, Again}
use Rattle.sc_core_sites.specs.Sites.{site_of}
use Rattle.sc_core_sites.specs.declared.site.Site.{Site as Told}
use Rattle.sc_core.specs.Items.{HasClause}
use Rattle.sc_core.proofs.UsableLaws.{first_usable, still_usable}
use Rattle.sc_core.proofs.WorkingLaws.{Reaches, starts, none_waits, is_there, site_opened, one_site, one_too_many, one_found, one_worked, still_few, sites_done, goes_to}
use Rattle.sc_core.proofs.working.work.Goals as goal

pub loop-site-init : goal.loop-site-init
loop-site-init c =
    let book = c.args.book.now.book in
    let problem = c.args.book.now.problem in
    let kept = c.keeps.ensures in
    let whole = c.requires.whole in
    let few = c.requires.few in
    record {
      problem = refl;
      whole = whole;
      few = omega (arith, few);
      usable = first_usable problem book c.args.given.now (kept.sound whole) c.requires.listed (kept.usable_canonical whole) (kept.usable_within whole);
      there = subst (All (HasClause (numbered_clauses problem book))) (sym c.new-waiting.ensures.items) (λ k d less. absurd (omega (arith, less)));
      reaches = subst (Reaches problem c.args.turn c.args.given.now book.usable IsPassedOver 100000 book (map At (map site_of c.args.sites.now)) 100000 book)
          (none_waits (map site_of c.args.sites.now) c.new-waiting.result.items c.new-waiting.ensures.items)
          (starts problem c.args.turn c.args.given.now book.usable IsPassedOver 100000 book (map At (map site_of c.args.sites.now)));
    }

pub returns-then-left-eq0-clause-works : goal.returns-then-left-eq0-clause-works
returns-then-left-eq0-clause-works c =
    let there = is_there c.args.sites.now c.as_slice-site-items.result.now c.loop-site.site-index c.site-item.result c.as_slice-site-items.ensures c.loop-site-test.true c.site-item.is in
    one_too_many c.loop-site.invariant.reaches (At (site_of c.site-item.result)) (map At (drop (c.loop-site.site-index + 1) (map site_of c.args.sites.now))) c.loop-site.waiting.items (site_opened there c.loop-site.waiting.items) c.if-left-eq0.true

pub work_site-requires-clause-site : goal.work_site-requires-clause-site
work_site-requires-clause-site c =
    let there = is_there c.args.sites.now c.as_slice-site-items.result.now c.loop-site.site-index c.site-item.result c.as_slice-site-items.ensures c.loop-site-test.true c.site-item.is in (
      c.args.book.now.book.usable,
      one_site there (numbered_clauses c.loop-site.book.problem c.loop-site.book.book) c.args.given.now c.args.book.now.book.usable c.loop-site.invariant.usable c.args.book.now.problem.flags 100001 c.requires.sites,
    )

pub returns-in-Some-clause-works : goal.returns-in-Some-clause-works
returns-in-Some-clause-works c =
    let there = is_there c.args.sites.now c.as_slice-site-items.result.now c.loop-site.site-index c.site-item.result c.as_slice-site-items.ensures c.loop-site-test.true c.site-item.is in
    let going = c.loop-site.invariant in
    let usable = c.args.book.now.book.usable in
    let is = one_site there (numbered_clauses c.loop-site.book.problem c.loop-site.book.book) c.args.given.now usable going.usable c.args.book.now.problem.flags 100001 c.requires.sites in
    one_found going.reaches (At (site_of c.site-item.result)) (map At (drop (c.loop-site.site-index + 1) (map site_of c.args.sites.now))) c.loop-site.waiting.items (site_opened there c.loop-site.waiting.items) c.if-left-eq0.false c.loop-site.book.problem going.problem c.work_site.new.book.book c.work_site.new.waiting.items c.in_ok-k.field-0
    (c.in_ok-k.ensures.worked usable is) c.in-Some.k c.in-Some.is

pub loop-site-preserved : goal.loop-site-preserved
loop-site-preserved c =
    let there = is_there c.args.sites.now c.as_slice-site-items.result.now c.loop-site.site-index c.site-item.result c.as_slice-site-items.ensures c.loop-site-test.true c.site-item.is in
    let going = c.loop-site.invariant in
    let usable = c.args.book.now.book.usable in
    let is = one_site there (numbered_clauses c.loop-site.book.problem c.loop-site.book.book) c.args.given.now usable going.usable c.args.book.now.problem.flags 100001 c.requires.sites in
    let told = c.in_ok-k.ensures in
    record {
      problem = told.problem ∙ going.problem;
      whole = told.whole;
      few = still_few c.loop-site.book.problem c.work_site.new.book.problem c.loop-site.book.book c.work_site.new.book.book c.loop-site.left going.few c.if-left-eq0.false told.problem told.few;
      usable = still_usable (numbered_clauses c.loop-site.book.problem c.loop-site.book.book) (numbered_clauses c.work_site.new.book.problem c.work_site.new.book.book) c.args.given.now usable told.grows going.usable;
      there = told.there;
      reaches = one_worked going.reaches (At (site_of c.site-item.result)) (map At (drop (c.loop-site.site-index + 1) (map site_of c.args.sites.now))) c.loop-site.waiting.items (site_opened there c.loop-site.waiting.items) c.if-left-eq0.false c.loop-site.book.problem going.problem c.work_site.new.book.book c.work_site.new.waiting.items c.in_ok-k.field-0
          (told.worked usable is) c.in-None.is;
    }

pub returns-clause-works : goal.returns-clause-works
returns-clause-works c =
    let long : length c.args.sites.now ≤ c.loop-site.site-index = subst (λ (ys : List Told). length ys ≤ c.loop-site.site-index) c.as_slice-site-items.ensures c.loop-site-test.false in
    let same = length-map c.args.sites.now site_of in
    let going = c.loop-site.invariant in
    goes_to going.reaches (map Again c.loop-site.waiting.items) (sites_done (map site_of c.args.sites.now) c.loop-site.site-index c.loop-site.waiting.items (omega (arith, long, same)))
    c.loop-site.book.problem going.problem c.work_waiting.new.book.book _ (c.in_ok-finish.ensures.works c.args.given.now c.args.book.now.book.usable)
