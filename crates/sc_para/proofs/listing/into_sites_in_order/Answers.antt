use Rattle.std.proofs.Common.{List, length, arith, [], ◌≡◌, subst}
use Rattle.std.specs.Borrow.{Bor}
use Rattle.std.proofs.lemmas.List.{length-map}
use Rattle.sc_term.specs.declared.Numbered.{Numbered}
use Rattle.sc_core_rules.specs.Paramodulation.{para_into_numbers}
use Rattle.sc_resolve.specs.ByNumber.{seen}
use Rattle.sc_resolve.specs.Extending.{Extends, Below}
use Rattle.sc_resolve.proofs.Extending.{goes_on, stops}
use Rattle.sc_resolve.specs.Kept.{IsKept}
use Rattle.sc_resolve.proofs.OrderLaws.{seen_at, all_at}
use Rattle.sc_para.specs.Pairs.{IsFromPartner}
use Rattle.sc_para.proofs.ListingLaws.{from_rise, from_partner, are_into_sites}
use Rattle.sc_para.proofs.listing.into_sites_in_order.Goals as goal

pub returns-then-len-limit : goal.returns-then-len-limit
returns-then-len-limit c =
    let partners = seen c.args.partners.now in
    let long = length-map c.args.partners.now (λ (p : Bor Numbered). p.now) in
    are_into_sites c.args.given.now partners c.args.limit c.loop-from.sites
    (stops para_into_numbers c.args.limit (IsFromPartner c.args.given.now partners) (from_rise c.args.given.now partners c.requires.rising)
    c.loop-from.from-index (length partners) [] c.loop-from.sites c.loop-from.invariant (omega arith) (omega (arith, long)))

pub add_with_pair-requires-clause-from : goal.add_with_pair-requires-clause-from
add_with_pair-requires-clause-from c = all_at (λ p. IsKept p.clause) c.args.partners.now c.loop-from.from-index c.from-item.result c.loop-from-test.true c.from-item.is c.requires.kept

pub loop-from-preserved : goal.loop-from-preserved
loop-from-preserved c =
    let partners = seen c.args.partners.now in
    let there = seen_at c.args.partners.now c.loop-from.from-index c.from-item.result c.loop-from-test.true c.from-item.is in
    goes_on para_into_numbers c.args.limit (IsFromPartner c.args.given.now partners) (from_rise c.args.given.now partners c.requires.rising)
    c.loop-from.from-index [] c.loop-from.sites c.add_with_pair.new.sites c.loop-from.invariant
    (from_partner c.args.given.now partners c.args.limit c.loop-from.from-index c.from-item.result.now there c.loop-from.sites c.add_with_pair.new.sites c.in_ok-add_with_pair.ensures)

pub returns : goal.returns
returns c =
    let partners = seen c.args.partners.now in
    let long : c.loop-from.from-index ≡ length partners = omega (arith, length-map c.args.partners.now (λ (p : Bor Numbered). p.now)) in
    are_into_sites c.args.given.now partners c.args.limit c.loop-from.sites
    (subst (λ n. Extends para_into_numbers (Below (IsFromPartner c.args.given.now partners) n) c.args.limit [] c.loop-from.sites) long c.loop-from.invariant)
