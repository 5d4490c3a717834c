use Rattle.std.proofs.Common.{List, length, arith, [], ◌≡◌, subst}
use Rattle.std.specs.Borrow.{Bor}
use Rattle.std.proofs.lemmas.List.{length-map}
use Rattle.sc_term.specs.declared.Numbered.{Numbered}
use Rattle.sc_core_rules.specs.Paramodulation.{para_from_numbers}
use Rattle.sc_resolve.specs.ByNumber.{seen}
use Rattle.sc_resolve.specs.Extending.{Extends, Below}
use Rattle.sc_resolve.proofs.Extending.{goes_on, stops}
use Rattle.sc_resolve.specs.Kept.{IsKept}
use Rattle.sc_resolve.proofs.OrderLaws.{seen_at, all_at}
use Rattle.sc_para.specs.Pairs.{IsIntoPartner}
use Rattle.sc_para.proofs.ListingLaws.{into_rise, into_partner, are_from_sites}
use Rattle.sc_para.proofs.listing.from_sites_in_order.Goals as goal

pub returns-then-len-limit : goal.returns-then-len-limit
returns-then-len-limit c =
    let partners = seen c.args.partners.now in
    let long = length-map c.args.partners.now (λ (p : Bor Numbered). p.now) in
    are_from_sites c.args.given.now partners c.args.limit c.loop-into.sites
    (stops para_from_numbers c.args.limit (IsIntoPartner c.args.given.now partners) (into_rise c.args.given.now partners c.requires.rising)
    c.loop-into.into-index (length partners) [] c.loop-into.sites c.loop-into.invariant (omega arith) (omega (arith, long)))

pub add_with_pair-requires-clause-into : goal.add_with_pair-requires-clause-into
add_with_pair-requires-clause-into c = all_at (λ p. IsKept p.clause) c.args.partners.now c.loop-into.into-index c.into-item.result c.loop-into-test.true c.into-item.is c.requires.kept

pub loop-into-preserved : goal.loop-into-preserved
loop-into-preserved c =
    let partners = seen c.args.partners.now in
    let there = seen_at c.args.partners.now c.loop-into.into-index c.into-item.result c.loop-into-test.true c.into-item.is in
    goes_on para_from_numbers c.args.limit (IsIntoPartner c.args.given.now partners) (into_rise c.args.given.now partners c.requires.rising)
    c.loop-into.into-index [] c.loop-into.sites c.add_with_pair.new.sites c.loop-into.invariant
    (into_partner c.args.given.now partners c.args.limit c.loop-into.into-index c.into-item.result.now there c.loop-into.sites c.add_with_pair.new.sites c.in_ok-add_with_pair.ensures)

pub returns : goal.returns
returns c =
    let partners = seen c.args.partners.now in
    let long : c.loop-into.into-index ≡ length partners = omega (arith, length-map c.args.partners.now (λ (p : Bor Numbered). p.now)) in
    are_from_sites c.args.given.now partners c.args.limit c.loop-into.sites
    (subst (λ n. Extends para_from_numbers (Below (IsIntoPartner c.args.given.now partners) n) c.args.limit [] c.loop-into.sites) long c.loop-into.invariant)
