use Rattle.std.proofs.Common.{ap, List, length, arith, [], ◌≡◌, subst}
use Rattle.std.proofs.lemmas.List.{length-map}
use Rattle.std.specs.Borrow.{Bor}
use Rattle.sc_term.specs.declared.Numbered.{Numbered}
use Rattle.sc_core_rules.specs.Resolution.{binary_numbers}
use Rattle.sc_resolve.specs.ByNumber.{seen}
use Rattle.sc_resolve.specs.Extending.{Extends, Below}
use Rattle.sc_resolve.specs.Binary.{IsWithPartner}
use Rattle.sc_resolve.proofs.Extending.{goes_on, stops}
use Rattle.sc_resolve.specs.Kept.{IsKept}
use Rattle.sc_resolve.proofs.OrderLaws.{seen_at, all_at}
use Rattle.sc_resolve.proofs.BinaryLaws.{partners_rise, with_partner, are_sites}
use Rattle.sc_resolve.proofs.binary.sites_in_order.Goals as goal

pub returns-then-len-limit : goal.returns-then-len-limit
returns-then-len-limit c =
    let partners = seen c.args.partners.now in
    let long = length-map c.args.partners.now (λ (p : Bor Numbered). p.now) in
    are_sites c.args.given.now partners c.args.limit c.loop-partner.sites
    (stops binary_numbers c.args.limit (IsWithPartner c.args.given.now partners) (partners_rise c.args.given.now partners c.requires.rising)
    c.loop-partner.partner-index (length partners) [] c.loop-partner.sites c.loop-partner.invariant (omega arith) (omega (arith, long)))

pub add_with_partner-requires-clause-partner : goal.add_with_partner-requires-clause-partner
add_with_partner-requires-clause-partner c = all_at (λ p. IsKept p.clause) c.args.partners.now c.loop-partner.partner-index c.partner-item.result c.loop-partner-test.true c.partner-item.is c.requires.kept

pub loop-partner-preserved : goal.loop-partner-preserved
loop-partner-preserved c =
    let partners = seen c.args.partners.now in
    let there = seen_at c.args.partners.now c.loop-partner.partner-index c.partner-item.result c.loop-partner-test.true c.partner-item.is in
    goes_on binary_numbers c.args.limit (IsWithPartner c.args.given.now partners) (partners_rise c.args.given.now partners c.requires.rising)
    c.loop-partner.partner-index [] c.loop-partner.sites c.add_with_partner.new.sites c.loop-partner.invariant
    (with_partner c.args.limit c.args.given.now partners c.loop-partner.partner-index c.partner-item.result.now there c.loop-partner.sites c.add_with_partner.new.sites c.in_ok-add_with_partner.ensures)

pub returns : goal.returns
returns c =
    let partners = seen c.args.partners.now in
    let long : c.loop-partner.partner-index ≡ length partners = omega (arith, length-map c.args.partners.now (λ (p : Bor Numbered). p.now)) in
    are_sites c.args.given.now partners c.args.limit c.loop-partner.sites
    (subst (λ n. Extends binary_numbers (Below (IsWithPartner c.args.given.now partners) n) c.args.limit [] c.loop-partner.sites) long c.loop-partner.invariant)
