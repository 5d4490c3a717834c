use Rattle.std.proofs.Common.{◌≡◌, subst, [], length, arith}
use Rattle.std.proofs.lemmas.List.{length-map}
use Rattle.std.specs.Borrow.{Bor}
use Rattle.sc_term.specs.declared.Numbered.{Numbered}
use Rattle.sc_core_rules.specs.Hyperresolution.{hyper_numbers}
use Rattle.sc_resolve.specs.Extending.{Extends, Below}
use Rattle.sc_resolve.specs.ByNumber.{seen}
use Rattle.sc_resolve.specs.Kept.{IsKept}
use Rattle.sc_resolve.proofs.OrderLaws.{seen_at, all_at}
use Rattle.sc_resolve.proofs.Extending.{goes_on, stops}
use Rattle.sc_hyper.specs.Choosing.{IsWithUsable}
use Rattle.sc_hyper.proofs.HyperLaws.{usables_rise, with_usable}
use Rattle.sc_hyper.proofs.hyper.sites_with.Goals as goal

pub returns-then-len-limit : goal.returns-then-len-limit
returns-then-len-limit c =
    let usable = seen c.args.usable.now in
    let all = c.args.candidates.now in
    stops hyper_numbers c.args.limit (IsWithUsable c.args.given all usable) (usables_rise c.args.given all usable c.requires.numbers)
    c.loop-nucleus.nucleus-index (length usable) [] c.loop-nucleus.sites c.loop-nucleus.invariant (omega arith) (omega (arith, length-map c.args.usable.now (λ (p : Bor Numbered). p.now)))

pub loop-nucleus-preserved : goal.loop-nucleus-preserved
loop-nucleus-preserved c =
    let usable = seen c.args.usable.now in
    let all = c.args.candidates.now in
    let at = c.loop-nucleus.nucleus-index in
    let there = seen_at c.args.usable.now at c.nucleus-item.result c.loop-nucleus-test.true c.nucleus-item.is in
    goes_on hyper_numbers c.args.limit (IsWithUsable c.args.given all usable) (usables_rise c.args.given all usable c.requires.numbers)
    at [] c.loop-nucleus.sites c.add_with_nucleus.new.sites c.loop-nucleus.invariant
    (with_usable c.args.given all c.args.limit usable at c.nucleus-item.result.now there c.loop-nucleus.sites c.add_with_nucleus.new.sites c.in_ok-add_with_nucleus.ensures)

pub add_with_nucleus-requires-clause-kept : goal.add_with_nucleus-requires-clause-kept
add_with_nucleus-requires-clause-kept c = all_at (λ p. IsKept p.clause) c.args.usable.now c.loop-nucleus.nucleus-index c.nucleus-item.result c.loop-nucleus-test.true c.nucleus-item.is c.requires.kept

pub returns : goal.returns
returns c =
    let usable = seen c.args.usable.now in
    let long : c.loop-nucleus.nucleus-index ≡ length usable = omega (arith, c.loop-nucleus.auto.nucleus-index-end, length-map c.args.usable.now (λ (p : Bor Numbered). p.now)) in
    subst (λ n. Extends hyper_numbers (Below (IsWithUsable c.args.given c.args.candidates.now usable) n) c.args.limit [] c.loop-nucleus.sites) long c.loop-nucleus.invariant
