use Rattle.std.proofs.Common.{ap, List, [], ◌≡◌, length, subst, arith}
use Rattle.sc_term.specs.declared.Literal.{Literal}
use Rattle.sc_core_rules.specs.Resolution.{factor_numbers}
use Rattle.sc_resolve.specs.Extending.{Extends, Below}
use Rattle.sc_resolve.specs.Factor.{IsWithFirst}
use Rattle.sc_resolve.proofs.Extending.{goes_on, stops}
use Rattle.sc_resolve.proofs.KeptLaws.{kept_length}
use Rattle.sc_resolve.proofs.FactorLaws.{firsts_rise, are_sites}
use Rattle.sc_resolve.proofs.factor.factor_sites.Goals as goal

pub returns-then-len-limit : goal.returns-then-len-limit
returns-then-len-limit c =
    let all = c.as_slice-literals.result.now in
    are_sites c.args.given.now c.args.limit c.loop-first.sites
    (subst (λ (ls : List Literal). Extends factor_numbers (Below (IsWithFirst ls) (length ls)) c.args.limit [] c.loop-first.sites) c.as_slice-literals.ensures
    (stops factor_numbers c.args.limit (IsWithFirst all) (firsts_rise all) c.loop-first.first (length all) [] c.loop-first.sites c.loop-first.invariant (omega arith) (omega arith)))

pub loop-first-preserved : goal.loop-first-preserved
loop-first-preserved c =
    let all = c.as_slice-literals.result.now in
    goes_on factor_numbers c.args.limit (IsWithFirst all) (firsts_rise all) c.loop-first.first [] c.loop-first.sites c.add_with_first.new.sites c.loop-first.invariant c.in_ok-add_with_first.ensures

pub add_with_first-requires-clause-few : goal.add_with_first-requires-clause-few
add_with_first-requires-clause-few c = omega (arith, kept_length c.args.given.now.clause c.requires, ap (λ (ls : List Literal). length ls) c.as_slice-literals.ensures)

pub returns : goal.returns
returns c =
    let all = c.as_slice-literals.result.now in
    let long : c.loop-first.first ≡ length all = omega arith in
    are_sites c.args.given.now c.args.limit c.loop-first.sites
    (subst (λ (ls : List Literal). Extends factor_numbers (Below (IsWithFirst ls) (length ls)) c.args.limit [] c.loop-first.sites) c.as_slice-literals.ensures
    (subst (λ n. Extends factor_numbers (Below (IsWithFirst all) n) c.args.limit [] c.loop-first.sites) long c.loop-first.invariant))
