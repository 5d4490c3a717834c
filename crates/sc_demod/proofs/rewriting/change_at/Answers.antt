use Rattle.std.proofs.Common.{◌≡◌, ◌∙◌, sym, subst, ◌↔◌, IfSome, IsSome, refl, true≢false}
use Rattle.sc_term.specs.Clause.{instance, IsWithinLimits}
use Rattle.sc_demod.proofs.ChangeLaws.{long, too_heavy, result_heavy, is_change}
use Rattle.sc_demod.proofs.rewriting.change_at.Goals as goal

pub instance-requires : goal.instance-requires
instance-requires c =
    let r = c.args.found.redex in
    long c.args.demods.now c.requires.are c.args.clause.now c.args.found.literal r.path.items r.place r.terms c.requires.found c.index-demods-found.result c.index-demods-found.is

pub returns-in-None : goal.returns-in-None
returns-in-None c =
    let r = c.args.found.redex in
    let e = c.index-demods-found.result in
    let limits = subst (λ o. IsSome o ↔ IsWithinLimits (instance r.terms e.clause)) c.in-None.is c.in_ok-part.ensures.limits in
    too_heavy c.args.demods.now c.requires.are c.args.clause.now c.args.found.literal r.path.items r.place r.terms c.requires.found e c.index-demods-found.is (λ w. true≢false (sym (limits.1 w)))

pub returns-then-not-is_within_limits : goal.returns-then-not-is_within_limits
returns-then-not-is_within_limits c =
    let r = c.args.found.redex in
    let e = c.index-demods-found.result in
    let both = c.in-Some-sides.both in
    let part = subst (λ o. IfSome o (λ d. d ≡ instance r.terms e.clause)) c.in-Some.is c.in_ok-part.ensures.value in
    result_heavy c.args.demods.now c.requires.are c.args.clause.now c.args.found.literal r.path.items r.place r.terms c.requires.found e c.index-demods-found.is
    c.in-Some.part c.in_ok-after.after both.0.now both.1.now c.as_slice-path.result.now part c.in-Some-sides.ensures.found c.as_slice-path.ensures.value c.in_ok-after.ensures
    (λ w. true≢false (sym (c.is_within_limits.ensures.1 w) ∙ c.if-not-is_within_limits.true))

pub returns : goal.returns
returns c =
    let r = c.args.found.redex in
    let e = c.index-demods-found.result in
    let both = c.in-Some-sides.both in
    let part = subst (λ o. IfSome o (λ d. d ≡ instance r.terms e.clause)) c.in-Some.is c.in_ok-part.ensures.value in
    let limits = subst (λ o. IsSome o ↔ IsWithinLimits (instance r.terms e.clause)) c.in-Some.is c.in_ok-part.ensures.limits in
    is_change c.args.demods.now c.requires.are c.args.clause.now c.args.found.literal r.path.items r.place r.terms c.requires.found e c.index-demods-found.is
    c.in-Some.part c.in_ok-after.after both.0.now both.1.now c.as_slice-path.result.now part c.in-Some-sides.ensures.found c.as_slice-path.ensures.value c.in_ok-after.ensures
    (subst IsWithinLimits (sym part) (limits.0 refl)) (c.is_within_limits.ensures.0 c.if-not-is_within_limits.false)
