use Rattle.std.proofs.Common.{◌≡◌, subst, ◌+◌, take}
use Rattle.std.specs.Prelude.{Option, Some, IfSome}
use Rattle.sc_input_rules.specs.declared.fault.Place.{Place}
use Rattle.sc_input_rules.specs.Faults.{first_passed}
use Rattle.sc_input_limits.proofs.OnePosition.{passed_by_first}
use Rattle.sc_text_rules.specs.TextLimits.{text_bounds, text_fault_at}
use Rattle.sc_text_limits.proofs.first.first_limit.Goals as goal

pub returns-in-Some-clause-told : goal.returns-in-Some-clause-told
returns-in-Some-clause-told c =
    let fault_at = text_fault_at text_bounds c.args.sig.now in
    let P : Option Place → Type 0 = λ told. IfSome told (λ p. first_passed fault_at (take (c.loop-token.token + 1) c.args.tokens.now) ≡ Some p) in
    passed_by_first fault_at (c.loop-token.token + 1) c.args.tokens.now c.in-Some.place (subst P c.in-Some.is c.in_ok-place.ensures.passes)

pub loop-token-init : goal.loop-token-init
loop-token-init c = c.new-reached.ensures c.args.sig.now c.args.tokens.now
