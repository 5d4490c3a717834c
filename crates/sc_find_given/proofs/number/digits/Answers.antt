use Rattle.std.proofs.Common.{◌≡◌, ◌∙◌, ap, subst, ℕ, reverse, arith}
use Rattle.std.proofs.lemmas.List.{with_items_is}
use Rattle.sc_find_given.proofs.DigitLaws.{AreDigits, digits_step, digits_all}
use Rattle.sc_find_given.proofs.number.digits.Goals as goal

pub loop-digit-preserved : goal.loop-digit-preserved
loop-digit-preserved c =
    digits_step c.args.base c.from-base.result c.args.count c.args.number c.loop-digit._digit c.loop-digit.rest c.loop-digit.digits.items c.push.new.self.items
    c.from-base.ensures c.in_ok-push.ensures.items c.loop-digit.invariant

pub returns : goal.returns
returns c = λ ds long below is.
    let all : c.loop-digit._digit ≡ c.args.count = omega arith in
    let taken : AreDigits c.args.base c.args.count c.args.number c.args.count c.loop-digit.digits.items c.loop-digit.rest
    = subst (λ (n : ℕ). AreDigits c.args.base c.args.count c.args.number n c.loop-digit.digits.items c.loop-digit.rest) all c.loop-digit.invariant in
    let after = with_items_is c.loop-digit.digits c.reverse.new.self (omega (arith, c.reverse.ensures.len, c.as_mut_slice.ensures.len)) in
    c.from_vec.ensures ∙ after ∙ c.reverse.ensures.after ∙ ap reverse c.as_mut_slice.ensures.value
    ∙ digits_all c.args.base c.args.count c.args.number c.loop-digit.rest c.loop-digit.digits.items taken ds long below is
