use Rattle.std.proofs.Common.{◌∙◌, sym}
use Rattle.sc_input_limits.proofs.Literals.{literal_begins, literal_begins_signed, literal_goes_on}
use Rattle.sc_input_limits.proofs.count.LiteralCount.add.Goals as goal

pub returns-else-is_sign-2-clause-counted : goal.returns-else-is_sign-2-clause-counted
returns-else-is_sign-2-clause-counted c = λ tokens h.
    literal_begins tokens c.args.token.now c.args.self.now c.begin.new.self (sym c.is_sign.ensures ∙ c.if-is_sign.false) (sym c.is_sign-in-Start.ensures ∙ c.if-is_sign-2.false) h c.in-Start.is
    (record { part = c.begin.ensures.part; bracket = c.begin.ensures.bracket; grows = c.begin.ensures.counted })

pub returns-in-Signed-clause-counted : goal.returns-in-Signed-clause-counted
returns-in-Signed-clause-counted c = λ tokens h.
    literal_begins_signed tokens c.args.token.now c.args.self.now c.begin-in-Signed.new.self (sym c.is_sign.ensures ∙ c.if-is_sign.false) h c.in-Signed.is
    (record { part = c.begin-in-Signed.ensures.part; bracket = c.begin-in-Signed.ensures.bracket; grows = c.begin-in-Signed.ensures.counted })

pub returns-in-Inside-clause-counted : goal.returns-in-Inside-clause-counted
returns-in-Inside-clause-counted c = λ tokens h.
    rw c.in-Inside.is (literal_goes_on tokens c.args.token.now c.args.self.now c.add.new.self (sym c.is_sign.ensures ∙ c.if-is_sign.false) h c.in-Inside.is c.add.ensures.counted)
