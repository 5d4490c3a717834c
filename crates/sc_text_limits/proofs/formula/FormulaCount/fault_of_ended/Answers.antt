use Rattle.std.proofs.Common.{◌∙◌, sym, ap, Bool}
use Rattle.sc_text_limits.specs.Names.{as_occurrence}
use Rattle.sc_text_limits.specs.Limits.{fault_of_name}
use Rattle.sc_text_limits.proofs.Keeping.{ended_told}
use Rattle.sc_text_limits.proofs.formula.FormulaCount.fault_of_ended.Goals as goal

pub returns-in-Some : goal.returns-in-Some
returns-in-Some c = λ formula h.
    let symbols = c.args.sig.now in
    let name = c.in-Some.name in
    c.fault_of_name.ensures.told ∙ ap (λ (b : Bool). fault_of_name symbols b (as_occurrence name)) c.is_in_term.ensures
    ∙ ended_told symbols c.args.tokens.now formula c.args.is_term c.args.token.now c.args.self.now c.name_in.result name c.fault_of_name.ensures.keeps (sym c.is_sign.ensures ∙ c.if-is_sign.false) c.name_in.ensures c.in-Some.is h
