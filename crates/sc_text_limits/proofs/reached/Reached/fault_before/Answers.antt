use Rattle.std.proofs.Common.{◌∙◌, sym, ap}
use Rattle.std.specs.Prelude.{option_map}
use Rattle.sc_input_rules.specs.declared.fault.InputKind.TheVariants.{OutOfRange}
use Rattle.sc_input_rules.specs.Faults.{place}
use Rattle.sc_text_limits.specs.declared.part.SentencePart.{SentencePart}
use Rattle.sc_text_limits.specs.Parts.{formula_in}
use Rattle.sc_text_limits.proofs.Faults.{before_name}
use Rattle.sc_text_limits.proofs.Going.{number_before, row_name_before}
use Rattle.sc_text_limits.proofs.reached.Reached.fault_before.Goals as goal

pub returns-in-Terms : goal.returns-in-Terms
returns-in-Terms c = λ sentence formula s h.
    c.fault_of_ended.ensures formula h ∙ sym (before_name c.args.sig.now sentence _ c.args.token.now (s.so_far ∙ ap (λ (p : SentencePart). formula_in p formula) c.in-Terms.is))

pub returns-in-Clause : goal.returns-in-Clause
returns-in-Clause c = λ sentence formula s h.
    c.fault_of_ended-in-Clause.ensures formula h ∙ sym (before_name c.args.sig.now sentence _ c.args.token.now (s.so_far ∙ ap (λ (p : SentencePart). formula_in p formula) c.in-Clause.is))

pub returns-in-RowName : goal.returns-in-RowName
returns-in-RowName c = λ sentence formula s h. row_name_before c.args.sig.now sentence formula c.args.self.now.part c.args.token.now s c.in-RowName.is

pub returns-in_default : goal.returns-in_default
returns-in_default c = λ sentence formula s h.
    c.out_of_range.ensures ∙ ap (option_map (λ n. place n OutOfRange)) c.number_told.ensures
    ∙ number_before c.args.sig.now sentence formula c.args.self.now.part c.args.token.now s c.in_default.not-RowName c.in_default.not-Terms c.in_default.not-Clause
