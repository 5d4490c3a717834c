use Rattle.sc_steps.proofs.ModelLaws.{not_all_true}
use Rattle.sc_steps.proofs.checking.model.no_model.Goals as goal

pub returns : goal.returns
returns g c = λ all.
    not_all_true (g.I.Interpretation.is_element c.args.i.now) (record { function = g.I.Interpretation.function c.args.i.now; predicate = g.I.Interpretation.predicate c.args.i.now })
    (g.I.Interpretation.element c.args.i.now) (g.I.Interpretation.element_is c.args.i.now) (g.I.Interpretation.function_is c.args.i.now) c.args.inputs.now c.requires all
