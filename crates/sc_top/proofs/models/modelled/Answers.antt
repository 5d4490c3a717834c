use Rattle.std.proofs.Common.{sym, subst, All}
use Rattle.sc_input_rules.specs.WellFormed.{IsOver}
use Rattle.sc_find_laws.proofs.ModelLaws.{problem_over}
use Rattle.sc_top.proofs.models.modelled.Goals as goal

pub new-requires-clause-over : goal.new-requires-clause-over
new-requires-clause-over g c =
    rw (c.sig.ensures, c.inputs.ensures) ((problem_over c.args.problem.now c.args.size c.keeps.ensures).over)
