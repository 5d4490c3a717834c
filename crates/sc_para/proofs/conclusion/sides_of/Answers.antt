use Rattle.std.proofs.Common.{sym, true}
use Rattle.sc_term.specs.Numbering.{numbered}
use Rattle.sc_term.specs.Refuted.{equation}
use Rattle.sc_core_rules.proofs.StepLaws.{same_some}
use Rattle.sc_para.proofs.conclusion.sides_of.Goals as goal

pub returns-in-None-clause-none : goal.returns-in-None-clause-none
returns-in-None-clause-none c = λ s t h.
    c.in-None.ensures.none h.0 h.1 (same_some (numbered c.args.literals.now c.args.n) c.in-Some.l.now (equation true h.0 h.1) (sym c.in-Some.ensures) h.2)
