use Rattle.std.proofs.Common.{sym, subst, List}
use Rattle.sc_term.specs.declared.Clause.{Clause}
use Rattle.sc_term.specs.Refuted.{IsRefuted}
use Rattle.sc_term.specs.Proof.{IsProof}
use Rattle.sc_top.proofs.AnswerLaws.{has_proof}
use Rattle.sc_top.proofs.judge_lines.Goals as goal

pub returns-in-Ok-clause-decided : goal.returns-in-Ok-clause-decided
returns-in-Ok-clause-decided c = λ bytes e.
    has_proof bytes _ _ c.args.lines.now e (sym c.len.ensures)
    (subst (λ (inputs : List Clause). IsProof inputs c.args.lines.now) c.inputs.ensures c.in-Ok.ensures.ok)
    (subst IsRefuted c.inputs.ensures c.in-Ok.ensures.refuted)
