use Rattle.sc_text_limits.proofs.Keeping.{kept_with}
use Rattle.sc_text_limits.proofs.formula.FormulaCount.add.Goals as goal

pub returns-clause-kept : goal.returns-clause-kept
returns-clause-kept c = λ tokens formula e h.
    kept_with tokens formula c.args.number c.args.token.now c.args.self.now _ e h (c.in_ok-add.ensures.counted formula h.count) c.in_ok-count_words.ensures c.ended_with-ended.ensures
