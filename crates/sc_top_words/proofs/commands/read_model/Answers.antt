use Rattle.std.proofs.Common.{◌∙◌, sym, true≢false}
use Rattle.sc_top_words.specs.Words.{texts}
use Rattle.sc_top_words.proofs.WordLaws.{unfit_model, finders_given, candidates_given, out_of_order}
use Rattle.sc_top_words.proofs.commands.read_model.Goals as goal

pub returns-in_err-taken-clause-asked : goal.returns-in_err-taken-clause-asked
returns-in_err-taken-clause-asked c = rw c.from_residual.ensures (unfit_model (texts c.args.words.now) c.in_err-taken.ensures.taken)

pub returns-in-Some-clause-asked : goal.returns-in-Some-clause-asked
returns-in-Some-clause-asked c = finders_given (texts c.args.words.now) c.in_ok-taken.taken c.in-Some.field-0 c.in_ok-taken.ensures.taken c.in-Some.is

pub returns-in-Some-candidates-clause-asked : goal.returns-in-Some-candidates-clause-asked
returns-in-Some-candidates-clause-asked c =
    candidates_given (texts c.args.words.now) c.in_ok-taken.taken c.in-Some-candidates.field-0 c.in_ok-taken.ensures.taken c.in-Some-candidates.is

pub returns-then-not-are_in_order-clause-asked : goal.returns-then-not-are_in_order-clause-asked
returns-then-not-are_in_order-clause-asked c =
    out_of_order (texts c.args.words.now) c.in_ok-taken.taken c.in_ok-taken.ensures.taken
    (λ order. true≢false (sym (c.are_in_order.ensures.1 order) ∙ c.if-not-are_in_order.true))
