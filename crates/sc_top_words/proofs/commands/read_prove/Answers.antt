use Rattle.sc_top_words.specs.Words.{texts}
use Rattle.sc_top_words.proofs.WordLaws.{unfit_prove, workers_given, upto_given}
use Rattle.sc_top_words.proofs.commands.read_prove.Goals as goal

pub returns-in_err-taken-clause-asked : goal.returns-in_err-taken-clause-asked
returns-in_err-taken-clause-asked c = rw c.from_residual.ensures (unfit_prove (texts c.args.words.now) c.in_err-taken.ensures.taken)

pub returns-in-Some-clause-asked : goal.returns-in-Some-clause-asked
returns-in-Some-clause-asked c = workers_given (texts c.args.words.now) c.in_ok-taken.taken c.in-Some.field-0 c.in_ok-taken.ensures.taken c.in-Some.is

pub returns-in-Some-upto-clause-asked : goal.returns-in-Some-upto-clause-asked
returns-in-Some-upto-clause-asked c = upto_given (texts c.args.words.now) c.in_ok-taken.taken c.in-Some-upto.field-0 c.in_ok-taken.ensures.taken c.in-Some-upto.is
