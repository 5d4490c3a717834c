use Rattle.std.proofs.Common.{subst}
use Rattle.sc_find.specs.declared.answer.Found.{Found}
use Rattle.sc_find.specs.Answers.{IsFound}
use Rattle.sc_find.proofs.PieceLaws.{first_of_all, none_more}
use Rattle.sc_find.proofs.parallel.sooner.Goals as goal

pub returns-in-Model : goal.returns-in-Model
returns-in-Model c task budget end value is answer later none =
    first_of_all task c.args.piece value c.in-Model.tables is none (subst (λ (f : Found). IsFound task value budget f) c.in-Model.is (answer value is))

pub returns-in-None : goal.returns-in-None
returns-in-None c task budget end value is answer later none =
    later (none_more task c.args.piece value is (subst (λ (f : Found). IsFound task value budget f) c.in-None.is (answer value is)) none)

pub returns-in-Spent : goal.returns-in-Spent
returns-in-Spent c task budget end value is answer later none =
    (none, (value, is, subst (λ (f : Found). IsFound task value budget f) c.in-Spent.is (answer value is)))
