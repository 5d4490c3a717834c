use Rattle.sc_demod.proofs.OrientLaws.{answer_checks}
use Rattle.sc_demod.proofs.orientation.orient.Goals as goal

pub returns-clause-checks : goal.returns-clause-checks
returns-clause-checks c = answer_checks c.oriented.result c.args.made.lines c.oriented.ensures
