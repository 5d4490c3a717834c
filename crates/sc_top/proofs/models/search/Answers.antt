use Rattle.sc_top.proofs.ModelAnswers.{none_found, spent_found}
use Rattle.sc_top.proofs.models.search.Goals as goal

pub returns-in-None-clause-modelled : goal.returns-in-None-clause-modelled
returns-in-None-clause-modelled g c =
    none_found c.args.problem.now c.args.size c.args.nodes c.args.job.now c.in_ok-tables.field-0 c.keeps.ensures c.requires.task c.in_ok-tables.ensures c.in-None.is

pub returns-in-Spent-clause-modelled : goal.returns-in-Spent-clause-modelled
returns-in-Spent-clause-modelled g c =
    spent_found c.args.problem.now c.args.size c.args.nodes c.in-Spent.piece c.args.job.now c.in_ok-tables.field-0 c.requires.task c.in_ok-tables.ensures c.in-Spent.is
