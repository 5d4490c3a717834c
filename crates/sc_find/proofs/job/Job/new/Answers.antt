use Rattle.std.proofs.lemmas.Result.{err_from_is_err_and}
use Rattle.sc_cells.specs.Ground.{instance_count}
use Rattle.sc_find.proofs.job.Job.new.Goals as goal

pub returns-in_err-cells-clause-refused : goal.returns-in_err-cells-clause-refused
returns-in_err-cells-clause-refused c =
    let p = err_from_is_err_and c.from_residual.result c.from_residual.ensures.1 in
    rw (p.1, p.2) (c.in_err-cells.ensures.refused (instance_count c.args.clauses.now c.args.size))
