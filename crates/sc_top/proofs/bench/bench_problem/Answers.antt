use Rattle.std.proofs.Common.{inl}
use Rattle.sc_text_run_rules.specs.RunValue.{run_value}
use Rattle.sc_top.proofs.BenchLaws.{has_bench}
use Rattle.sc_top.proofs.bench.bench_problem.Goals as goal

pub returns-in-Ok-clause-decided : goal.returns-in-Ok-clause-decided
returns-in-Ok-clause-decided c = λ read.
    inl (has_bench c.args.rungs c.told.result c.args.problem.now c.in-Ok.ended.shelves (run_value c.in-Ok.ended.run) read c.in-Ok.ensures c.told.ensures.rungs
    c.told.ensures.outcome c.told.ensures.given c.told.ensures.kept c.told.ensures.versions c.told.ensures.lines)
