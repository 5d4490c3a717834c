use Rattle.std.proofs.Common.{rules, arith, ◌≤◌, length}
use Rattle.std.specs.Prelude.{Ok}
use Rattle.sc_top.proofs.BenchLaws.{ladder_spells, ladder_refused}
use Rattle.sc_top.proofs.bench.bench_text.Goals as goal

pub returns-in-Ok-clause-decided : goal.returns-in-Ok-clause-decided
returns-in-Ok-clause-decided c =
    let few : length c.args.text.now ≤ 4194304 = first_of (search rules, omega (arith, c.if-text-gt-MAX_INPUT_BYTES.false)) in
    c.bench_problem.ensures.decided (ladder_spells c.args.rungs c.args.text.now (Ok c.in-Ok.problem) c.requires few c.in-Ok.ensures.ok)

pub returns-in-Err-clause-decided : goal.returns-in-Err-clause-decided
returns-in-Err-clause-decided c =
    let few : length c.args.text.now ≤ 4194304 = first_of (search rules, omega (arith, c.if-text-gt-MAX_INPUT_BYTES.false)) in
    ladder_refused c.args.rungs c.args.text.now c.in-Err.error c.refusal.result c.requires few c.in-Err.ensures.refused c.refusal.ensures
