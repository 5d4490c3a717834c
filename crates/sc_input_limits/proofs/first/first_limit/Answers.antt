use Rattle.std.proofs.Common.{ap, ◌+◌, Bool}
use Rattle.std.specs.Prelude.{Result, Ok}
use Rattle.sc_term.specs.declared.memory.OutOfMemory.{OutOfMemory}
use Rattle.sc_input_rules.specs.ProblemLimits.{problem_bounds, problem_fault_at}
use Rattle.sc_input_limits.proofs.OnePosition.{passed_by_first}
use Rattle.sc_input_limits.proofs.first.first_limit.Goals as goal

abbrev ok : Bool → Result Bool OutOfMemory
ok told = Ok told

pub returns-then-branch-clause-told : goal.returns-then-branch-clause-told
returns-then-branch-clause-told c =
    passed_by_first (problem_fault_at problem_bounds) (c.loop-token.token + 1) c.args.tokens.now c.step.new.fault (c.in_ok-step.ensures.passes (ap ok c.if-branch.true))
