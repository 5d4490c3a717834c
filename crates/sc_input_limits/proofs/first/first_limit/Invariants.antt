use Rattle.std.proofs.Common.{take}
use Rattle.sc_input_limits.specs.Reached.{IsBehind}
use Rattle.sc_input_limits.proofs.first.first_limit.Given as goal

-- the tokens so far pass no limit
abbrev pub invariant-loop-token : goal.invariant-loop-token
invariant-loop-token l = IsBehind (take l.token l.tokens) l.reached
