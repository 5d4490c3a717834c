use Rattle.sc_text_limits.specs.Reached.{IsBehind}
use Rattle.sc_text_limits.proofs.first.first_limit.Given as goal

-- the tokens so far pass no limit
abbrev pub invariant-loop-token : goal.invariant-loop-token
invariant-loop-token l = IsBehind l.sig l.tokens l.token l.reached
