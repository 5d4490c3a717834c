use Rattle.std.proofs.Common.{take, filter, map, not}
use Rattle.std.specs.Prelude.{None}
use Rattle.sc_input_rules.specs.Numbering as spec
use Rattle.sc_input_limits.specs.Symbols.{FindsMore}
use Rattle.sc_input_limits.proofs.symbols.add_functions.Given as goal

-- the function symbols so far are kept
abbrev pub invariant-loop-name : goal.invariant-loop-name
invariant-loop-name l = FindsMore (map spec.function_at (filter (λ o. not (spec.is_variable o)) (take l.name-index l.names))) l.fn.symbols l.symbols None
