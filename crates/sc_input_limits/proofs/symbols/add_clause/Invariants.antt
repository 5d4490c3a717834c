use Rattle.std.proofs.Common.{take}
use Rattle.std.specs.Prelude.{None, flat_map}
use Rattle.sc_input_rules.specs.Numbering as spec
use Rattle.sc_input_limits.specs.Symbols.{FindsMore}
use Rattle.sc_input_limits.proofs.symbols.add_clause.Given as goal

-- the symbols of the literals so far are kept
abbrev pub invariant-loop-literal : goal.invariant-loop-literal
invariant-loop-literal l = FindsMore (flat_map spec.found_in (take l.literal-index l.clause)) l.fn.symbols l.symbols None
