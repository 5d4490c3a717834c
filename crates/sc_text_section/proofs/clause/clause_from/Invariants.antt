use Rattle.std.proofs.Common.{◌≡◌, map, take}
use Rattle.sc_input_rules.specs.Numbering.{literal_of}
use Rattle.sc_text_section.specs.Numerals.{clipped_variable}
use Rattle.sc_text_section.proofs.clause.clause_from.Given as goal

abbrev pub invariant-loop-literal : goal.invariant-loop-literal
invariant-loop-literal l = l.literals ≡ map (literal_of clipped_variable l.sig) (take l.literal-index l.written)
