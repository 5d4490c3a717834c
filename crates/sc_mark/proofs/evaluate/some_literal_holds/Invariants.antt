use Rattle.std.proofs.Common.{◌≡◌, take, false, slice_index}
use Rattle.std.specs.List.{list_any}
use Rattle.sc_term.specs.Interpretation as spec
use Rattle.sc_interp.specs.Structure.{tables_of_size}
use Rattle.sc_mark.proofs.evaluate.some_literal_holds.Given as goal

abbrev pub invariant-loop-literal : goal.invariant-loop-literal
invariant-loop-literal l =
    list_any (spec.literal_holds (tables_of_size l.size l.tables) (slice_index l.values)) (take l.literal-index l.literal-items) ≡ false
