use Rattle.std.proofs.Common.{◌≡◌, ◌-◌, ◌^◌, min, map, take, slice_index}
use Rattle.sc_term.specs.Interpretation as spec
use Rattle.sc_interp.specs.Structure.{place_of, tables_of_size}
use Rattle.sc_mark.proofs.evaluate.+evaluate.Given as goal

abbrev pub invariant-place-loop-arg : goal.invariant-place-loop-arg
invariant-place-loop-arg l =
    l.at ≡ min (place_of l.size (map (spec.value (tables_of_size l.size l.tables) (slice_index l.values)) (take l.arg-index l.args))) (2 ^ 64 - 1)
