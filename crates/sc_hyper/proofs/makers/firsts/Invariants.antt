use Rattle.std.proofs.Common.{◌≡◌, map, take, ℕ}
use Rattle.sc_hyper.proofs.makers.firsts.Given as goal

abbrev pub invariant-loop-unit : goal.invariant-loop-unit
invariant-loop-unit l = l.firsts ≡ map (λ (n : ℕ). 1) (take l._unit-index l.units)
