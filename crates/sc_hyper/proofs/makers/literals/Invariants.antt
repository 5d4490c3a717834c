use Rattle.std.proofs.Common.{◌≡◌, map, take}
use Rattle.sc_core_rules.specs.declared.site.Pick.{Pick}
use Rattle.sc_hyper.proofs.makers.literals.Given as goal

abbrev pub invariant-loop-pick : goal.invariant-loop-pick
invariant-loop-pick l = l.literals ≡ map (λ (p : Pick). p.lit) (take l.pick-index l.picks)
