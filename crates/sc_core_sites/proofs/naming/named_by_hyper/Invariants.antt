use Rattle.std.proofs.Common.{◌≡◌, ◌∷◌, map, take}
use Rattle.sc_core_rules.specs.declared.site.Pick.{Pick}
use Rattle.sc_core_sites.proofs.naming.named_by_hyper.Given as goal

abbrev pub invariant-loop-pick : goal.invariant-loop-pick
invariant-loop-pick l = l.numbers ≡ l.site.nucleus ∷ map (λ (p : Pick). p.number) (take l.pick-index l.site.electrons)
