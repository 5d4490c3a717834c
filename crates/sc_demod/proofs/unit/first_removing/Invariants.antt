use Rattle.std.specs.List.{AllWithin}
use Rattle.sc_core_rules.specs.Simplification.{Removes}
use Rattle.sc_resolve.specs.ByNumber.{seen}
use Rattle.sc_demod.proofs.unit.first_removing.Given as goal

abbrev pub invariant-loop-place : goal.invariant-loop-place
invariant-loop-place l = AllWithin (λ u. ¬ Removes l.l u) (seen l.units) 0 l.place
