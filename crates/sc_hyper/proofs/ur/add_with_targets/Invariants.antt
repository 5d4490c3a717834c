use Rattle.sc_core_rules.specs.Hyperresolution.{ur_numbers}
use Rattle.sc_resolve.specs.Extending.{Extends, Below}
use Rattle.sc_hyper.specs.Ur.{IsWithTargetAt}
use Rattle.sc_hyper.proofs.ur.add_with_targets.Given as goal

abbrev pub invariant-loop-at : goal.invariant-loop-at
invariant-loop-at l = Extends ur_numbers (Below (IsWithTargetAt l.given l.units l.nucleus) l.at) l.limit l.initial.sites l.sites
