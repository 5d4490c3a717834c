use Rattle.std.proofs.Common.{◌+◌, [], length}
use Rattle.sc_core_rules.specs.Hyperresolution.{IsPositive}
use Rattle.sc_resolve.specs.ByNumber.{seen}
use Rattle.sc_resolve.specs.Extending.{Extends, Below}
use Rattle.sc_hyper.specs.Candidates.{candidate_numbers, IsOfUsable}
use Rattle.sc_hyper.proofs.candidates.candidates.Given as goal

abbrev pub invariant-loop-electron : goal.invariant-loop-electron
invariant-loop-electron l = Extends candidate_numbers (Below (IsOfUsable IsPositive (seen l.usable)) l.electron-index) (length l.found + 1) [] l.found
