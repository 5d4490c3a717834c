use Rattle.std.proofs.Common.{◌+◌, length}
use Rattle.sc_resolve.specs.Extending.{Extends, Below}
use Rattle.sc_hyper.specs.Candidates.{candidate_numbers, IsOfElectron}
use Rattle.sc_hyper.proofs.candidates.add_of_electron.Given as goal

abbrev pub invariant-loop-at : goal.invariant-loop-at
invariant-loop-at l = Extends candidate_numbers (Below (IsOfElectron l.electron) l.at) (length l.found + 1) l.initial.found l.found
