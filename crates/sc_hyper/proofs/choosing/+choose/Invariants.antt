use Rattle.std.proofs.Common.{◌-◌, ℕ, length, List}
use Rattle.sc_hyper.specs.declared.candidates.Candidate.{Candidate}
use Rattle.sc_core_rules.specs.Hyperresolution.{hyper_numbers}
use Rattle.sc_resolve.specs.Extending.{Extends, Below}
use Rattle.sc_hyper.specs.Choosing.{IsChosen, IsWithNext}
use Rattle.sc_hyper.proofs.choosing.+choose.Given as goal

abbrev pub decreases-choose : goal.decreases-choose
decreases-choose l = length l.negatives.now - length l.choice.now.picks

abbrev pub invariant-loop-at : goal.invariant-loop-at
invariant-loop-at l = (low : ℕ) (cs : List Candidate) → IsChosen l.candidates low l.negatives cs l.choice
    → Extends hyper_numbers (Below (IsWithNext l.nucleus l.given l.candidates low l.negatives cs) l.at) l.limit l.initial.sites l.sites
