use Rattle.std.proofs.Common.{◌≡◌, true, take}
use Rattle.std.specs.List.{list_all}
use Rattle.sc_term.specs.declared.Literal.{Literal}
use Rattle.sc_hyper.proofs.candidates.is_positive.Given as goal

abbrev pub invariant-loop-l : goal.invariant-loop-l
invariant-loop-l l = list_all (λ (m : Literal). m.positive) (take l.l-index l.l-items) ≡ true
