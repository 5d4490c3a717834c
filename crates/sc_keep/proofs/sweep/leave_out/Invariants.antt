use Rattle.sc_keep.proofs.SweepLaws.{LeftBehind}
use Rattle.sc_keep.proofs.sweep.leave_out.Given as goal

abbrev pub invariant-loop-back : goal.invariant-loop-back
invariant-loop-back l = LeftBehind l.gone l.initial.ps l.back l.ps
