use Rattle.std.proofs.Common.{[], ◌++◌, None, arith}
use Rattle.sc_term.specs.declared.Numbered.{Numbered}
use Rattle.sc_term.specs.Subsumption.{Subsumes}
use Rattle.sc_keep.specs.Least.{IsLeastNumber}
use Rattle.sc_keep.proofs.live.live_subsumer.Goals as goal

pub returns : goal.returns
returns c =
    let us = c.args.live.usable.now in
    let ss = c.args.live.sos.now in
    let P = λ (p : Numbered). Subsumes p.clause c.args.c.now in
    let start : IsLeastNumber P [] None = λ p h. absurd (omega (arith, h.1)) in
    (c.in_ok-best-3.ensures (us ++ ss) (c.in_ok-best-2.ensures us (c.in_ok-best.ensures [] start)))
