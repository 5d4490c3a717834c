use Rattle.std.proofs.Common.{◌≢◌, sym, subst}
use Rattle.std.specs.List.{AllPairs}
use Rattle.sc_term.specs.declared.Numbered.{Numbered}
use Rattle.sc_core.proofs.TurningLaws.{front_pairs}
use Rattle.sc_core.proofs.turning.work_all.Goals as goal

pub sites-requires-clause-differ : goal.sites-requires-clause-differ
sites-requires-clause-differ c =
    subst (AllPairs (λ (p q : Numbered). p.number ≢ q.number)) (sym c.usable.ensures)
    (front_pairs (λ (p q : Numbered). p.number ≢ q.number) c.args.book.now.book.usable c.args.book.now.book.sos (c.keeps.ensures.apart c.requires.whole))
