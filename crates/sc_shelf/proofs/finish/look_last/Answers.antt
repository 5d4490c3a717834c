use Rattle.std.proofs.Common.{ap}
use Rattle.sc_shelf.specs.State.{WindowState}
use Rattle.sc_shelf.proofs.Last.{look_sees, ok_both}
use Rattle.sc_shelf.proofs.finish.look_last.Goals as goal

pub returns-clause-all : goal.returns-clause-all
returns-clause-all c =
    let look = c.look.ensures in
    ok_both _ _ _ c.look.result look.met look.all
    (λ met all. look_sees c.told.result c.args.press.now c.learn.new.self c.look.new.self c.told.ensures.note (ap (λ (w : WindowState). w.learnt) c.learn.ensures) look.learnt look.entries c.requires.closed met all)
