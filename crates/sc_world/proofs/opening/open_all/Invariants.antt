use Rattle.std.proofs.Common.{◌≡◌, length}
use Rattle.std.specs.Prelude.{All}
use Rattle.sc_shelf.specs.State.{WindowState, new_window}
use Rattle.sc_world.specs.Acting.{AreOpened}
use Rattle.sc_world.proofs.opening.open_all.Given as goal

abbrev pub invariant-loop-made : goal.invariant-loop-made
invariant-loop-made g l = (length l.actors.items ≡ l.made)
    × AreOpened l.problem l.plan l.actors.items
    × (length l.windows.items ≡ l.made)
    × All (λ (w : WindowState). w ≡ new_window l.problem.symbols) l.windows.items
