use Rattle.std.proofs.Common.{◌<◌, ◌^◌, ◌∙◌, ◌≡◌, arith, sym, ap, subst, length, false}
use Rattle.sc_shelf.specs.State.{WindowState, is_closed}
use Rattle.sc_world.specs.Acting.{Closed}
use Rattle.sc_world.specs.declared.actors.Actor.{Actor}
use Rattle.sc_world.proofs.Stepping.{both_more}
use Rattle.sc_world.proofs.closing.close_all.Goals as goal

pub close_one-requires-clause-unclosed : goal.close_one-requires-clause-unclosed
close_one-requires-clause-unclosed g c =
    let i = c.loop-i.i in let low = c.loop-i-test.true in
    let x = c.index-actors-i.result in
    subst (λ (a : Actor). is_closed a.finder.press ≡ false) (sym (c.loop-i.invariant.firsts i x (omega arith))) (c.requires.unclosed i x (omega (arith, low, c.loop-i.auto.i-end)))

pub close_one-requires-clause-shelf : goal.close_one-requires-clause-shelf
close_one-requires-clause-shelf g c =
    let i = c.loop-i.i in let low = c.loop-i-test.true in
    let x = c.index-actors-i.result in
    let y = c.index-windows-i.result in
    ap (λ (w : WindowState). w.symbols) (c.loop-i.invariant.seconds i y (omega arith))
    ∙ c.requires.shelves i x y (omega (arith, low, c.loop-i.auto.i-end))
    ∙ sym (ap (λ (a : Actor). a.finder.press.symbols) (c.loop-i.invariant.firsts i x (omega arith)))

pub close_one-requires-clause-room : goal.close_one-requires-clause-room
close_one-requires-clause-room g c =
    let i = c.loop-i.i in let low = c.loop-i-test.true in
    let y = c.index-windows-i.result in
    subst (λ (w : WindowState). length w.looks < 2 ^ 31) (sym (c.loop-i.invariant.seconds i y (omega arith))) (c.requires.room i y (omega (arith, low, c.loop-i.auto.i-end, c.requires.many)))

pub loop-i-preserved : goal.loop-i-preserved
loop-i-preserved g c = both_more Closed _ _ _ _ _ c.index-actors-i.result c.close_one.new.actor c.index-windows-i.result c.close_one.new.window c.loop-i.invariant
    (omega (arith, c.loop-i-test.true, c.loop-i.auto.i-end, c.loop-i.auto.actors))
    (omega (arith, c.loop-i-test.true, c.loop-i.auto.i-end, c.requires.many, c.loop-i.auto.windows))
    c.index-actors-i.is c.index-windows-i.is c.in_ok-close_one.ensures
