use Rattle.std.proofs.Common.{◌≡◌, ◌++◌, take, true, false}
use Rattle.sc_shelf.specs.State.{listed, is_closed}
use Rattle.sc_shelf.proofs.beside.publish_each.Given as goal

abbrev pub invariant-loop-version : goal.invariant-loop-version
invariant-loop-version g l = (listed l.press ≡ listed l.initial.press ++ take l.version-index l.versions)
    × (l.press.whole ≡ true)
    × (is_closed l.press ≡ false)
    × (l.press.symbols ≡ l.initial.press.symbols)
