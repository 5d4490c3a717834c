use Rattle.std.proofs.Common.{refl}
use Rattle.sc_text_run_section.proofs.FillingTables.{at_first, place_there, value_there, entry_more}
use Rattle.sc_text_run_section.proofs.fill.fill_table.Goals as goal

pub loop-place-init : goal.loop-place-init
loop-place-init c = at_first c.args.tables.now c.args.symbol c.args.entries.now c.requires.there

pub set-requires-clause-there : goal.set-requires-clause-there
set-requires-clause-there c =
    place_there c.args.tables.now c.args.symbol c.args.entries.now c.loop-place.tables c.loop-place.place c.requires.there c.loop-place-test.true c.loop-place.invariant

pub set-requires-clause-in_range : goal.set-requires-clause-in_range
set-requires-clause-in_range c =
    value_there c.args.tables.now c.args.symbol c.args.entries.now c.loop-place.tables c.loop-place.place _ c.requires.there c.loop-place-test.true refl c.loop-place.invariant

pub loop-place-preserved : goal.loop-place-preserved
loop-place-preserved c =
    entry_more c.args.tables.now c.args.symbol c.args.entries.now c.loop-place.tables c.set.new.self c.loop-place.place _ c.requires.there c.loop-place-test.true refl
    c.loop-place.invariant c.set.ensures.value
