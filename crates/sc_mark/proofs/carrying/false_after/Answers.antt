use Rattle.sc_mark.proofs.KnownLaws.{known_false}
use Rattle.sc_mark.proofs.carrying.false_after.Goals as goal

pub returns-then-is_false_still-clause-known : goal.returns-then-is_false_still-clause-known
returns-then-is_false_still-clause-known c =
    known_false c.args.tables.now c.args.c.now c.args.number c.requires.some c.requires.few (c.is_false_still.ensures.falsified.0 c.if-is_false_still.true)
