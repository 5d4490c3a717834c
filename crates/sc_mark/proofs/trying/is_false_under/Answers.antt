use Rattle.std.proofs.Common.{◌∙◌, sym}
use Rattle.sc_mark.proofs.KnownLaws.{falsified_by}
use Rattle.sc_mark.proofs.trying.is_false_under.Goals as goal

pub returns-clause-falsified : goal.returns-clause-falsified
returns-clause-falsified c = falsified_by (record { size = c.args.size; tables = c.args.tables.now }) c.args.c.now c.args.number c.assign.new.values c.some_literal_holds.result
    (c.assign.ensures.length ∙ sym c.requires.long) c.assign.ensures.elements (c.assign.ensures.numbered c.requires.there) c.some_literal_holds.ensures
