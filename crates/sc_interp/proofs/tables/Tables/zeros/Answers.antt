use Rattle.std.proofs.Common.{sym, subst, List}
use Rattle.sc_interp.specs.declared.table.Table.{Table}
use Rattle.sc_interp.specs.Structure.{IsStructure, AreTablesOf}
use Rattle.sc_interp.proofs.Structures.{zeros_keep, zeros_of}
use Rattle.sc_interp.proofs.tables.Tables.zeros.Goals as goal

pub invariant_of-result : goal.invariant_of-result
invariant_of-result c =
    subst (λ (tables : List Table). IsStructure (record { size = c.args.size; tables = tables })) (sym c.in_ok-tables.ensures)
    (zeros_keep c.args.sig.now c.args.size c.requires.not_empty c.requires.small)

pub returns-clause-over : goal.returns-clause-over
returns-clause-over c =
    subst (λ (tables : List Table). AreTablesOf c.args.sig.now (record { size = c.args.size; tables = tables })) (sym c.in_ok-tables.ensures)
    (zeros_of c.args.sig.now c.args.size)
