use Rattle.std.proofs.Common.{◌≡◌, List}
use Rattle.sc_term.specs.declared.symbol.Symbol.{Symbol}
use Rattle.sc_interp.specs.Structure.{AreTablesOf}
use Rattle.sc_find.proofs.TableLaws.{AreFilled}
use Rattle.sc_find.proofs.tables.fill.Given as goal

abbrev pub invariant-loop-k : goal.invariant-loop-k
invariant-loop-k l = record {
  filled : AreFilled l.tables l.cells l.values l.k;
  over : (symbols : List Symbol) → AreTablesOf symbols l.fn.tables → AreTablesOf symbols l.tables;
  size : l.tables.size ≡ l.fn.tables.size;
}
