use Rattle.std.proofs.Common.{◌≡◌, ◌++◌, map, take}
use Rattle.sc_interp.specs.declared.table.Table.{Table}
use Rattle.sc_text_run_rules.specs.ModelText.{table_rows, without_equality}
use Rattle.sc_text_print.proofs.model.table_rows.Given as goal

abbrev pub invariant-loop-i : goal.invariant-loop-i
invariant-loop-i l = l.text.items ≡ l.initial.text.items ++ table_rows (without_equality l.sig) (map (λ (table : Table). table.entries) (take l.i l.tables))
