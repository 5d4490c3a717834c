use Rattle.std.proofs.Common.{rules}
use Rattle.sc_text_section.proofs.Sequences.{gives_err}
use Rattle.sc_text_run_section.proofs.OneTable.{entries_fail, stop_fails, table_made}
use Rattle.sc_text_run_section.proofs.table.table.Goals as goal

pub returns-in_err-entries-clause-value : goal.returns-in_err-entries-clause-value
returns-in_err-entries-clause-value c =
    gives_err _ _ c.in_err-entries.field-0.0 _ (search rules)
    (entries_fail c.args.size c.args.symbol.now c.args.tokens.now c.in_ok-rest.rest.now c.in_ok-rest-2.rest.now c.in_ok-rest-3.rest.now c.in_ok-rest-4.rest.now c.from.result c.in_ok-rest-3.field-0-0 c.entry_number-count.result
    (search rules) (search rules) c.from.ensures c.in_ok-rest-3.ensures c.in_ok-rest-4.ensures c.entry_number-count.ensures.value c.in_err-entries.field-0.0 c.in_err-entries.ensures.value)

pub returns-in_err-rest-5-clause-value : goal.returns-in_err-rest-5-clause-value
returns-in_err-rest-5-clause-value c =
    gives_err _ _ c.in_err-rest-5.field-0.0 _ (search rules)
    (stop_fails c.args.size c.args.symbol.now c.args.tokens.now c.in_ok-rest.rest.now c.in_ok-rest-2.rest.now c.in_ok-rest-3.rest.now c.in_ok-rest-4.rest.now c.from.result c.in_ok-rest-3.field-0-0 c.entry_number-count.result
    (search rules) (search rules) c.from.ensures c.in_ok-rest-3.ensures c.in_ok-rest-4.ensures c.entry_number-count.ensures.value c.in_ok-entries.entries c.in_ok-entries.rest.now c.in_ok-entries.ensures.value
    c.in_err-rest-5.field-0.0 c.in_err-rest-5.ensures)

pub returns-clause-value : goal.returns-clause-value
returns-clause-value c =
    table_made c.args.size c.args.symbol.now c.args.tokens.now c.in_ok-rest.rest.now c.in_ok-rest-2.rest.now c.in_ok-rest-3.rest.now c.in_ok-rest-4.rest.now c.from.result c.in_ok-rest-3.field-0-0 c.entry_number-count.result
    (search rules) (search rules) c.from.ensures c.in_ok-rest-3.ensures c.in_ok-rest-4.ensures c.entry_number-count.ensures.value c.in_ok-entries.entries c.in_ok-entries.rest.now c.in_ok-entries.ensures.value
    c.in_ok-rest-5.rest.now c.in_ok-rest-5.ensures
