use Rattle.std.proofs.Common.{◌∙◌, sym, ap, subst, ℕ, List, drop, rules}
use Rattle.sc_text_section.proofs.Sequences.{gives_err}
use Rattle.sc_text_run_section.specs.Entries.{AreEntriesOf}
use Rattle.sc_text_run_section.proofs.MadeTables.{short_rows, fit, entries_made}
use Rattle.sc_text_run_section.proofs.OneVersion.{claims_fail, version_made}
use Rattle.sc_text_run_section.proofs.TablesOver.{filled_over}
use Rattle.sc_interp.specs.Structure.{Structure}
use Rattle.sc_text_run_section.proofs.version.version_behind.Goals as goal

pub fill-requires-clause-rows : goal.fill-requires-clause-rows
fill-requires-clause-rows c =
    fit c.args.sig.now c.size-size.result c.args.tables c.as_slice.result.now c.requires c.size-size.ensures.value
    (subst (λ (rows : List (List ℕ)). AreEntriesOf c.size-size.result (drop 1 c.args.sig.now) rows) (sym c.as_slice.ensures) c.in_ok-entries.ensures.whole)

pub fill-requires-clause-short : goal.fill-requires-clause-short
fill-requires-clause-short c =
    short_rows c.size-size.result (drop 1 c.args.sig.now) c.as_slice.result.now
    (subst (λ (rows : List (List ℕ)). AreEntriesOf c.size-size.result (drop 1 c.args.sig.now) rows) (sym c.as_slice.ensures) c.in_ok-entries.ensures.whole)

pub returns-in_err-claims-clause-value : goal.returns-in_err-claims-clause-value
returns-in_err-claims-clause-value c =
    gives_err _ _ c.in_err-claims.field-0.0 _ (search rules)
    (claims_fail c.args.sig.now c.args.tables.size c.size-size.result c.args.tokens.now c.in_ok-entries.rest.now c.in_ok-entries.entries c.size-size.ensures.value c.in_ok-entries.ensures.value
    c.in_err-claims.field-0.0 c.in_err-claims.ensures)

pub returns-clause-value : goal.returns-clause-value
returns-clause-value c =
    let rows = c.as_slice.result.now in
    let whole = subst (λ (rows : List (List ℕ)). AreEntriesOf c.size-size.result (drop 1 c.args.sig.now) rows) (sym c.as_slice.ensures) c.in_ok-entries.ensures.whole in
    version_made c.args.sig.now c.args.tables.size c.size-size.result c.args.tokens.now c.in_ok-entries.rest.now c.in_ok-entries.entries c.size-size.ensures.value c.in_ok-entries.ensures.value
    c.in_ok-claims.claims c.in_ok-claims.rest.now _ c.in_ok-claims.ensures
    (entries_made c.args.sig.now c.size-size.result c.args.tables rows c.requires c.size-size.ensures.value whole c.fill.new.tables c.fill.ensures ∙ c.as_slice.ensures)

pub returns-clause-tables : goal.returns-clause-tables
returns-clause-tables c = record {
  over = filled_over c.args.sig.now c.args.tables c.fill.new.tables c.as_slice.result.now c.requires c.fill.ensures;
  size = ap (λ (t : Structure). t.size) c.fill.ensures ∙ sym c.size-size.ensures.value;
}
