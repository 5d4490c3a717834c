use Rattle.std.proofs.Common.{◌∙◌, sym, ap, drop, arith, rules, subst, List}
use Rattle.sc_input_scan.specs.Told.{Fails}
use Rattle.sc_input_rules.specs.declared.token.Token.{Token}
use Rattle.sc_input_grammar.specs.Behind.{behind}
use Rattle.sc_input_grammar.proofs.Lists.{behind_none}
use Rattle.sc_text_run_rules.specs.VersionGrammar.{tables, a_table}
use Rattle.sc_text_run_section.proofs.TablesInTurn.{table_on, table_fail, none_yet, entries_more, as_many}
use Rattle.sc_text_run_section.proofs.table.read_tables.Goals as goal

pub loop-number-init : goal.loop-number-init
loop-number-init c = record {
  read =
      rw c.new-rest.ensures
      (ap (λ front. behind front (tables c.args.size (drop 1 c.args.sig.now) c.args.tokens.now)) c.new-front.ensures ∙ behind_none (tables c.args.size (drop 1 c.args.sig.now) c.args.tokens.now));
  whole = none_yet c.args.size c.args.sig.now c.new-front.result c.new-front.ensures;
}

pub loop-number-preserved : goal.loop-number-preserved
loop-number-preserved c = record {
  read =
      rw c.new-rest-in-loop-number.ensures (table_on c.args.size c.args.sig.now c.loop-number.number c.symbol.result.now c.loop-number.front c.loop-number.rest c.symbol.ensures c.push.new.self c.in_ok-entries.entries c.in_ok-entries.after.now
      c.in_ok-push.ensures.ok (ap (λ (rest : List Token). a_table c.args.size c.symbol.result.now rest) (sym c.tokens.ensures) ∙ c.in_ok-entries.ensures.value) ∙ c.loop-number.invariant.read);
  whole =
      entries_more c.args.size c.args.sig.now c.loop-number.number c.symbol.result.now c.loop-number.front c.push.new.self c.in_ok-entries.entries c.loop-number.auto.number c.symbol.ensures
      c.in_ok-push.ensures.ok c.loop-number.invariant.whole c.in_ok-entries.ensures.whole;
}

pub returns-in_err-entries-clause-value : goal.returns-in_err-entries-clause-value
returns-in_err-entries-clause-value c =
    table_fail c.args.size c.args.sig.now c.loop-number.number c.symbol.result.now c.loop-number.front c.loop-number.rest c.symbol.ensures _ _ c.in_err-entries.field-0.0 _
    (search rules) (subst (λ (rest : List Token). Fails c.in_err-entries.field-0.0 (a_table c.args.size c.symbol.result.now rest)) c.tokens.ensures c.in_err-entries.ensures.value) c.loop-number.invariant.read

pub returns-clause-few : goal.returns-clause-few
returns-clause-few c =
    let count = as_many c.args.size c.args.sig.now c.loop-number.number c.loop-number.front c.loop-number.invariant.whole in
    omega (arith, count, c.len-number-end.ensures.kept.few)
