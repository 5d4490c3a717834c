use Rattle.std.proofs.Common.{◌∙◌, sym, ap}
use Rattle.sc_input_rules.specs.Numbering.{literal_of, number_in, variable_order}
use Rattle.sc_input_values.specs.Names.{number_among}
use Rattle.sc_input_values.proofs.LoopLaws.{map_turn}
use Rattle.sc_input_values.proofs.NameLaws.{numbers_by_name}
use Rattle.sc_input_values.proofs.clauses.clause_from.Goals as goal

pub loop-literal-preserved : goal.loop-literal-preserved
loop-literal-preserved c =
    let ls = c.args.written.now in
    let symbols = c.args.sig.now in
    let l = c.literal-item.result in
    map_turn (literal_of (number_in (variable_order ls)) symbols) ls c.loop-literal.literal-index l c.loop-literal.literals c.push.new.self c.in_ok-literal_from.field-0
    c.loop-literal.invariant c.in_ok-push.ensures.ok
    (c.in_ok-literal_from.ensures ∙ ap (λ names. literal_of (number_among names) symbols l) c.in_ok-variables.ensures ∙ ap (λ v. literal_of v symbols l) (sym (numbers_by_name (variable_order ls))))
    c.loop-literal-test.true c.literal-item.is
