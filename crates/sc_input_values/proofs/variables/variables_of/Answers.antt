use Rattle.std.proofs.Common.{◌∙◌, sym, ap, ◌^◌, arith, [], length}
use Rattle.std.proofs.lemmas.List.{take_all}
use Rattle.sc_input_rules.specs.Token.{same_text}
use Rattle.sc_input_values.specs.Once.{with_each}
use Rattle.sc_input_values.specs.Names.{names_of_variables}
use Rattle.sc_input_values.proofs.OnceLaws.{with_each-turn, with_each-room}
use Rattle.sc_input_values.proofs.NameLaws.{names_in, literal_turn, names_once, few_names}
use Rattle.sc_input_values.proofs.variables.variables_of.Goals as goal

pub note_variables-requires : goal.note_variables-requires
note_variables-requires c =
    let ls = c.args.written.now in
    let i = c.loop-literal.literal-index in
    let l = c.literal-item.result in
    let turn = literal_turn ls i l c.loop-literal-test.true c.literal-item.is in
    let room = with_each-room same_text names_in [] ls i l _ (2 ^ 32) turn (few_names ls c.requires) in
    let names = ap (λ os. length (with_each same_text c.loop-literal.variables (names_of_variables os))) c.as_slice.ensures in
    let so_far = ap (λ vs. length (with_each same_text vs (names_of_variables l.arguments))) c.loop-literal.invariant in
    omega (arith, room, names, so_far)

pub loop-literal-preserved : goal.loop-literal-preserved
loop-literal-preserved c =
    let ls = c.args.written.now in
    let i = c.loop-literal.literal-index in
    let l = c.literal-item.result in
    c.in_ok-note_variables.ensures ∙ ap (λ os. with_each same_text c.loop-literal.variables (names_of_variables os)) c.as_slice.ensures
    ∙ ap (λ vs. with_each same_text vs (names_of_variables l.arguments)) c.loop-literal.invariant
    ∙ with_each-turn same_text names_in [] ls i l (names_of_variables l.arguments) (literal_turn ls i l c.loop-literal-test.true c.literal-item.is)

pub returns : goal.returns
returns c =
    let ls = c.args.written.now in
    c.loop-literal.invariant ∙ ap (λ ks. with_each same_text [] (names_in ks)) (take_all c.loop-literal.literal-index ls c.loop-literal-test.false) ∙ sym (names_once ls)
