use Rattle.std.proofs.Common.{◌∙◌, sym, ap, ◌^◌, arith, take, [], ◌∷◌, length}
use Rattle.sc_input_rules.specs.Token.{same_text}
use Rattle.sc_input_values.specs.Once.{with_new, with_each}
use Rattle.sc_input_values.specs.Names.{names_of_variables}
use Rattle.sc_input_values.proofs.OnceLaws.{with_each-turn, with_each-room}
use Rattle.sc_input_values.proofs.NameLaws.{variable_turn, other_turn}
use Rattle.sc_input_values.proofs.variables.note_variables.Goals as goal
use Rattle.sc_input_values.proofs.variables.note_variables.Goals.{then-is_variable+in_ok-note, else-is_variable}

pub note-requires : goal.note-requires
note-requires c =
    let os = c.args.occurrences.now in
    let i = c.loop-occurrence.occurrence-index in
    let o = c.occurrence-item.result in
    let turn = variable_turn os i o c.loop-occurrence-test.true c.occurrence-item.is (sym c.is_variable.ensures ∙ c.if-is_variable.true) in
    let room = with_each-room same_text names_of_variables c.args.variables.now os i o _ (2 ^ 32) turn c.requires in
    let names = ap (λ n. length (with_new same_text c.loop-occurrence.variables n)) c.as_slice.ensures in
    let so_far = ap (λ vs. length (with_new same_text vs o.name)) c.loop-occurrence.invariant in
    omega (arith, room, names, so_far)

pub loop-occurrence-preserved : goal.loop-occurrence-preserved
loop-occurrence-preserved c =
    let os = c.args.occurrences.now in
    let i = c.loop-occurrence.occurrence-index in
    let o = c.occurrence-item.result in
    let so_far = with_each same_text c.args.variables.now (names_of_variables (take i os)) in
    elim c.if-is_variable.branch [
      | then-is_variable+in_ok-note w ↦
          w.variables-is ∙ (w.in_ok-note).ensures ∙ ap (λ n. with_new same_text c.loop-occurrence.variables n) w.as_slice.ensures
          ∙ ap (λ vs. with_new same_text vs o.name) c.loop-occurrence.invariant
          ∙ with_each-turn same_text names_of_variables c.args.variables.now os i o (o.name ∷ [])
          (variable_turn os i o c.loop-occurrence-test.true c.occurrence-item.is (sym c.is_variable.ensures ∙ w.if-is_variable.true))
      | else-is_variable w ↦
          w.variables-is ∙ c.loop-occurrence.invariant
          ∙ with_each-turn same_text names_of_variables c.args.variables.now os i o []
          (other_turn os i o c.loop-occurrence-test.true c.occurrence-item.is (sym c.is_variable.ensures ∙ w.if-is_variable.false))
    ]
