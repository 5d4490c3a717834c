use Rattle.std.proofs.Common.{◌∙◌, sym, ap, ◌∷◌, []}
use Rattle.sc_input_rules.specs.Problem as spec
use Rattle.sc_input_grammar.specs.Items.{item_of}
use Rattle.sc_input_values.proofs.SettingLaws.{value_turn}
use Rattle.sc_input_values.proofs.settings.last_value.Goals as goal

pub loop-item-preserved : goal.loop-item-preserved
loop-item-preserved c =
    c.value_after-value.ensures ∙ ap (λ k. spec.last_value c.args.name.now k (item_of c.item-item.result ∷ [])) c.loop-item.invariant
    ∙ sym (value_turn c.args.name.now c.args.default c.args.items.now c.loop-item.item-index c.item-item.result c.loop-item-test.true c.item-item.is)
