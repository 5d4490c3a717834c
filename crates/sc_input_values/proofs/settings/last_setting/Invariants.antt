use Rattle.std.proofs.Common.{◌≡◌, take}
use Rattle.sc_input_rules.specs.Problem as spec
use Rattle.sc_input_grammar.specs.Items.{items_of}
use Rattle.sc_input_values.proofs.settings.last_setting.Given as goal

abbrev pub invariant-loop-item : goal.invariant-loop-item
invariant-loop-item l = l.setting ≡ spec.last_setting l.name l.default (items_of (take l.item-index l.items))
