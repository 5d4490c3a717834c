use Rattle.std.proofs.Common.{◌∙◌, sym, ap, List}
use Rattle.std.proofs.lemmas.List.{take_rest}
use Rattle.sc_input_rules.specs.declared.token.Token.{Token}
use Rattle.sc_input_limits.specs.Numbers.{capped_number, told_at}
use Rattle.sc_input_limits.proofs.Numbers.{out_of_range_at}
use Rattle.sc_input_limits.proofs.range.out_of_range.Goals as goal

pub returns-in-len4-up : goal.returns-in-len4-up
returns-in-len4-up c = λ e.
    let rest = take_rest c.args.sentence.now 4 in
    c.value_told.ensures (e ∙ ap capped_number (sym rest)) ∙ ap (λ (value : List Token). told_at c.item-item.result c.name-item.result value) rest
    ∙ sym (out_of_range_at c.args.sentence.now c.item-item.result c.name-item.result c.in-len4-up.len_at_least c.item-item.is c.name-item.is)
