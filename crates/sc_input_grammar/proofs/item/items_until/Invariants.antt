use Rattle.std.proofs.Common.{◌≡◌, ◌-◌, length}
use Rattle.sc_input_rules.specs.Reader as spec
use Rattle.sc_input_grammar.specs.Behind.{behind}
use Rattle.sc_input_grammar.specs.Items.{items_of, told_item, ends_at}
use Rattle.sc_input_grammar.proofs.item.items_until.Given as goal

-- what was read, and then what is read of the rest, is what is read of all
abbrev pub invariant-loop : goal.invariant-loop
invariant-loop l =
    behind (items_of l.front) (spec.repeated (ends_at l.ending) told_item (length l.tokens - l.counter) l.rest)
    ≡ spec.repeated (ends_at l.ending) told_item (length l.tokens) l.tokens
