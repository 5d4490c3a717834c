use Rattle.std.proofs.Common.{◌∙◌, sym, ap, Bool}
use Rattle.std.specs.Prelude.{None, if◌then◌else◌}
use Rattle.sc_input_rules.specs.Position.{home_named}
use Rattle.sc_input_limits.proofs.Looks.{opened_at}
use Rattle.sc_input_limits.proofs.position.opened.Goals as goal

pub returns-then-is_word : goal.returns-then-is_word
returns-then-is_word c =
    let e = opened_at c.args.sentence.now c.item-item.result c.name-item.result c.in-len3-up.len_at_least c.item-item.is c.name-item.is in
    c.home_named.ensures ∙ ap (λ (b : Bool). if b then home_named c.name-item.result else None) (sym c.if-is_word.true ∙ c.is_word.ensures) ∙ sym e

pub returns-else-is_word : goal.returns-else-is_word
returns-else-is_word c =
    let e = opened_at c.args.sentence.now c.item-item.result c.name-item.result c.in-len3-up.len_at_least c.item-item.is c.name-item.is in
    ap (λ (b : Bool). if b then home_named c.name-item.result else None) (sym c.if-is_word.false ∙ c.is_word.ensures) ∙ sym e
