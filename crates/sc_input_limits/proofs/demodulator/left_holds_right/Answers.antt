use Rattle.std.proofs.Common.{◌∙◌, ap, ◌&&◌, ◌||◌, not, List}
use Rattle.std.specs.Prelude.{nat_lt}
use Rattle.std.specs.List.{list_any, list_all}
use Rattle.sc_input_rules.specs.declared.written.Occurrence.{Occurrence}
use Rattle.sc_input_rules.specs.Numbering.{is_variable, same_name}
use Rattle.sc_input_limits.proofs.Looks as look
use Rattle.sc_input_limits.proofs.demodulator.left_holds_right.Goals as goal

pub returns : goal.returns
returns c =
    let l = c.args.literal.now in
    c.all_held.ensures
    ∙ ap (λ (names : List Occurrence). list_all (λ o. not (nat_lt l.predicate.at o.at) || (not (is_variable o) || list_any (λ p. nat_lt p.at l.predicate.at && (is_variable p && same_name o p)) names)) names) c.as_slice.ensures
    ∙ look.all_held l.predicate.at l.arguments
