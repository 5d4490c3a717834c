use Rattle.std.proofs.Common.{◌≡◌, ◌∙◌, ap, [], map}
use Rattle.sc_term.specs.Clause.{variables}
use Rattle.sc_term.specs.Substitution.{literal_under}
use Rattle.sc_term.specs.JointInstance.{renumbering}
use Rattle.sc_term.specs.Occurrence.{noted}
use Rattle.sc_term.proofs.Occurrences.{noted-firsts}
use Rattle.sc_term.proofs.first_occurrence.canonical.Goals as goal

pub returns : goal.returns
returns c =
    let order = c.as_slice-2.ensures.value ∙ c.in_ok-note_variables.ensures ∙ ap (λ o. noted o (variables c.args.c.now)) c.new-order.ensures.items ∙ noted-firsts (variables c.args.c.now) in
    let made = c.in_ok-literals.ensures ∙ (λ i. map (literal_under (renumbering (order i))) (c.as_slice.ensures i)) in
    (λ i. record { literals = made i })
