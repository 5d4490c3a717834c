use Rattle.std.proofs.Common.{[]}
use Rattle.sc_term.specs.declared.Numbered.{Numbered}
use Rattle.sc_core_rules.specs.Turn.{IsPassedOver}
use Rattle.sc_core_rules.specs.WorkList.{Again}
use Rattle.sc_core.proofs.ItemLaws.{returned_steps}
use Rattle.sc_core.proofs.item.work_again.Goals as goal

pub process_made-requires-clause-steps : goal.process_made-requires-clause-steps
process_made-requires-clause-steps c =
    let one : Numbered = record { number = c.args.n; clause = c.requires.clause.0 } in
    returned_steps c.args.book.now.problem c.args.book.now.book one [] IsPassedOver c.args.n c.in_ok-made.made (c.in_ok-made.ensures one [])

pub returns-clause-worked : goal.returns-clause-worked
returns-clause-worked c given usable = c.in_ok-found.ensures.worked given usable (Again c.args.n) (c.in_ok-made.ensures given usable)
