use Rattle.std.proofs.Common.{◌≡◌, ◌∙◌, ap, sym, subst, ◌++◌, ℕ, List, Some}
use Rattle.sc_term.specs.Numbering.{numbered}
use Rattle.sc_input_rules.specs.Problem.{Stated}
use Rattle.sc_core_rules.specs.Book.{numbered_clauses}
use Rattle.sc_core_rules.specs.Turn.{IsPassedOver}
use Rattle.sc_core_rules.proofs.DerivedBook.{processes_goes_on}
use Rattle.sc_core.proofs.ItemLaws.{made_processed, all_have}
use Rattle.sc_core.proofs.ProcessedLaws.{processes_few}
use Rattle.sc_core.proofs.item.process_made.Goals as goal

pub returns-clause-worked : goal.returns-clause-worked
returns-clause-worked c given usable item gives =
    made_processed c.args.book.now.problem c.args.turn given usable IsPassedOver c.args.book.now.book c.args.waiting.now.items item c.args.made c.process.new.self.book c.in_ok-out.out c.join.new.waiting.items
    gives c.in_ok-out.ensures.processes
    (c.in_ok-join.ensures ∙ ap (λ (ns : List ℕ). c.args.waiting.now.items ++ ns) c.as_slice.ensures) c.found_by.result c.found_by.ensures

pub returns-clause-grows : goal.returns-clause-grows
returns-clause-grows c n d stands =
    subst (λ (p : Stated). numbered (numbered_clauses p c.process.new.self.book) n ≡ Some d) (sym c.in_ok-out.ensures.problem)
    ((processes_goes_on c.args.book.now.problem c.args.book.now.book c.args.made.lines c.args.turn c.process.new.self.book c.in_ok-out.out
    (c.keeps.ensures.sound c.requires.whole) (c.keeps.ensures.derived c.requires.whole) c.requires.steps c.in_ok-out.ensures.processes).grows (record { number = n; clause = d }) stands)

pub returns-clause-there : goal.returns-clause-there
returns-clause-there c =
    all_have (numbered_clauses c.args.book.now.problem c.args.book.now.book) (numbered_clauses c.process.new.self.problem c.process.new.self.book) c.args.waiting.now.items c.in_ok-out.out.again c.join.new.waiting.items
    (λ n d stands.
    subst (λ (p : Stated). numbered (numbered_clauses p c.process.new.self.book) n ≡ Some d) (sym c.in_ok-out.ensures.problem)
    ((processes_goes_on c.args.book.now.problem c.args.book.now.book c.args.made.lines c.args.turn c.process.new.self.book c.in_ok-out.out
    (c.keeps.ensures.sound c.requires.whole) (c.keeps.ensures.derived c.requires.whole) c.requires.steps c.in_ok-out.ensures.processes).grows (record { number = n; clause = d }) stands))
    c.requires.there c.in_ok-out.ensures.again (c.in_ok-join.ensures ∙ ap (λ (ns : List ℕ). c.args.waiting.now.items ++ ns) c.as_slice.ensures)

pub returns-clause-few : goal.returns-clause-few
returns-clause-few c = processes_few c.args.book.now.problem c.args.book.now.book c.args.made.lines c.args.turn c.process.new.self.book c.in_ok-out.out c.in_ok-out.ensures.processes
