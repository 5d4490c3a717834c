use Rattle.std.proofs.Common.{◌∙◌, ap, refl, [], map}
use Rattle.sc_core_rules.specs.Book.{numbered_clauses}
use Rattle.sc_core_rules.specs.Turn.{IsPassedOver}
use Rattle.sc_core_rules.specs.WorkList.{Again}
use Rattle.sc_core.specs.Items.{HasClause}
use Rattle.sc_core.proofs.WorkingLaws.{starts, number_opened, first_has, others_have, one_too_many, one_found, one_worked, still_few, none_taken, all_done}
use Rattle.sc_core.proofs.working.work_waiting.Goals as goal

pub loop-n-init : goal.loop-n-init
loop-n-init c = record {
  problem = refl;
  whole = c.requires.whole;
  few = c.requires.few;
  there = c.requires.there;
  reaches = λ given usable. starts c.args.book.now.problem c.args.turn given usable IsPassedOver c.args.left c.args.book.now.book (map Again c.args.waiting.items);
}

pub returns-then-left-eq0-clause-works : goal.returns-then-left-eq0-clause-works
returns-then-left-eq0-clause-works c given usable =
    one_too_many (c.loop-n.invariant.reaches given usable) (Again c.in-Some.n) [] c.pop_front.new.self.items (number_opened c.loop-n.waiting.items c.in-Some.n c.pop_front.new.self.items c.in-Some.ensures.items) c.if-left-eq0.true

pub work_again-requires-clause-clause : goal.work_again-requires-clause-clause
work_again-requires-clause-clause c =
    first_has (HasClause (numbered_clauses c.loop-n.book.problem c.loop-n.book.book)) c.loop-n.waiting.items c.in-Some.n c.pop_front.new.self.items c.in-Some.ensures.items c.loop-n.invariant.there

pub work_again-requires-clause-there : goal.work_again-requires-clause-there
work_again-requires-clause-there c =
    others_have (HasClause (numbered_clauses c.loop-n.book.problem c.loop-n.book.book)) c.loop-n.waiting.items c.in-Some.n c.pop_front.new.self.items c.in-Some.ensures.items c.loop-n.invariant.there

pub returns-in-Some-2-clause-works : goal.returns-in-Some-2-clause-works
returns-in-Some-2-clause-works c given usable =
    let going = c.loop-n.invariant in
    one_found (going.reaches given usable) (Again c.in-Some.n) [] c.pop_front.new.self.items (number_opened c.loop-n.waiting.items c.in-Some.n c.pop_front.new.self.items c.in-Some.ensures.items) c.if-left-eq0.false
    c.loop-n.book.problem going.problem c.work_again.new.book.book c.work_again.new.waiting.items c.in_ok-k.field-0 (c.in_ok-k.ensures.worked given usable) c.in-Some-2.k c.in-Some-2.is

pub loop-n-preserved : goal.loop-n-preserved
loop-n-preserved c =
    let going = c.loop-n.invariant in
    let told = c.in_ok-k.ensures in
    record {
      problem = told.problem ∙ going.problem;
      whole = told.whole;
      few = still_few c.loop-n.book.problem c.work_again.new.book.problem c.loop-n.book.book c.work_again.new.book.book c.loop-n.left going.few c.if-left-eq0.false told.problem told.few;
      there = told.there;
      reaches = λ given usable. one_worked (going.reaches given usable) (Again c.in-Some.n) [] c.pop_front.new.self.items (number_opened c.loop-n.waiting.items c.in-Some.n c.pop_front.new.self.items c.in-Some.ensures.items) c.if-left-eq0.false
          c.loop-n.book.problem going.problem c.work_again.new.book.book c.work_again.new.waiting.items c.in_ok-k.field-0 (told.worked given usable) c.in-None.is;
    }

pub returns-clause-works : goal.returns-clause-works
returns-clause-works c given usable =
    let none = c.in_default.ensures in
    all_done (c.loop-n.invariant.reaches given usable) (ap (map Again) (none_taken c.loop-n.waiting.items c.pop_front.new.self.items none.items none.rest))
