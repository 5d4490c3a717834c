use Rattle.std.proofs.Common.{◌≡◌, ◌+◌, ◌*◌, ◌<◌, ◌^◌, List, true, All, length, map}
use Rattle.sc_term.specs.declared.Numbered.{Numbered}
use Rattle.sc_core_rules.specs.Book.{numbered_clauses}
use Rattle.sc_core_rules.specs.Turn.{IsPassedOver}
use Rattle.sc_core_rules.specs.WorkList.{Again}
use Rattle.sc_core.specs.Items.{HasClause}
use Rattle.sc_core.proofs.WorkingLaws.{Reaches}
use Rattle.sc_core.proofs.working.work_waiting.Given as goal

abbrev pub invariant-loop-n : goal.invariant-loop-n
invariant-loop-n l = record {
  problem : l.book.problem ≡ l.initial.book.problem;
  whole : l.book.whole ≡ true;
  few : length l.book.problem.inputs + length l.book.book.derived + 2 * l.left + 2 < 2 ^ 32;
  there : All (HasClause (numbered_clauses l.book.problem l.book.book)) l.waiting.items;
  reaches : (given : Numbered) (usable : List Numbered)
      → Reaches l.initial.book.problem l.turn given usable IsPassedOver l.fn.left l.initial.book.book (map Again l.fn.waiting.items) l.left l.book.book (map Again l.waiting.items);
}

-- each number that is worked counts
abbrev pub decreases-loop-n : goal.decreases-loop-n
decreases-loop-n l = l.left
