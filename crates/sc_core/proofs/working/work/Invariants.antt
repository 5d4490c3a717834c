use Rattle.std.proofs.Common.{◌≡◌, ◌+◌, ◌*◌, ◌<◌, ◌^◌, true, All, length, map}
use Rattle.sc_core_rules.specs.Book.{numbered_clauses}
use Rattle.sc_core_rules.specs.Turn.{IsPassedOver}
use Rattle.sc_core_rules.specs.WorkList.{At}
use Rattle.sc_core_sites.specs.Sites.{site_of}
use Rattle.sc_core.specs.Items.{AreUsable, HasClause}
use Rattle.sc_core.proofs.WorkingLaws.{Reaches, items_from}
use Rattle.sc_core.proofs.working.work.Given as goal

abbrev pub invariant-loop-site : goal.invariant-loop-site
invariant-loop-site l = record {
  problem : l.book.problem ≡ l.initial.book.problem;
  whole : l.book.whole ≡ true;
  few : length l.book.problem.inputs + length l.book.book.derived + 2 * l.left + 2 < 2 ^ 32;
  usable : AreUsable (numbered_clauses l.book.problem l.book.book) l.given l.initial.book.book.usable;
  there : All (HasClause (numbered_clauses l.book.problem l.book.book)) l.waiting.items;
  reaches : Reaches l.initial.book.problem l.turn l.given l.initial.book.book.usable IsPassedOver 100000 l.initial.book.book (map At (map site_of l.sites)) l.left l.book.book
      (items_from (map site_of l.sites) l.site-index l.waiting.items);
}
