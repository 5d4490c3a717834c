use Rattle.std.proofs.Common.{◌≡◌, ◌≤◌, ◌-◌, ◌^◌, length, map}
use Rattle.sc_text_run_rules.specs.RunValue.{version_value}
use Rattle.sc_text_run_rules.specs.RunSection.{version_lists}
use Rattle.sc_text_run_section.specs.OverSymbols.{HaveTables}
use Rattle.sc_text_run_section.specs.Seen.{next_of}
use Rattle.sc_text_run_section.proofs.VersionsInTurn.{placed, rows}
use Rattle.sc_text_run_section.proofs.version.read_lists.Given as goal

-- what is read of the rest, put behind what was read, is what is read of all; the tables so far are over the symbols
abbrev pub invariant-loop : goal.invariant-loop
invariant-loop l = record {
  read : placed (map (map version_value) l.lists.items) (rows l.sig l.count (length l.tokens - l.counter) (next_of l.next) l.rest) ≡ version_lists l.sig l.count l.tokens;
  many : length l.lists.items ≡ l.count;
  first : 1 ≤ l.next.finder;
  small : l.next.place ≤ 2 ^ 32;
  tables : HaveTables l.sig l.lists.items;
}
