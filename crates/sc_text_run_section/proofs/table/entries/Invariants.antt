use Rattle.std.proofs.Common.{◌≡◌, ◌≤◌, ◌<◌, ◌-◌, All, length}
use Rattle.sc_input_grammar.specs.Behind.{behind}
use Rattle.sc_interp.specs.Structure.{values_below}
use Rattle.sc_text_run_rules.specs.RowWords.{counted}
use Rattle.sc_text_run_rules.specs.VersionGrammar.{an_entry}
use Rattle.sc_text_run_section.proofs.table.entries.Given as goal

-- what was read, and then what is read of the rest, is what is read of all
abbrev pub invariant-loop-read : goal.invariant-loop-read
invariant-loop-read l = record {
  all :
      behind l.front (counted (λ i. an_entry l.role l.size) (length l.tokens - l.read) l.read (l.count - l.read) l.rest)
      ≡ counted (λ i. an_entry l.role l.size) (length l.tokens) 0 l.count l.tokens;
  many : length l.front ≡ l.read;
  below : All (λ e. e < values_below l.role l.size) l.front;
  within : l.read ≤ l.count;
}
