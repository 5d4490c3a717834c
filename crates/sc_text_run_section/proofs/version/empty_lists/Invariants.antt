use Rattle.std.proofs.Common.{◌≡◌, [], length, map, replicate}
use Rattle.sc_text_run_rules.specs.RunValue.{version_value}
use Rattle.sc_text_run_section.proofs.version.empty_lists.Given as goal

abbrev pub invariant-loop : goal.invariant-loop
invariant-loop l = (map (map version_value) l.lists.items ≡ replicate l.counter []) × (length l.lists.items ≡ l.counter)
