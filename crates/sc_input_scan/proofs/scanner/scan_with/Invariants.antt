use Rattle.std.proofs.Common.{◌≡◌, ◌≤◌, ◌++◌, length, map, false}
use Rattle.sc_input_rules.specs.Tokens.{tokens_behind}
use Rattle.sc_input_scan.specs.Rest.{tokens_left, token_as}
use Rattle.sc_input_scan.proofs.scanner.scan_with.Given as goal

abbrev pub invariant-loop-rest : goal.invariant-loop-rest
invariant-loop-rest l = record {
  all_bytes : l.total ≡ length l.bytes;
  within : length l.rest ≤ l.total;
  all_tokens : l.tokens ++ map (token_as l.has_colon) (tokens_left false l.total l.rest) ≡ map (token_as l.has_colon) (tokens_behind l.fn.from l.bytes);
}

abbrev pub decreases-loop-rest : goal.decreases-loop-rest
decreases-loop-rest l = length l.rest
