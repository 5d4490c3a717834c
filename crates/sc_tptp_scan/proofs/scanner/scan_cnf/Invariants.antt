use Rattle.std.proofs.Common.{◌≡◌, ◌≤◌, ◌+◌, ◌++◌, length}
use Rattle.sc_tptp_rules.specs.Placing.{cnf_tokens}
use Rattle.sc_tptp_scan.specs.Left.{tokens_left}
use Rattle.sc_tptp_scan.specs.Standing.{placed_with}
use Rattle.sc_tptp_scan.proofs.scanner.scan_cnf.Given as goal

abbrev pub invariant-loop-rest : goal.invariant-loop-rest
invariant-loop-rest l = record {
  all_bytes : l.total ≡ length l.bytes;
  within : length l.rest ≤ l.total;
  count : l.standing.count + length l.rest ≤ l.total;
  around : l.standing.around + length l.rest ≤ l.total;
  all_tokens : l.tokens ++ placed_with l.standing (tokens_left l.region l.total l.rest) ≡ cnf_tokens l.bytes;
}

abbrev pub decreases-loop-rest : goal.decreases-loop-rest
decreases-loop-rest l = length l.rest
