use Rattle.std.proofs.Common.{◌≡◌, drop}
use Rattle.std.specs.List.{list_all}
use Rattle.sc_input_rules.specs.Tokens.{is_digit}
use Rattle.sc_tptp_scan.proofs.bytes.all_digits.Given as goal

-- all of the rest are digits exactly where all are
abbrev pub invariant-loop-byte : goal.invariant-loop-byte
invariant-loop-byte l = list_all is_digit (drop l.byte-index l.text) ≡ list_all is_digit l.text
