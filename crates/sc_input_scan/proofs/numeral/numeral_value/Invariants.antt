use Rattle.std.proofs.Common.{◌≡◌, ◌<◌, ◌^◌, drop}
use Rattle.sc_input_scan.specs.Numeral.{numeral_after}
use Rattle.sc_input_scan.proofs.numeral.numeral_value.Given as goal

-- the digits so far, and then the rest, write what all write
abbrev pub invariant-loop-byte : goal.invariant-loop-byte
invariant-loop-byte l = record {
  so_far : numeral_after l.value (drop l.byte-index l.text) ≡ numeral_after 0 l.text;
  within : l.value < 2 ^ 64;
}
