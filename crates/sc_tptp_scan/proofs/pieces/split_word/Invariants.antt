use Rattle.std.proofs.Common.{◌≡◌, take, true}
use Rattle.std.specs.List.{list_all}
use Rattle.sc_input_rules.specs.Tokens.{is_word_byte}
use Rattle.sc_tptp_scan.proofs.pieces.split_word.Given as goal

abbrev pub invariant-loop-i : goal.invariant-loop-i
invariant-loop-i l = list_all is_word_byte (take l.i l.rest) ≡ true
