-- Run texts that are refused, by computation.
use Rattle.std.proofs.Common.{◌≡◌, refl, ℕ, List, [], ◌∷◌, Err}
use Rattle.std.specs.Prelude.{codes}
use Rattle.sc_term.specs.Symbol.{equality}
use Rattle.sc_input_rules.specs.declared.fault.InputKind.{InputKind}
use Rattle.sc_input_rules.specs.declared.fault.InputKind.TheVariants.{Unexpected, Truncated, UnknownName, OutOfRange, TooMany}
use Rattle.sc_input_rules.specs.Faults.{place}
use Rattle.sc_text_run_rules.specs.RunReading.{run_of}
use Rattle.sc_text_run_rules.proofs.RunExamples.{predicate, symbols}

abbrev Refused : List ℕ → ℕ → InputKind → Type 0
Refused bytes at kind = run_of symbols bytes 0 ≡ Err (place at kind)

nine_lists : Refused (codes "run. lists 9. ratio 5.") 11 OutOfRange
nine_lists = refl

ratio_0 : Refused (codes "run. lists 1. ratio 0. finder") 20 OutOfRange
ratio_0 = refl

size_9 : Refused (codes "run. lists 1. ratio 5. version 1 0 9. predicate") 35 OutOfRange
size_9 = refl

-- a later finder begins at place 0
place_1 : Refused (codes "run. lists 2. ratio 5. version 2 1 2.") 33 Unexpected
place_1 = refl

next_symbol : Refused (codes "run. lists 1. ratio 5. version 1 0 1. predicate q 1 : 0.") 48 Unexpected
next_symbol = refl

entry_2 : Refused (codes "run. lists 1. ratio 5. version 1 0 2. predicate p 1 : 0 2.") 56 OutOfRange
entry_2 = refl

one_entry : Refused (codes "run. lists 1. ratio 5. version 1 0 2. predicate p 1 : 0.") 55 Unexpected
one_entry = refl

three_entries : Refused (codes "run. lists 1. ratio 5. version 1 0 2. predicate p 1 : 0 1 1.") 58 Unexpected
three_entries = refl

-- the symbol of arity 8 has 1,679,616 entries at size 6
large_tables : run_of (equality ∷ predicate (codes "p") 8 ∷ []) (codes "run. lists 1. ratio 5. version 1 0 6.") 0 ≡ Err (place 35 TooMany)
large_tables = refl

second_turn : Refused (codes "run. lists 1. ratio 5. given 2 1 age 0 0 false 0.") 29 Unexpected
second_turn = refl

falling : Refused (codes "run. lists 1. ratio 5. kept 7 1 1 : s. kept 7 1 1 : s.") 44 Unexpected
falling = refl

no_finder : Refused (codes "run. lists 2. ratio 5. finder 1 done. end sos_empty.") 38 Unexpected
no_finder = refl

no_mark : Refused (codes "run. lists 1. ratio 5. finder 1 done. end proof. proof. 1 input 1 : $F. end_of_proof. end_of_run.") 86 Unexpected
no_mark = refl

late_row : Refused (codes "run. lists 1. ratio 5. finder 1 done. given 1 1 age 0 0 false 0.") 38 Unexpected
late_row = refl

unknown_name : Refused (codes "run. lists 1. ratio 5. kept 7 1 2 : p(c).") 38 UnknownName
unknown_name = refl

cut_off : Refused (codes "run. lists 1. ratio 5. finder 1 done. end sos_empty. end_of_run") 63 Truncated
cut_off = refl

second_finder : Refused (codes "run. lists 1. ratio 5. finder 1 done. finder 2 done. end sos_empty.") 38 Unexpected
second_finder = refl

second_mark : Refused (codes "run. lists 1. ratio 5. finder 1 done. end proof. proof. 1 input 1 : $F. end_of_proof. mark 1 0 0 true. mark 2 0 0 true.") 103 Unexpected
second_mark = refl

-- ---- where one number goes wrong in several ways

-- against the numbering, and of more than ten digits
long_second_turn : Refused (codes "run. lists 1. ratio 5. given 00000000002 1 age 0 0 false 0.") 29 Unexpected
long_second_turn = refl

-- the right number, of more than ten digits
long_first_turn : Refused (codes "run. lists 1. ratio 5. given 00000000001 1 age 0 0 false 0.") 29 OutOfRange
long_first_turn = refl

large_claim : Refused (codes "run. lists 1. ratio 5. version 1 0 1. predicate p 1 : 0. function a 0 : 0. predicate s 0 : 0. predicate q 1 : 0. function b 0 : 0. claims 1 4294967296.") 140 OutOfRange
large_claim = refl

-- of more than ten digits, and with too many entries
long_size : run_of (equality ∷ predicate (codes "p") 8 ∷ []) (codes "run. lists 1. ratio 5. version 1 0 00000000006.") 0 ≡ Err (place 35 OutOfRange)
long_size = refl

-- with an unknown name before it
earlier_name : Refused (codes "run. lists 1. ratio 5. kept 7 1 2 : p(c). version 1 0 9.") 38 UnknownName
earlier_name = refl
