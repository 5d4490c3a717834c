-- Run texts that are read back as the runs that they were printed from, by computation.
use Rattle.std.proofs.Common.{◌≡◌, refl, Ok}
use Rattle.sc_text_rules.proofs.ProofExamples as example
use Rattle.sc_text_run_rules.proofs.RunExamples.{symbols, run, text, proved, proved_text}
use Rattle.sc_text_run_rules.specs.RunReading.{run_of}

read_back : run_of symbols text 0 ≡ Ok run
read_back = refl

proved_read : run_of example.symbols proved_text 0 ≡ Ok proved
proved_read = refl
