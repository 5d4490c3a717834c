-- A run with three versions is printable, so the law holds of it.
use Rattle.std.proofs.Common.{◌≡◌, refl, [], Ok, arith}
use Rattle.std.specs.List.{IsDistinct}
use Rattle.sc_term.specs.Symbol.{same_symbol}
use Rattle.sc_text_run_rules.specs.RunText.{run_text}
use Rattle.sc_text_run_rules.proofs.RunExamples.{symbols, run}
use Rattle.sc_text_run_rules.specs.RunReading.{run_of}
use Rattle.sc_text_laws.specs.Printable.{AreNamed}
use Rattle.sc_text_laws.specs.PrintableRun.{IsPrintableRun}
use Rattle.sc_text_laws.proofs.RunBack.{run_back_behind}

distinct : IsDistinct same_symbol symbols
unfolding IsDistinct
distinct = ((refl, (refl, (refl, (refl, (refl, tt))))), ((refl, (refl, (refl, (refl, tt)))), ((refl, (refl, (refl, tt))), ((refl, (refl, tt)), ((refl, tt), (tt, tt))))))

named : AreNamed symbols
named = record {
  signature = record { first = refl; arities = (omega arith, (omega arith, (omega arith, (omega arith, (omega arith, (omega arith, tt)))))); distinct = distinct; few = omega arith };
  names = (record { name = refl; constant = refl }, (record { name = refl; constant = refl }, (record { name = refl; constant = refl }, (record { name = refl; constant = refl }, (record { name = refl; constant = refl }, tt)))));
}

printable : IsPrintableRun symbols run
printable = search arith

read_back : run_of symbols (run_text symbols run) 0 ≡ Ok run
read_back = run_back_behind symbols run [] named printable
