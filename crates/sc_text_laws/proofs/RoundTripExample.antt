-- A proof section with a constant and a variable is printable, so the law holds of it.
use Rattle.std.proofs.Common.{◌≡◌, refl, false, true, List, [], ◌∷◌, Ok, arith}
use Rattle.std.specs.List.{IsDistinct}
use Rattle.sc_term.specs.declared.Line.{Line}
use Rattle.sc_term.specs.declared.Step.TheVariants.{Input, Instance}
use Rattle.sc_term.specs.declared.Term.TheVariants.{Var}
use Rattle.sc_term.proofs.TermLaws.{fold-Var, fold-App}
use Rattle.sc_term.specs.Symbol.{same_symbol}
use Rattle.sc_text_rules.specs.ProofText.{proof_text}
use Rattle.sc_text_rules.specs.ProofReading.{proof_of}
use Rattle.sc_text_laws.specs.Printable.{AreNamed, IsPrintable}
use Rattle.sc_text_rules.proofs.ProofExamples.{symbols, clause, p, q, a}
use Rattle.sc_text_laws.proofs.RoundTrip.{proof_back}

abbrev lines : List Line
lines =
    record { step = Input 1; clause = clause (p false (Var 0) ∷ q true (Var 0) ∷ []) } ∷ record { step = Instance 1 (a ∷ []); clause = clause (p false a ∷ q true a ∷ []) } ∷ []

distinct : IsDistinct same_symbol symbols
unfolding IsDistinct
distinct = ((refl, (refl, (refl, (refl, tt)))), ((refl, (refl, (refl, tt))), ((refl, (refl, tt)), ((refl, tt), (tt, tt)))))

named : AreNamed symbols
named = record {
  signature = record { first = refl; arities = (omega arith, (omega arith, (omega arith, (omega arith, (omega arith, tt))))); distinct = distinct; few = omega arith };
  names = (record { name = refl; constant = refl }, (record { name = refl; constant = refl }, (record { name = refl; constant = refl }, (record { name = refl; constant = refl }, tt))));
}

printable : IsPrintable symbols lines
printable = record {
  named = named;
  few = omega arith;
  each = (
    record {
      step = omega arith;
      clause = record { over = simp fold-Var refl; light = simp fold-Var (omega arith); shallow = simp fold-Var (omega arith); narrow = simp fold-Var (omega arith) };
    },
    (
      record {
        step = (omega arith, (record { over = simp fold-App refl; light = simp fold-App (omega arith); shallow = simp fold-App (omega arith); narrow = simp fold-App (omega arith) }, tt));
        clause = record { over = simp fold-App refl; light = simp fold-App (omega arith); shallow = simp fold-App (omega arith); narrow = simp fold-App (omega arith) };
      },
      tt,
    ),
  );
}

read_back : proof_of symbols (proof_text symbols lines) 0 ≡ Ok lines
read_back = proof_back symbols lines printable
