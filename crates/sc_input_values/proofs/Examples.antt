-- One clause, whose symbols make a signature.
use Rattle.std.proofs.Common.{ℕ, ◌≡◌, ◌∙◌, ap, false, List, [], ◌∷◌, ◌++◌, codes, refl, arith}
use Rattle.std.specs.List.{AllByRecursion}
use Rattle.std.specs.List.{IsDistinct}
use Rattle.sc_term.specs.Symbol.{IsSignature}
use Rattle.sc_input_rules.specs.declared.written.Occurrence.{Occurrence}
use Rattle.sc_input_rules.specs.Syntax.{WrittenClause}
use Rattle.sc_input_rules.specs.Numbering.{symbols_of}
use Rattle.sc_input_rules.specs.Problem.{stated}
use Rattle.sc_input_rules.specs.WellFormed.{IsProblem}
use Rattle.sc_input_values.specs.Names.{HasFewVariables}

-- `-p(y,f(x,y)).`
abbrev pub example : List WrittenClause
example =
    (record {
      positive = false;
      predicate = record { at = 1; name = codes "p"; arity = 2 };
      arguments = record { at = 3; name = codes "y"; arity = 0 } ∷ record { at = 5; name = codes "f"; arity = 2 }
          ∷ record { at = 7; name = codes "x"; arity = 0 } ∷ record { at = 9; name = codes "y"; arity = 0 } ∷ [];
    } ∷ []) ∷ []

pub symbols_fit : IsSignature (symbols_of example)
unfolding IsDistinct
symbols_fit = record {
  first = refl;
  arities = (omega arith, (omega arith, (omega arith, tt)));
  distinct = ((refl, (refl, tt)), ((refl, tt), (tt, tt)));
  few = omega arith;
}

pub variables_fit : AllByRecursion HasFewVariables example
variables_fit = (omega arith, tt)

pub nothing_stated : IsProblem (stated [])
unfolding IsDistinct
nothing_stated = record {
  signature = record { first = refl; arities = (omega arith, tt); distinct = (tt, tt); few = omega arith };
  few = omega arith;
  each_home = refl;
  inputs = tt;
  demodulators = tt;
  params = record {
    pick_given_ratio = omega arith;
    max_weight = (omega arith, omega arith);
    max_literals = (omega arith, omega arith);
    max_given = (omega arith, omega arith);
    max_kept = (omega arith, omega arith);
    demod_limit = omega arith;
    max_proofs = refl;
  };
}

abbrev word : ℕ → List ℕ → ℕ → Occurrence
word at name arity = record { at = at; name = name; arity = arity }

-- what pushes one after another make is the example
pub is_example : (a b c d e : List Occurrence) (p q r s t : Occurrence) (f g : WrittenClause) (h k : List WrittenClause) → a ≡ [] → b ≡ a ++ p ∷ [] → c ≡ b ++ q ∷ []
    → d ≡ c ++ r ∷ [] → e ≡ d ++ s ∷ [] → f ≡ [] → g ≡ f ++ record { positive = false; predicate = t; arguments = e } ∷ [] → h ≡ [] → k ≡ h ++ g ∷ []
    → p ≡ word 3 (codes "y") 0 → q ≡ word 5 (codes "f") 2 → r ≡ word 7 (codes "x") 0 → s ≡ word 9 (codes "y") 0 → t ≡ word 1 (codes "p") 2 → k ≡ example
is_example a b c d e p q r s t f g h k a0 b0 c0 d0 e0 f0 g0 h0 k0 pw qw rw1 sw tw =
    let names : e ≡ p ∷ q ∷ r ∷ s ∷ [] =
    e0 ∙ ap (λ l. l ++ s ∷ []) (d0 ∙ ap (λ l. l ++ r ∷ []) (c0 ∙ ap (λ l. l ++ q ∷ []) (b0 ∙ ap (λ l. l ++ p ∷ []) a0))) in
    let clause : g ≡ record { positive = false; predicate = t; arguments = e } ∷ [] = g0 ∙ ap (λ l. l ++ record { positive = false; predicate = t; arguments = e } ∷ []) f0 in
    let arguments : e ≡ word 3 (codes "y") 0 ∷ word 5 (codes "f") 2 ∷ word 7 (codes "x") 0 ∷ word 9 (codes "y") 0 ∷ [] = names ∙ (λ j. pw j ∷ qw j ∷ rw1 j ∷ sw j ∷ []) in
    k0 ∙ ap (λ l. l ++ g ∷ []) h0 ∙ ap (λ l. l ∷ []) clause ∙ (λ j. (record { positive = false; predicate = tw j; arguments = arguments j } ∷ []) ∷ [])
