-- Texts of tables and runs, by computation.
use Rattle.std.proofs.Common.{◌≡◌, refl, ℕ, List, [], ◌∷◌, true}
use Rattle.std.specs.Prelude.{codes}
use Rattle.std.specs.Fmt.{digits}
use Rattle.sc_term.specs.declared.symbol.Role.TheVariants.{Function, Predicate}
use Rattle.sc_term.specs.declared.symbol.Symbol.{Symbol}
use Rattle.sc_term.specs.Symbol.{equality}
use Rattle.sc_core_rules.specs.declared.row.Cause.TheVariants as cause
use Rattle.sc_interp.specs.declared.plain.Truth.TheVariants as truth
use Rattle.sc_text_run_rules.specs.declared.run.FinderEnd.TheVariants as end
use Rattle.sc_core_rules.specs.declared.row.Outcome.TheVariants as outcome
use Rattle.sc_core_rules.specs.declared.row.GivenRow.{GivenRow}
use Rattle.sc_text_run_rules.specs.declared.run.MarkRow.{MarkRow}
use Rattle.sc_interp.specs.declared.plain.Truth.{Truth}
use Rattle.sc_interp.specs.declared.plain.VersionName.{VersionName}
use Rattle.sc_text_rules.proofs.TextLaws.{text-Var, text-App}
use Rattle.sc_text_rules.proofs.ProofExamples as example
use Rattle.sc_text_run_rules.specs.RunValue.{RunValue, VersionValue}
use Rattle.sc_text_run_rules.specs.ModelText.{model_text}
use Rattle.sc_text_run_rules.specs.RunText.{run_text}

abbrev pub predicate : List ℕ → ℕ → Symbol
predicate name arity = record { name = name; arity = arity; role = Predicate }

abbrev pub constant : List ℕ → Symbol
constant name = record { name = name; arity = 0; role = Function }

abbrev pub symbols : List Symbol
symbols = equality ∷ predicate (codes "p") 1 ∷ constant (codes "a") ∷ predicate (codes "s") 0 ∷ predicate (codes "q") 1 ∷ constant (codes "b") ∷ []

abbrev tables : ℕ → List (List ℕ)
tables s = (0 ∷ 1 ∷ []) ∷ (1 ∷ []) ∷ (s ∷ []) ∷ (0 ∷ 0 ∷ []) ∷ (0 ∷ []) ∷ []

abbrev version : ℕ → List ℕ → VersionValue
version s claims = record { size = 2; entries = tables s; claims = claims }

abbrev pub run : RunValue
run =
    record {
      ratio = 5;
      lists = (version 0 (1 ∷ []) ∷ version 1 (1 ∷ 2 ∷ []) ∷ version 1 (1 ∷ 2 ∷ 3 ∷ []) ∷ []) ∷ [];
      given =
          record { turn = 1; number = 2; cause = cause.Weight; name = record { finder = 0; place = 0 }; truth = truth.False; lengths = 0 ∷ [] }
          ∷ record { turn = 2; number = 4; cause = cause.False; name = record { finder = 1; place = 0 }; truth = truth.False; lengths = 1 ∷ [] }
          ∷ record { turn = 3; number = 3; cause = cause.Weight; name = record { finder = 1; place = 1 }; truth = truth.True; lengths = 2 ∷ [] } ∷ [];
      kept = [];
      ends = end.Stopped ∷ [];
      outcome = outcome.SosEmpty;
      proof = [];
      marks = [];
    }

abbrev pub text : List ℕ
text = codes "run.\nlists 1.\nratio 5.\nversion 1 0 2.\npredicate p 1 : 0 1.\nfunction a 0 : 1.\npredicate s 0 : 0.\npredicate q 1 : 0 0.\nfunction b 0 : 0.\nclaims 1.\nversion 1 1 2.\npredicate p 1 : 0 1.\nfunction a 0 : 1.\npredicate s 0 : 1.\npredicate q 1 : 0 0.\nfunction b 0 : 0.\nclaims 1 2.\nversion 1 2 2.\npredicate p 1 : 0 1.\nfunction a 0 : 1.\npredicate s 0 : 1.\npredicate q 1 : 0 0.\nfunction b 0 : 0.\nclaims 1 2 3.\ngiven 1 2 weight 0 0 false 0.\ngiven 2 4 false 1 0 false 1.\ngiven 3 3 weight 1 1 true 2.\nfinder 1 stopped.\nend sos_empty.\nend_of_run.\n"

printed : run_text symbols run ≡ text
unfolding digits
printed = refl

-- ---- tables

model : model_text (equality ∷ constant (codes "a") ∷ constant (codes "b") ∷ []) 2 ((0 ∷ []) ∷ (1 ∷ []) ∷ []) ≡ codes "model 2.\nfunction a 0 : 0.\nfunction b 0 : 1.\nend_of_model.\n"
unfolding digits
model = refl

-- ---- a run that ends with a proof

abbrev name_0 : VersionName
name_0 = record { finder = 0; place = 0 }

abbrev given : ℕ → ℕ → Truth → GivenRow
given turn number truth = record { turn = turn; number = number; cause = cause.Weight; name = name_0; truth = truth; lengths = 0 ∷ [] }

abbrev mark : ℕ → Truth → MarkRow
mark line truth = record { line = line; name = name_0; truth = truth }

abbrev pub proved : RunValue
proved =
    record {
      ratio = 5;
      lists = [] ∷ [];
      given = given 1 1 truth.False ∷ given 2 3 truth.True ∷ given 3 2 truth.True ∷ [];
      kept = record { number = 4; turn = 3; weight = 2; clause = example.clause (example.q true example.a ∷ []) } ∷ [];
      ends = end.Done ∷ [];
      outcome = outcome.Proof;
      proof = example.lines;
      marks = mark 1 truth.False ∷ mark 2 truth.True ∷ mark 3 truth.True ∷ mark 4 truth.True ∷ mark 5 truth.False ∷ mark 6 truth.False ∷ [];
    }

abbrev pub proved_text : List ℕ
proved_text = codes "run.\nlists 1.\nratio 5.\ngiven 1 1 weight 0 0 false 0.\ngiven 2 3 weight 0 0 true 0.\ngiven 3 2 weight 0 0 true 0.\nkept 4 3 2 : q(a).\nfinder 1 done.\nend proof.\nproof.\n1 input 1 : p(a).\n2 input 2 : -p(x0) | q(x0).\n3 input 3 : -q(a).\n4 instance 2 (a) : -p(a) | q(a).\n5 resolve 4 1 1 1 : q(a).\n6 resolve 5 1 3 1 : $F.\nend_of_proof.\nmark 1 0 0 false.\nmark 2 0 0 true.\nmark 3 0 0 true.\nmark 4 0 0 true.\nmark 5 0 0 false.\nmark 6 0 0 false.\nend_of_run.\n"

proved_printed : run_text example.symbols proved ≡ proved_text
unfolding digits
proved_printed = simp (text-App, text-Var) refl
