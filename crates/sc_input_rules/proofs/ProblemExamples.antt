-- Problems that are read, by computation.
use Rattle.std.proofs.Common.{◌≡◌, refl, ℕ, List, [], ◌∷◌, Ok, Bool, true, false}
use Rattle.std.specs.Prelude.{codes}
use Rattle.sc_term.specs.declared.SymId.{SymId}
use Rattle.sc_term.specs.declared.Term.{Term}
use Rattle.sc_term.specs.declared.Term.TheVariants.{Var, App}
use Rattle.sc_term.specs.declared.Literal.{Literal}
use Rattle.sc_term.specs.declared.Clause.{Clause}
use Rattle.sc_term.specs.declared.symbol.Role.TheVariants.{Function, Predicate}
use Rattle.sc_term.specs.declared.symbol.Symbol.{Symbol}
use Rattle.sc_term.specs.Symbol.{equality}
use Rattle.sc_input_rules.specs.declared.settings.Home.TheVariants.{Usable, Sos, Demodulators}
use Rattle.sc_input_rules.specs.declared.settings.Flags.{Flags}
use Rattle.sc_input_rules.specs.declared.settings.Params.{Params}
use Rattle.sc_input_rules.specs.Problem.{Stated}
use Rattle.sc_input_rules.specs.Reading.{problem_of, items_of}

abbrev default_flags : Flags
default_flags =
    record {
      binary_res = false;
      factor = false;
      hyper_res = false;
      ur_res = false;
      para_from = false;
      para_into = false;
      unit_deletion = false;
      dynamic_demod = false;
      back_demod = false;
      for_sub = true;
      back_sub = true;
    }

abbrev default_params : Params
default_params = record { pick_given_ratio = 4; max_weight = 100; max_literals = 64; max_given = 10000; max_kept = 20000; demod_limit = 1000; max_proofs = 1 }

abbrev id : ℕ → SymId
id n = record { 0 = n }

abbrev constant : ℕ → Term
constant n = App (id n) []

abbrev atom : Bool → ℕ → List Term → Literal
atom positive n args = record { positive = positive; pred = id n; args = args }

abbrev clause : List Literal → Clause
clause ls = record { literals = ls }

abbrev function : List ℕ → ℕ → Symbol
function name arity = record { name = name; arity = arity; role = Function }

abbrev predicate : List ℕ → ℕ → Symbol
predicate name arity = record { name = name; arity = arity; role = Predicate }

abbrev small_problem : Stated
small_problem =
    record {
      symbols = equality ∷ predicate (codes "p") 1 ∷ function (codes "a") 0 ∷ predicate (codes "q") 1 ∷ [];
      inputs =
          clause (atom true 1 (constant 2 ∷ []) ∷ [])
          ∷ clause (atom false 1 (Var 0 ∷ []) ∷ atom true 3 (Var 0 ∷ []) ∷ [])
          ∷ clause (atom false 3 (constant 2 ∷ []) ∷ []) ∷ [];
      homes = Sos ∷ Sos ∷ Sos ∷ [];
      flags = default_flags;
      params = default_params;
    }

three_clauses : problem_of (codes "list(sos).\np(a).\n-p(x) | q(x).\n-q(a).\nend_of_list.\n") ≡ Ok small_problem
three_clauses = refl

before_a_proof : items_of (codes "list(sos).\np(a).\n-p(x) | q(x).\n-q(a).\nend_of_list.\nproof.\n1 input 1 : p(a).") ≡ Ok (record { problem = small_problem; rest = 51 })
before_a_proof = refl

-- comments with any bytes, and a flag
commented : problem_of (codes "% café\nset(binary_res).") ≡ Ok (record { symbols = equality ∷ []; inputs = []; homes = []; flags = record default_flags { binary_res = true }; params = default_params })
commented = refl

-- equations, variables in another order, one word in two roles, lists and settings that come twice
mixed : problem_of (codes "list(usable). f(y,x)!=f(x,y) | -(a!=y) | u | (x = f). end_of_list. assign(max_weight,7). list(sos). $F. end_of_list. list(demodulators). f(x,u)=u. end_of_list. assign(max_weight,9). clear(for_sub). set(for_sub). clear(back_sub).")
    ≡ Ok (record {
      symbols = equality ∷ function (codes "f") 2 ∷ function (codes "a") 0 ∷ predicate (codes "u") 0 ∷ function (codes "f") 0 ∷ [];
      inputs =
          clause (atom false 0 (App (id 1) (Var 0 ∷ Var 1 ∷ []) ∷ App (id 1) (Var 1 ∷ Var 0 ∷ []) ∷ []) ∷ atom true 0 (constant 2 ∷ Var 0 ∷ []) ∷ atom true 3 [] ∷ atom true 0 (Var 1 ∷ constant 4 ∷ []) ∷ [])
          ∷ clause [] ∷ clause (atom true 0 (App (id 1) (Var 0 ∷ Var 1 ∷ []) ∷ Var 1 ∷ []) ∷ []) ∷ [];
      homes = Usable ∷ Sos ∷ Demodulators ∷ [];
      flags = record default_flags { back_sub = false };
      params = record default_params { max_weight = 9 };
    })
mixed = refl
