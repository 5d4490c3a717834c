-- What every problem keeps.
use Rattle.std.specs.Prelude.{◌≡◌, ◌≤◌, ℕ, Bool, true, false, not, ◌&&◌, List, [], ◌∷◌, length, zip, slice_get, Some, None, nat_eq, IsTrue, ◌==◌}
use Rattle.std.specs.List.{list_any, list_all, AllByRecursion}
use Rattle.sc_term.specs.declared.Term.{Term, fold-Term}
use Rattle.sc_term.specs.declared.Term.TheOpen.{Term-F}
use Rattle.sc_term.specs.declared.Term.TheOpen as at
use Rattle.sc_term.specs.declared.SymId.{SymId}
use Rattle.sc_term.specs.declared.Literal.{Literal}
use Rattle.sc_term.specs.declared.Clause.{Clause}
use Rattle.sc_term.specs.Term.{term_variables}
use Rattle.sc_term.specs.Clause.{weight, depth, IsCanonical}
use Rattle.sc_term.specs.declared.symbol.Role.{Role}
use Rattle.sc_term.specs.declared.symbol.Role.TheVariants.{Function, Predicate}
use Rattle.sc_term.specs.declared.symbol.Symbol.{Symbol}
use Rattle.sc_term.specs.Symbol.{IsSignature, role_number}
use Rattle.sc_input_rules.specs.declared.settings.Home.{Home}
use Rattle.sc_input_rules.specs.declared.settings.Home.TheVariants.{Usable, Sos, Passive, Demodulators}
use Rattle.sc_input_rules.specs.declared.settings.Params.{Params}
use Rattle.sc_input_rules.specs.Problem.{Stated}

-- ---- clauses over symbols

-- the symbol is there, in the role, with that many arguments
abbrev pub is_used_as : List Symbol → Role → SymId → ℕ → Bool
is_used_as symbols role f arity =
    elim (slice_get symbols f.0) [ None ↦ false | Some s ↦ role_number s.role == role_number role && s.arity == arity ]

abbrev pub over_step : List Symbol → Term-F Bool → Bool
over_step symbols (at.Var n) = true
over_step symbols (at.App f args) = is_used_as symbols Function f (length args) && list_all (λ b. b) args

abbrev pub term_is_over : List Symbol → Term → Bool
term_is_over symbols = fold-Term Bool (over_step symbols)

abbrev pub literal_is_over : List Symbol → Literal → Bool
literal_is_over symbols l = is_used_as symbols Predicate l.pred (length l.args) && list_all (term_is_over symbols) l.args

abbrev pub IsOver : List Symbol → Clause → Type 0
IsOver symbols c = IsTrue (list_all (literal_is_over symbols) c.literals)

-- ---- demodulators

abbrev pub variable_step : Term-F Bool → Bool
variable_step (at.Var n) = true
variable_step (at.App f args) = false

abbrev pub is_variable_term : Term → Bool
is_variable_term = fold-Term Bool variable_step

-- the left side is no variable and holds every variable of the right side
abbrev pub are_rewriting_sides : List Term → Bool
are_rewriting_sides (left ∷ right ∷ []) =
    not (is_variable_term left) && list_all (λ n. list_any (nat_eq n) (term_variables left)) (term_variables right)
are_rewriting_sides terms = false

-- one positive equation with such sides
abbrev pub is_rewriting : List Literal → Bool
is_rewriting (l ∷ []) = l.positive && l.pred.0 == 0 && are_rewriting_sides l.args
is_rewriting ls = false

abbrev pub IsRewriting : Clause → Type 0
IsRewriting c = IsTrue (is_rewriting c.literals)

abbrev pub FitsHome : Home × Clause → Type 0
FitsHome (Demodulators, c) = IsRewriting c
FitsHome (Usable, c) = Unit {0}
FitsHome (Sos, c) = Unit {0}
FitsHome (Passive, c) = Unit {0}

-- ---- ranges

abbrev pub IsBetween : ℕ → ℕ → ℕ → Type 0
IsBetween low high n = (low ≤ n) × (n ≤ high)

pub record AreParams (p : Params) : Type 0 where
  pub pick_given_ratio : p.pick_given_ratio ≤ 1000
  pub max_weight : IsBetween 1 1000 p.max_weight
  pub max_literals : IsBetween 1 1000 p.max_literals
  pub max_given : IsBetween 1 1000000 p.max_given
  pub max_kept : IsBetween 1 100000 p.max_kept
  pub demod_limit : p.demod_limit ≤ 1000
  pub max_proofs : p.max_proofs ≡ 1

-- ---- problems

pub record IsInput (symbols : List Symbol) (c : Clause) : Type 0 where
  pub over : IsOver symbols c
  pub canonical : IsCanonical c
  pub light : weight c ≤ 1000
  pub shallow : depth c ≤ 256

pub record IsProblem (p : Stated) : Type 0 where
  pub signature : IsSignature p.symbols
  pub few : length p.inputs ≤ 10000
  pub each_home : length p.homes ≡ length p.inputs
  pub inputs : AllByRecursion (IsInput p.symbols) p.inputs
  pub demodulators : AllByRecursion FitsHome (zip p.homes p.inputs)
  pub params : AreParams p.params
