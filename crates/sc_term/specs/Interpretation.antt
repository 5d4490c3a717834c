-- Truth of clauses in an interpretation whose elements are whole numbers.
use Rattle.std.specs.Prelude.{◌≡◌, ℕ, List, [], ◌∷◌, Bool, true, false, not, map, nat_eq, if◌then◌else◌}
use Rattle.std.specs.List.{list_any}
use Rattle.sc_term.specs.declared.SymId.{SymId}
use Rattle.sc_term.specs.declared.Term.{Term, fold-Term}
use Rattle.sc_term.specs.declared.Term.TheOpen.{Term-F}
use Rattle.sc_term.specs.declared.Term.TheOpen as at
use Rattle.sc_term.specs.declared.Literal.{Literal}
use Rattle.sc_term.specs.declared.Clause.{Clause}

-- an element for each function symbol and list of elements, and a truth value for each predicate other than =
pub record Meaning : Type 0 where
  pub function : SymId → List ℕ → ℕ
  pub predicate : SymId → List ℕ → Bool

-- an element for each variable
abbrev pub Assignment : Type 0
Assignment = ℕ → ℕ

-- the value of a variable, or of a symbol with the values of its arguments
abbrev pub value_step : Meaning → Assignment → Term-F ℕ → ℕ
value_step meaning a (at.Var n) = a n
value_step meaning a (at.App f values) = meaning.function f values

-- the value of a term
abbrev pub value : Meaning → Assignment → Term → ℕ
value meaning a = fold-Term ℕ (value_step meaning a)

-- = is identity
abbrev pub are_equal : List ℕ → Bool
are_equal [] = false
are_equal (m ∷ []) = false
are_equal (m ∷ n ∷ []) = nat_eq m n
are_equal (m ∷ n ∷ k ∷ ks) = false

-- whether an atom of elements is true
abbrev pub atom_holds : Meaning → SymId → List ℕ → Bool
atom_holds meaning p values = if nat_eq p.0 0 then are_equal values else meaning.predicate p values

-- whether a literal is true under an assignment
abbrev pub literal_holds : Meaning → Assignment → Literal → Bool
literal_holds meaning a l =
    if l.positive then atom_holds meaning l.pred (map (value meaning a) l.args)
    else not (atom_holds meaning l.pred (map (value meaning a) l.args))

-- every assignment of elements makes some literal true
abbrev pub IsTrueIn : (ℕ → Type 0) → Meaning → Clause → Type 0
IsTrueIn IsElement meaning c =
    (a : Assignment) → ((n : ℕ) → IsElement (a n)) → list_any (literal_holds meaning a) c.literals ≡ true
