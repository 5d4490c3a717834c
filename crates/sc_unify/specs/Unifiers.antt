-- Substitutions as maps, and the equations of pairs of literals.
use Rattle.std.specs.Prelude.{◌≡◌, ◌↔◌, ℕ, List, Bool, true, false}
use Rattle.std.specs.Option.{unwrap_or}
use Rattle.sc_term.specs.declared.Term.{Term, Var}
use Rattle.sc_term.specs.declared.Literal.{Literal}
use Rattle.sc_term.specs.declared.Pair.{Pair}
use Rattle.sc_term.specs.Refuted.{atom_of}
use Rattle.sc_term.specs.Substitution.{Substitution, literal_under, IsUnifier}
use Rattle.sc_unify.specs.declared.bound.Binding.{Binding}
use Rattle.sc_unify.specs.Bindings.{lookup}
use Rattle.sc_unify.specs.Equations.{Equal, Solves}

-- the entry of a variable, or else the variable itself
abbrev pub substitution : List Binding → Substitution
substitution entries n = unwrap_or (lookup entries n) (Var n)

-- the two atoms become equal
abbrev pub AreEqualUnder : Substitution → Literal → Literal → Type 0
AreEqualUnder u a b = atom_of (literal_under u a) ≡ atom_of (literal_under u b)

-- the new equations ask besides that the atoms become equal, or nothing makes them so
abbrev pub EquatesAtoms : Bool → Literal → Literal → List Equal → List Equal → Type 0
EquatesAtoms true a b before now = (u : Substitution) → Solves u now ↔ (Solves u before × AreEqualUnder u a b)
EquatesAtoms false a b before now = (u : Substitution) → ¬ AreEqualUnder u a b

abbrev pub EquatesPairs : List Pair → List Equal → Type 0
EquatesPairs pairs es = (u : Substitution) → IsUnifier pairs u ↔ Solves u es

abbrev pub HasNoUnifier : List Pair → Type 0
HasNoUnifier pairs = (u : Substitution) → ¬ IsUnifier pairs u
