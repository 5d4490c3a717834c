-- What stands behind a clause: members of a refutation, one of which is false wherever the clause's instance is.
use Rattle.std.proofs.Common.{◌≡◌, Bool, true, List}
use Rattle.std.specs.List.{list_all, list_any, AllByRecursion}
use Rattle.sc_term.specs.declared.Term.{Term}
use Rattle.sc_term.specs.declared.Literal.{Literal}
use Rattle.sc_term.specs.declared.Clause.{Clause}
use Rattle.sc_term.specs.Clause.{literal_instance, instance}
use Rattle.sc_term.specs.Refuted.{Atom, is_false_literal, is_false_clause, IsMember}
use Rattle.sc_steps.proofs.ListLaws.{all_map}

-- the literal's instance by the terms is false
abbrev pub under_terms : List Atom → List Term → Literal → Bool
under_terms v terms l = is_false_literal v (literal_instance terms l)

-- finitely many instances of input clauses and equality axioms, one of which is false wherever the clause's instance
-- by the terms is
pub record Behind (inputs : List Clause) (terms : List Term) (c : Clause) : Type 0 where
  pub members : List Clause
  pub allowed : AllByRecursion (IsMember inputs) members
  pub falls : (v : List Atom) → is_false_clause v (instance terms c) ≡ true → list_any (is_false_clause v) members ≡ true

-- the clause has such members under each list of terms
abbrev pub IsSound : List Clause → Clause → Type 0
IsSound inputs c = (terms : List Term) → Behind inputs terms c

pub by_terms : (v : List Atom) (terms : List Term) (c : Clause) → is_false_clause v (instance terms c) ≡ list_all (under_terms v terms) c.literals
by_terms v terms c = all_map (is_false_literal v) (literal_instance terms) c.literals
