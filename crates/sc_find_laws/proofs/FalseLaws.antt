-- With values for all cells a literal is false by them exactly where it is false in the tables that have them. So they
-- are consistent exactly where the clauses are true in the tables.
use Rattle.std.proofs.Common.{◌≡◌, ◌∙◌, sym, ap, subst, refl, ℕ, ◌<◌, Bool, true, false, not, if◌then◌else◌, List, [], ◌∷◌, map, get_or, Some, true≢false}
use Rattle.std.specs.List.{All, AllByRecursion, list_any, list_all}
use Rattle.std.proofs.lemmas.Bool.{true_from_ne_false, or_parts, or_from}
use Rattle.std.proofs.lemmas.List.Elements.{All-from_recursion, recursion_from_All, All-contains, Contains-get_or}
use Rattle.sc_term.specs.declared.Literal.{Literal}
use Rattle.sc_term.specs.declared.Clause.{Clause}
use Rattle.sc_term.specs.Interpretation.{Assignment, value, atom_holds, literal_holds}
use Rattle.sc_term.specs.declared.symbol.Symbol.{Symbol}
use Rattle.sc_term.specs.Symbol.{IsSignature}
use Rattle.sc_input_rules.specs.WellFormed.{literal_is_over, IsOver}
use Rattle.sc_input_rules.proofs.Booleans.{parts_hold}
use Rattle.sc_interp.specs.Structure.{Structure, meaning_of, Satisfies}
use Rattle.sc_cells.specs.Cells.{Prefix, IsFalseBy, IsConsistent}
use Rattle.sc_find_laws.proofs.ValueLaws.{HasValues, atom_evaluates}

same_truth : (a b : Bool) → Some a ≡ Some b → a ≡ b
same_truth a b e = cc

-- a literal of that sign whose atom has that truth
signed_false : (positive r : Bool) → r ≡ not positive → (if positive then r else not r) ≡ false
signed_false true r e = e
signed_false false r e = ap not e

sign_of_false : (positive r : Bool) → (if positive then r else not r) ≡ false → r ≡ not positive
sign_of_false true r e = e
sign_of_false false true e = refl
sign_of_false false false e = absurd cc

module _ (sig : List Symbol) (size : ℕ) (p : Prefix) (t : Structure) (signature : IsSignature sig) (has : HasValues sig size p t) where
  module _ (a : Assignment) (elements : (n : ℕ) → a n < size) where
    abbrev atom : Literal → Bool
    atom l = atom_holds (meaning_of t) l.pred (map (value (meaning_of t) a) l.args)

    false_in_tables : (l : Literal) → literal_is_over sig l ≡ true → IsFalseBy p a l → literal_holds (meaning_of t) a l ≡ false
    false_in_tables l over h =
        signed_false l.positive (atom l) (same_truth (atom l) (not l.positive) (sym (atom_evaluates sig size p t signature has a elements l over) ∙ h))

    false_by_values : (l : Literal) → literal_is_over sig l ≡ true → literal_holds (meaning_of t) a l ≡ false → IsFalseBy p a l
    false_by_values l over h =
        atom_evaluates sig size p t signature has a elements l over ∙ ap (λ (b : Bool). Some b) (sign_of_false l.positive (atom l) h)

    none_holds : (ls : List Literal) → list_all (literal_is_over sig) ls ≡ true → AllByRecursion (IsFalseBy p a) ls → list_any (literal_holds (meaning_of t) a) ls ≡ false
    none_holds [] over h = refl
    none_holds (l ∷ ls) over h =
        let parts = parts_hold (literal_is_over sig l) (list_all (literal_is_over sig) ls) over in
        or_from (literal_holds (meaning_of t) a l) (list_any (literal_holds (meaning_of t) a) ls) (false_in_tables l parts.0 h.0) (none_holds ls parts.1 h.1)

    all_false : (ls : List Literal) → list_all (literal_is_over sig) ls ≡ true → list_any (literal_holds (meaning_of t) a) ls ≡ false → AllByRecursion (IsFalseBy p a) ls
    all_false [] over h = tt
    all_false (l ∷ ls) over h =
        let parts = parts_hold (literal_is_over sig l) (list_all (literal_is_over sig) ls) over in
        let none = or_parts (literal_holds (meaning_of t) a l) (list_any (literal_holds (meaning_of t) a) ls) h in
        (false_by_values l parts.0 none.0, all_false ls parts.1 none.1)

  in_size : (a : Assignment) → ((n : ℕ) → a n < t.size) → (n : ℕ) → a n < size
  in_size a h n = subst (λ m. a n < m) has.size_is (h n)

  from_size : (a : Assignment) → ((n : ℕ) → a n < size) → (n : ℕ) → a n < t.size
  from_size a h n = subst (λ m. a n < m) (sym has.size_is) (h n)

  pub consistent_is_true : (clauses : List Clause) → All (IsOver sig) clauses → IsConsistent clauses size p → All (Satisfies t) clauses
  consistent_is_true clauses over consistent k d lt a elements =
      let c = get_or clauses k d in
      true_from_ne_false (list_any (literal_holds (meaning_of t) a) c.literals)
      (λ none. consistent c a (Contains-get_or clauses k d lt) (in_size a elements)
      (All-from_recursion (IsFalseBy p a) c.literals (all_false a (in_size a elements) c.literals (over k d lt) none)))

  pub true_is_consistent : (clauses : List Clause) → All (IsOver sig) clauses → All (Satisfies t) clauses → IsConsistent clauses size p
  true_is_consistent clauses over all c a within elements false_all =
      let holds : list_any (literal_holds (meaning_of t) a) c.literals ≡ true = All-contains (Satisfies t) clauses c all within a (from_size a elements) in
      let none = none_holds a elements c.literals (All-contains (IsOver sig) clauses c over within) (recursion_from_All (IsFalseBy p a) c.literals false_all) in
      true≢false (sym holds ∙ none)
