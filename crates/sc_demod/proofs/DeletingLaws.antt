-- Deleting by units is deleting by the same units in the order of their numbers.
use Rattle.std.proofs.Common.{ℕ, List}
use Rattle.std.specs.List.{Contains}
use Rattle.std.proofs.lemmas.List.Sorted.{Contains-permutation, IsPermutation-sym}
use Rattle.sc_term.specs.declared.Clause.{Clause}
use Rattle.sc_term.specs.declared.Line.{Line}
use Rattle.sc_term.specs.declared.Numbered.{Numbered}
use Rattle.sc_term.specs.Numbering.{numbered}
use Rattle.sc_steps.proofs.ListLaws.{some_and}
use Rattle.sc_steps.proofs.LineLaws.{some_so}
use Rattle.sc_core_rules.specs.Order.{Exhausts, ends, goes}
use Rattle.sc_core_rules.specs.Simplification.{Removes, IsRemovable, DeletesOnce}
use Rattle.sc_resolve.specs.ByNumber.{AreByNumber}
use Rattle.sc_demod.specs.Standing.{ChecksWith, KeepsChecking}

-- ---- steps said in other words

exhausts_in_other_words : {X : Type 0} (R S : X → X → Type 0) → ((x y : X) → R x y → S x y) → ((x y : X) → S x y → R x y) → (x z : X) → Exhausts R x z → Exhausts S x z
exhausts_in_other_words R S to from x z (ends none) = ends (λ y s. none y (from x y s))
exhausts_in_other_words R S to from x z (goes {y = y} r rest) = goes (to x y r) (exhausts_in_other_words R S to from y z rest)

-- ---- units by membership alone

still_removable : (ps qs : List Numbered) → ((p : Numbered) → Contains ps p → Contains qs p) → (c : Clause) (a : ℕ) → IsRemovable ps c a → IsRemovable qs c a
still_removable ps qs more c a h =
    let there = some_and (numbered c.literals a) (λ l. (u : Numbered) × Contains ps u × Removes l u) h in
    some_so (numbered c.literals a) (λ l. (u : Numbered) × Contains qs u × Removes l u) there.0 there.1 (there.2.0, more there.2.0 there.2.1, there.2.2)

deletes_same : (ps qs : List Numbered) → ((p : Numbered) → Contains ps p → Contains qs p) → ((p : Numbered) → Contains qs p → Contains ps p) → (before after : List Line)
    → DeletesOnce ps before after → DeletesOnce qs before after
deletes_same ps qs to from before after h = record {
  clause = h.clause;
  clause_last = h.clause_last;
  a = h.a;
  literal = h.literal;
  literal_there = h.literal_there;
  first = λ b less r. h.first b less (still_removable qs ps from h.clause b r);
  removing = h.removing;
  least = record { listed = to h.removing h.least.listed; holds = h.least.holds; least = λ y c. h.least.least y (from y c) };
  mid = h.mid;
  k = h.k;
  shows = h.shows;
  resolves = h.resolves;
}

-- ---- units in the order of their numbers

module _ (units ordered : List Numbered) (h : AreByNumber units ordered) where
  to : (p : Numbered) → Contains units p → Contains ordered p
  to p c = Contains-permutation units ordered p h.same c

  from : (p : Numbered) → Contains ordered p → Contains units p
  from p c = Contains-permutation ordered units p (IsPermutation-sym units ordered h.same) c

  pub checks_by_number : (lines : List Line) → ChecksWith units lines → ChecksWith ordered lines
  checks_by_number lines c = (c.0, (λ p listed. c.1 p (from p listed)), c.2)

  pub deletes_by_number : (before after : List Line) → Exhausts (DeletesOnce ordered) before after → Exhausts (DeletesOnce units) before after
  deletes_by_number before after d = exhausts_in_other_words (DeletesOnce ordered) (DeletesOnce units) (deletes_same ordered units from to) (deletes_same units ordered to from) before after d

  pub keeps_by_number : (before after : List Line) → KeepsChecking ordered before after → KeepsChecking units before after
  keeps_by_number before after k clauses stand steps = k clauses (λ p listed. stand p (from p listed)) steps
