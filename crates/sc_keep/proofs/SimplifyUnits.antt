-- Deleting by the live clauses of one literal, in the order of their numbers, is deleting by all live clauses.
use Rattle.std.proofs.Common.{◌≡◌, ◌≢◌, ◌∙◌, sym, ap, subst, refl, ℕ, ◌+◌, ◌<◌, inl, inr, List, [], ◌∷◌, ◌++◌, length, take, get_or, append_assoc}
use Rattle.std.specs.Borrow.{Bor}
use Rattle.std.specs.List.{AllPairs, Contains}
use Rattle.std.specs.List.Sorted.{IsPermutation, IsNonDecreasingBy}
use Rattle.std.proofs.lemmas.List.{append-nil, take_more}
use Rattle.std.proofs.lemmas.List.Kept.{AllPairs-cons}
use Rattle.std.proofs.lemmas.List.Elements.{Contains-get_or}
use Rattle.std.proofs.lemmas.List.Sorted.{Contains-permutation, IsPermutation-sym}
use Rattle.sc_term.specs.declared.Literal.{Literal}
use Rattle.sc_term.specs.declared.Clause.{Clause}
use Rattle.sc_term.specs.declared.Line.{Line}
use Rattle.sc_term.specs.declared.Numbered.{Numbered}
use Rattle.sc_term.specs.Numbering.{numbered}
use Rattle.sc_steps.proofs.ListLaws.{some_and}
use Rattle.sc_steps.proofs.LineLaws.{some_so}
use Rattle.sc_core_rules.specs.Order.{IsFilter, none, taken, passed, Exhausts, ends, goes}
use Rattle.sc_core_rules.specs.Simplification.{Removes, IsRemovable, DeletesOnce}
use Rattle.sc_core_rules.proofs.FilterLaws.{filter_append, filter_within, filter_holds}
use Rattle.sc_core_rules.proofs.OrderLaws.{first_before, tail_pairs}
use Rattle.sc_resolve.specs.ByNumber.{seen}
use Rattle.sc_resolve.proofs.OrderLaws.{sorted_by_number}
use Rattle.sc_demod.specs.Standing.{ChecksWith}
use Rattle.sc_keep.specs.LiveUnits.{HasOneLiteral, IsNoted, AreUnitsInOrder}

-- ---- the units of a list

-- one more reference
pub seen_more : (before : List (Bor Numbered)) (b : Bor Numbered) → seen (before ++ b ∷ []) ≡ seen before ++ b.now ∷ []
seen_more [] b = refl
seen_more (x ∷ xs) b = ap (λ (ps : List Numbered). x.now ∷ ps) (seen_more xs b)

-- the clause at the place is noted, or not
pub one_noted : (tried ps : List Numbered) (i : ℕ) (p : Numbered) (now after : List Numbered) → i < length ps → p ≡ get_or ps i p → IsNoted p now after
    → IsFilter HasOneLiteral (tried ++ take i ps) now → IsFilter HasOneLiteral (tried ++ take (i + 1) ps) after
one_noted tried ps i p now after less here noted h = subst (λ xs. IsFilter HasOneLiteral xs after) more (by noted)
  where
    more : (tried ++ take i ps) ++ p ∷ [] ≡ tried ++ take (i + 1) ps
    more = append_assoc tried (take i ps) (p ∷ []) ∙ ap (λ xs. tried ++ xs) ((λ j. take i ps ++ here j ∷ []) ∙ sym (take_more ps i p less))

    by : IsNoted p now after → IsFilter HasOneLiteral ((tried ++ take i ps) ++ p ∷ []) after
    by (inl k) = subst (IsFilter HasOneLiteral ((tried ++ take i ps) ++ p ∷ [])) (sym k.1) (filter_append HasOneLiteral (tried ++ take i ps) (p ∷ []) now (p ∷ []) h (taken k.0 none))
    by (inr k) = subst (IsFilter HasOneLiteral ((tried ++ take i ps) ++ p ∷ [])) (append-nil now ∙ sym k.1)
        (filter_append HasOneLiteral (tried ++ take i ps) (p ∷ []) now [] h (passed k.0 none))

pairs_kept : (R : Numbered → Numbered → Type 0) (P : Numbered → Type 0) (xs ys : List Numbered) → AllPairs R xs → IsFilter P xs ys → AllPairs R ys
pairs_kept R P xs ys pairs none = pairs
pairs_kept R P xs ys pairs (taken {x} {xs = us} {ys = vs} p rest) =
    AllPairs-cons R x vs
    (λ k d h. first_before R x _ us pairs (filter_within P _ us vs rest (Contains-get_or vs k d h)).0)
    (pairs_kept R P us vs (tail_pairs R x us pairs) rest)
pairs_kept R P xs ys pairs (passed {x} {xs = us} p rest) = pairs_kept R P us ys (tail_pairs R x us pairs) rest

pub units_sorted : (clauses before after : List Numbered) → AllPairs (λ p q. p.number ≢ q.number) clauses → IsFilter HasOneLiteral clauses before
    → IsPermutation before after → IsNonDecreasingBy (λ p. p.number) after → AreUnitsInOrder clauses after
units_sorted clauses before after differ f moved up =
    let sorted = sorted_by_number before after (pairs_kept (λ p q. p.number ≢ q.number) HasOneLiteral clauses before differ f) moved up in
    record {
      rising = sorted.rising;
      only = λ u c. (filter_within HasOneLiteral u clauses before f (Contains-permutation after before u (IsPermutation-sym before after moved) c)).0;
      all = λ u c one. Contains-permutation before after u moved (filter_holds HasOneLiteral u clauses before f c one);
    }

-- ---- steps said in other words

exhausts_in_other_words : {X : Type 0} (R S : X → X → Type 0) → ((x y : X) → R x y → S x y) → ((x y : X) → S x y → R x y) → (x z : X) → Exhausts R x z → Exhausts S x z
exhausts_in_other_words R S to from x z (ends never) = ends (λ y s. never y (from x y s))
exhausts_in_other_words R S to from x z (goes {y = y} r rest) = goes (to x y r) (exhausts_in_other_words R S to from y z rest)

-- ---- what removes a literal has one

-- the one list has what removes literals of the other
abbrev HasRemovers : List Numbered → List Numbered → Type 0
HasRemovers ps qs = (l : Literal) (u : Numbered) → Contains ps u → Removes l u → Contains qs u

still_removable : (ps qs : List Numbered) → HasRemovers ps qs → (c : Clause) (a : ℕ) → IsRemovable ps c a → IsRemovable qs c a
still_removable ps qs more c a h =
    let there = some_and (numbered c.literals a) (λ l. (u : Numbered) × Contains ps u × Removes l u) h in
    some_so (numbered c.literals a) (λ l. (u : Numbered) × Contains qs u × Removes l u) there.0 there.1 (there.2.0, more there.0 there.2.0 there.2.1 there.2.2, there.2.2)

deletes_same : (ps qs : List Numbered) → HasRemovers ps qs → HasRemovers qs ps → (before after : List Line) → DeletesOnce ps before after → DeletesOnce qs before after
deletes_same ps qs to from before after h = record {
  clause = h.clause;
  clause_last = h.clause_last;
  a = h.a;
  literal = h.literal;
  literal_there = h.literal_there;
  first = λ b less r. h.first b less (still_removable qs ps from h.clause b r);
  removing = h.removing;
  least = record { listed = to h.literal h.removing h.least.listed h.least.holds; holds = h.least.holds; least = λ y c r. h.least.least y (from h.literal y c r) r };
  mid = h.mid;
  k = h.k;
  shows = h.shows;
  resolves = h.resolves;
}

one_literal : (l : Literal) (u : Numbered) → Removes l u → HasOneLiteral u
one_literal l u r = ap (λ (ls : List Literal). length ls) r.2

pub deletes_by_units : (clauses units : List Numbered) → AreUnitsInOrder clauses units → (before after : List Line) → Exhausts (DeletesOnce units) before after → Exhausts (DeletesOnce clauses) before after
deletes_by_units clauses units h before after d = exhausts_in_other_words (DeletesOnce units) (DeletesOnce clauses) (deletes_same units clauses to from) (deletes_same clauses units from to) before after d
  where
    to : HasRemovers units clauses
    to l u c r = h.only u c

    from : HasRemovers clauses units
    from l u c r = h.all u c (one_literal l u r)

pub checks_by_units : (clauses units : List Numbered) → AreUnitsInOrder clauses units → (lines : List Line) → ChecksWith clauses lines → ChecksWith units lines
checks_by_units clauses units h lines c = (c.0, (λ u listed. c.1 u (h.only u listed)), c.2)
