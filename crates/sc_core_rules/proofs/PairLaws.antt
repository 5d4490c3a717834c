-- Pairs of literals that unify, taken apart one by one.
use Rattle.std.proofs.Common.{◌≡◌, ◌∙◌, sym, ap, suc, List, [], ◌∷◌, ◌++◌, Bool, true, false, not, Some, arith}
use Rattle.sc_term.specs.declared.Literal.{Literal}
use Rattle.sc_term.specs.declared.Clause.{Clause}
use Rattle.sc_term.specs.declared.Pair.{Pair}
use Rattle.sc_term.specs.Refuted.{Atom, atom_of}
use Rattle.sc_term.specs.Substitution.{Substitution, IsUnifier, Unify, literal_under}
use Rattle.sc_core_rules.specs.Pairing.{Place, literal_at, ArePairs, HaveOppositeSigns}
use Rattle.sc_core_rules.proofs.Enumerations.{all_of_one, all_of_two}
use Rattle.sc_core_rules.proofs.StepLaws.{same_some}
use Rattle.sc_core_rules.proofs.FilterLaws.{in_first}
use Rattle.sc_core_rules.proofs.SoundLaws.{at, each}

-- ---- put together

pub unifier_of_one : (pair : Pair) (s : Substitution) → atom_of (literal_under s pair.left) ≡ atom_of (literal_under s pair.right) → IsUnifier (pair ∷ []) s
unifier_of_one pair s h = all_of_one (λ (q : Pair). atom_of (literal_under s q.left) ≡ atom_of (literal_under s q.right)) pair h

pub unifier_of_two : (pair next : Pair) (s : Substitution) → atom_of (literal_under s pair.left) ≡ atom_of (literal_under s pair.right)
    → atom_of (literal_under s next.left) ≡ atom_of (literal_under s next.right) → IsUnifier (pair ∷ next ∷ []) s
unifier_of_two pair next s h i = all_of_two (λ (q : Pair). atom_of (literal_under s q.left) ≡ atom_of (literal_under s q.right)) pair next h i

pub opposite_one : (pair : Pair) → pair.left.positive ≡ not pair.right.positive → HaveOppositeSigns (pair ∷ [])
opposite_one pair h = all_of_one (λ (q : Pair). q.left.positive ≡ not q.right.positive) pair h

pub opposite_two : (pair next : Pair) → pair.left.positive ≡ not pair.right.positive → next.left.positive ≡ not next.right.positive → HaveOppositeSigns (pair ∷ next ∷ [])
opposite_two pair next h i = all_of_two (λ (q : Pair). q.left.positive ≡ not q.right.positive) pair next h i

-- ---- taken apart

-- the one pair of two places
pub one_pair : (cs : List Clause) (m n : Place) (ps : List Pair) → ArePairs cs (m ∷ []) (n ∷ []) ps
    → (pair : Pair) × (ps ≡ pair ∷ []) × (literal_at cs m ≡ Some pair.left) × (literal_at cs n ≡ Some pair.right)
one_pair cs m n [] h = absurd h
one_pair cs m n (pair ∷ rest) h = (pair, (λ i. pair ∷ h.2 i), h.0, h.1)

-- the literals at two places can be made equal, but for their signs
pub record AreUnifying (cs : List Clause) (m n : Place) : Type 0 where
  pub left : Literal
  pub right : Literal
  pub left_there : literal_at cs m ≡ Some left
  pub right_there : literal_at cs n ≡ Some right
  pub unifier : Substitution
  pub equal : atom_of (literal_under unifier left) ≡ atom_of (literal_under unifier right)

-- so they have one predicate
pub one_predicate : (cs : List Clause) (m n : Place) (h : AreUnifying cs m n) → (h.left).pred.0 ≡ (h.right).pred.0
one_predicate cs m n h = ap (λ (a : Atom). a.pred.0) h.equal

pub first_unifying : (cs : List Clause) (m n : Place) (ms ns : List Place) (ps : List Pair) → ArePairs cs (m ∷ ms) (n ∷ ns) ps → Unify ps → AreUnifying cs m n
first_unifying cs m n ms ns [] h u = absurd h
first_unifying cs m n ms ns (p ∷ ps) h u = record { left = p.left; right = p.right; left_there = h.0; right_there = h.1; unifier = u.0; equal = u.1 0 p (omega arith) }

pub rest_unifying : (cs : List Clause) (m n : Place) (ms ns : List Place) (ps : List Pair) → ArePairs cs (m ∷ ms) (n ∷ ns) ps → Unify ps → (qs : List Pair) × ArePairs cs ms ns qs × Unify qs
rest_unifying cs m n ms ns [] h u = absurd h
rest_unifying cs m n ms ns (p ∷ ps) h u = (ps, h.2, (u.0, λ k d within. u.1 (suc k) d (omega arith)))

pub first_opposed : (cs : List Clause) (m n : Place) (ms ns : List Place) (ps : List Pair) (l r : Literal) → ArePairs cs (m ∷ ms) (n ∷ ns) ps → HaveOppositeSigns ps
    → literal_at cs m ≡ Some l → literal_at cs n ≡ Some r → l.positive ≡ not r.positive
first_opposed cs m n ms ns [] l r h signs a b = absurd h
first_opposed cs m n ms ns (p ∷ ps) l r h signs a b =
    let left : p.left ≡ l = same_some (literal_at cs m) p.left l h.0 a in
    let right : p.right ≡ r = same_some (literal_at cs n) p.right r h.1 b in
    ap (λ (x : Literal). x.positive) (sym left) ∙ signs 0 p (omega arith) ∙ ap (λ (x : Literal). not x.positive) right

pub rest_opposed : (cs : List Clause) (m n : Place) (ms ns : List Place) (p : Pair) (ps : List Pair) → HaveOppositeSigns (p ∷ ps) → HaveOppositeSigns ps
rest_opposed cs m n ms ns p ps signs = λ k d within. signs (suc k) d (omega arith)

-- the same sign isn't opposite
pub same_sign : (l r : Literal) (b : Bool) → l.positive ≡ not r.positive → l.positive ≡ b → r.positive ≡ b → ⊥
same_sign l r true h i j = let bad : true ≡ false = sym i ∙ h ∙ ap not j in cc
same_sign l r false h i j = let bad : false ≡ true = sym i ∙ h ∙ ap not j in cc

-- what unifies all pairs unifies the first of them: a front that doesn't unify has no extension that does
pub unify_front : (ps qs : List Pair) → Unify (ps ++ qs) → Unify ps
unify_front ps qs h = (h.0, each Q ps (λ p there. at Q (ps ++ qs) p h.1 (in_first p ps qs there)))
  where
    Q : Pair → Type 0
    Q pair = atom_of (literal_under h.0 pair.left) ≡ atom_of (literal_under h.0 pair.right)
