-- What units that are resolved have in common.
use Rattle.std.proofs.Common.{◌≡◌, ◌∙◌, sym, ap, subst, ℕ, ◌+◌, List, [], ◌∷◌, not, map, Some, arith}
use Rattle.sc_term.specs.declared.Literal.{Literal}
use Rattle.sc_term.specs.declared.Clause.{Clause}
use Rattle.sc_term.specs.declared.Numbered.{Numbered}
use Rattle.sc_term.specs.declared.Pair.{Pair}
use Rattle.sc_term.specs.Refuted.{Atom}
use Rattle.sc_term.specs.declared.Term.{Var}
use Rattle.sc_term.specs.Clause.{width}
use Rattle.sc_term.specs.Substitution.{Substitution, Unify, literal_under}
use Rattle.sc_term.specs.JointInstance.{apart}
use Rattle.sc_steps.specs.declared.derivations.derivation.Derived.{Derived}
use Rattle.sc_core_rules.specs.Pairing.{literal_at, ArePairs, places_in, HaveOppositeSigns}
use Rattle.sc_core_rules.specs.Conflict.{Conflicts}
use Rattle.sc_core_rules.proofs.Enumerations.{numbered_one}
use Rattle.sc_core_rules.proofs.PairLaws.{one_pair}
use Rattle.sc_core_rules.proofs.SiteLaws.{AreOpposed, pair_of}

-- units that conflict have opposite signs and unify
pub conflict_opposed : (n m : Numbered) (made : Derived) → Conflicts n m made → AreOpposed n m 1 1
conflict_opposed n m made h = record {
  left = (pair.0).left;
  right = (pair.0).right;
  left_there = pair.2;
  right_there = pair.3;
  signs = subst HaveOppositeSigns pair.1 h.signs 0 pair.0 (omega arith);
  unify = subst Unify pair.1 (h.concludes.joint.0, h.concludes.joint.1.unifies);
}
  where
    clauses : List Clause
    clauses = apart (n.clause ∷ m.clause ∷ [])

    pair : (p : Pair) × (h.inference.pairs ≡ p ∷ []) × (literal_at clauses (record { parent = 1; lit = 1 }) ≡ Some p.left) × (literal_at clauses (record { parent = 2; lit = 1 }) ≡ Some p.right)
    pair = one_pair clauses (record { parent = 1; lit = 1 }) (record { parent = 2; lit = 1 }) h.inference.pairs
        (subst (λ (ps : List Numbered). ArePairs (apart (map (λ (q : Numbered). q.clause) ps)) (places_in 1 (1 ∷ [])) (places_in 2 (1 ∷ [])) h.inference.pairs) h.parents h.pairs)

-- two units that are opposed have opposite signs and one predicate
pub units_opposed : (i j : ℕ) (l m : Literal) (a b : ℕ) → AreOpposed (record { number = i; clause = record { literals = l ∷ [] } }) (record { number = j; clause = record { literals = m ∷ [] } }) a b
    → (l.positive ≡ not m.positive) × (l.pred.0 ≡ m.pred.0)
units_opposed i j l m a b h = (signs, predicates)
  where
    left_sign : l.positive ≡ (h.left).positive
    left_sign = ap (λ (x : Literal). x.positive) (numbered_one (literal_under (λ n. Var (n + 0)) l) a h.left h.left_there).1

    left_pred : l.pred.0 ≡ (h.left).pred.0
    left_pred = ap (λ (x : Literal). x.pred.0) (numbered_one (literal_under (λ n. Var (n + 0)) l) a h.left h.left_there).1

    shifted : Substitution
    shifted n = Var (n + (0 + width (record { literals = l ∷ [] })))

    right_sign : m.positive ≡ (h.right).positive
    right_sign = ap (λ (x : Literal). x.positive) (numbered_one (literal_under shifted m) b h.right h.right_there).1

    right_pred : m.pred.0 ≡ (h.right).pred.0
    right_pred = ap (λ (x : Literal). x.pred.0) (numbered_one (literal_under shifted m) b h.right h.right_there).1

    signs : l.positive ≡ not m.positive
    signs = left_sign ∙ h.signs ∙ ap not (sym right_sign)

    predicates : l.pred.0 ≡ m.pred.0
    predicates = left_pred ∙ ap (λ (x : Atom). x.pred.0) (h.unify.1 0 (pair_of l m) (omega arith)) ∙ sym right_pred
