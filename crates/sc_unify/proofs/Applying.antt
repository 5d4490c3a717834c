-- What is kept of a substitution makes the same of a clause, within the limits or not.
use Rattle.std.proofs.Common.{◌≡◌, ◌∙◌, sym, ap, subst, ℕ, ◌+◌, ◌<◌, ◌≤◌, ◌⊎◌, inl, inr, List, map, sum, arith}
use Rattle.sc_term.specs.declared.Literal.{Literal}
use Rattle.sc_term.specs.declared.Clause.{Clause}
use Rattle.sc_term.specs.Term.{largest}
use Rattle.sc_term.specs.Clause.{literal_weight, literal_depth, IsWithinLimits}
use Rattle.sc_term.specs.Substitution.{Substitution, literal_under, clause_under}
use Rattle.sc_unify.specs.declared.bound.Binding.{Binding}
use Rattle.sc_unify.specs.Bindings.{finished, written, AreSolved}
use Rattle.sc_unify.specs.Unifiers.{substitution}
use Rattle.sc_unify.proofs.Unifiers.{written-map}

-- the bindings that were borrowed make the map that is seen
pub borrowed : (bs entries view : List Binding) → AreSolved entries → bs ≡ entries → view ≡ written entries → finished bs ≡ substitution view
borrowed bs entries view is e seen = ap finished e ∙ sym (written-map entries is) ∙ ap substitution (sym seen)

module _ (s t : Substitution) (c : Clause) (ls : List Literal) (same : s ≡ t) (all : ls ≡ c.literals) where
  abbrev made : List Literal
  made = map (literal_under s) ls

  is_made : made ≡ (clause_under t c).literals
  is_made i = map (literal_under (same i)) (all i)

  pub within : (left : ℕ) → (left + sum (map literal_weight made) ≡ 10000) × (largest (map literal_depth made) ≤ 256) → IsWithinLimits (clause_under t c)
  within left h = record {
    light = subst (λ l. sum (map literal_weight l) ≤ 10000) is_made (omega (arith, h.0));
    shallow = subst (λ l. largest (map literal_depth l) ≤ 256) is_made h.1;
  }

  pub beyond : (10000 < sum (map literal_weight made)) ⊎ (256 < largest (map literal_depth made)) → ¬ IsWithinLimits (clause_under t c)
  beyond (inl h) is = let light = is.light in absurd (omega (arith, subst (λ l. 10000 < sum (map literal_weight l)) is_made h, light))
  beyond (inr h) is = let shallow = is.shallow in absurd (omega (arith, subst (λ l. 256 < largest (map literal_depth l)) is_made h, shallow))
