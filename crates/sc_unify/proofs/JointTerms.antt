-- The terms that are told are those of the joint instance, whose limits were measured.
use Rattle.std.proofs.Common.{◌≡◌, ◌∙◌, sym, ap, subst, refl, ℕ, ◌+◌, ◌<◌, ◌≤◌, ◌⊎◌, inl, inr, nat_eq, List, [], map, sum, arith}
use Rattle.std.specs.List.{position_or_len}
use Rattle.sc_term.specs.declared.Term.{Term}
use Rattle.sc_term.specs.declared.Clause.{Clause}
use Rattle.sc_term.specs.declared.Pair.{Pair}
use Rattle.sc_term.specs.Term.{joined, largest}
use Rattle.sc_term.specs.Clause.{literal_weight, literal_depth, variables, firsts, IsWithinLimits}
use Rattle.sc_term.specs.Substitution.{Substitution, clause_under, IsMostGeneralUnifier}
use Rattle.sc_term.specs.JointInstance.{apart, renumbering, renumbered, whole, IsJointInstance}
use Rattle.sc_term.proofs.RenamingLaws.{joint_instance_is_one}
use Rattle.sc_term.proofs.SubstitutionLaws.{clauses_laws}
use Rattle.sc_unify.specs.declared.bound.Binding.{Binding}
use Rattle.sc_unify.specs.Bindings.{finished}
use Rattle.sc_unify.specs.Joint.{value_at, values_above, AreTermsOf}
use Rattle.sc_unify.specs.Unifiers.{substitution}
use Rattle.sc_unify.proofs.JointLaws.{terms_of, limits_kept}

module _ (own parents parts : List Clause) (pairs : List Pair) (view bs : List Binding) (same : finished bs ≡ substitution view) (shifted : parents ≡ apart own)
    (unifier : IsMostGeneralUnifier pairs (substitution view)) (joint : IsJointInstance own pairs parts) where
  abbrev made : List Clause
  made = map (clause_under (finished bs)) parents

  abbrev first_order : List ℕ
  first_order = firsts (joined (map variables made))

  parts_are : parts ≡ renumbered made
  parts_are =
      joint_instance_is_one own pairs parts (renumbered (map (clause_under (substitution view)) (apart own))) joint (substitution view, unifier, refl)
      ∙ (λ i. renumbered (map (clause_under (sym same i)) (sym shifted i)))

  pub told_terms : (order : List ℕ) (told : List (List Term)) → order ≡ first_order → told ≡ values_above (value_at bs order) 0 parents → AreTermsOf own told parts
  told_terms order told orders is =
      let v = value_at bs order in
      let here : AreTermsOf own (values_above v 0 parents) (map (clause_under v) parents) =
      subst (λ ps. AreTermsOf own (values_above v 0 ps) (map (clause_under v) ps)) (sym shifted) (terms_of v 0 own) in
      let numbered : map (clause_under v) parents ≡ parts =
      sym ((clauses_laws parents).compose (renumbering order) (finished bs)) ∙ ap (λ o. map (clause_under (renumbering o)) made) orders ∙ sym parts_are in
      subst (λ t. AreTermsOf own t parts) (sym is) (subst (AreTermsOf own (values_above v 0 parents)) numbered here)

  abbrev place : ℕ → ℕ
  place n = position_or_len (nat_eq n) first_order

  pub within_parts : IsWithinLimits (whole made) → IsWithinLimits (whole parts)
  within_parts h = subst (λ ps. IsWithinLimits (whole ps)) (sym parts_are) ((limits_kept (renumbering first_order) place (λ n. refl) made).0 h)

  pub within_made : IsWithinLimits (whole parts) → IsWithinLimits (whole made)
  within_made h = (limits_kept (renumbering first_order) place (λ n. refl) made).1 (subst (λ ps. IsWithinLimits (whole ps)) parts_are h)

  pub told_within : (left : ℕ) → (left + sum (map literal_weight (whole made).literals) ≡ 10000) × (largest (map literal_depth (whole made).literals) ≤ 256) → IsWithinLimits (whole parts)
  told_within left h = within_parts (record { light = omega (arith, h.0); shallow = h.1 })

  pub told_beyond : (10000 < sum (map literal_weight (whole made).literals)) ⊎ (256 < largest (map literal_depth (whole made).literals)) → ¬ IsWithinLimits (whole parts)
  told_beyond (inl h) is = let light = (within_made is).light in absurd (omega (arith, h, light))
  told_beyond (inr h) is = let shallow = (within_made is).shallow in absurd (omega (arith, h, shallow))
