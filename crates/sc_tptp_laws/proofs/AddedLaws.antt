-- What is refuted with `x0=x0` is refuted without it.
use Rattle.std.proofs.Common.{◌≡◌, ◌∙◌, sym, ap, refl, ℕ, zero, suc, true, List, [], ◌∷◌, ◌++◌, ◌⊎◌, inl, inr, Some, None}
use Rattle.std.specs.Prelude.{slice_get}
use Rattle.std.specs.List.{AllByRecursion}
use Rattle.sc_term.specs.declared.Term.{Term}
use Rattle.sc_term.specs.declared.Term.TheVariants.{Var}
use Rattle.sc_term.specs.declared.Clause.{Clause}
use Rattle.sc_term.specs.declared.Literal.{Literal}
use Rattle.sc_term.specs.Term.{term_instance}
use Rattle.sc_term.specs.Clause.{instance}
use Rattle.sc_term.specs.Refuted.{equation, IsMember, IsInstanceOfOne, IsRefuted}
use Rattle.sc_tptp_laws.specs.Added.{reflexivity}

-- a clause of a list with one more at its end is of the list, or the one more
last_or_earlier : (inputs : List Clause) (c : Clause) (i : ℕ) (input : Clause) → slice_get (inputs ++ c ∷ []) i ≡ Some input → (slice_get inputs i ≡ Some input) ⊎ (c ≡ input)
last_or_earlier [] c zero input e = inr cc
last_or_earlier [] c (suc i) input e = absurd cc
last_or_earlier (x ∷ xs) c zero input e = inl e
last_or_earlier (x ∷ xs) c (suc i) input e = last_or_earlier xs c i input e

-- an instance of the added clause is an equality axiom
instance_is_axiom : (terms : List Term) → (instance terms reflexivity).literals ≡ equation true (term_instance terms (Var 0)) (term_instance terms (Var 0)) ∷ []
instance_is_axiom terms = refl

member_without : (inputs : List Clause) (c : Clause) → IsMember (inputs ++ reflexivity ∷ []) c → IsMember inputs c
member_without inputs c (inr axiom_) = inr axiom_
member_without inputs c (inl m) = by (last_or_earlier inputs reflexivity m.0 m.1 m.3)
  where
    by : (slice_get inputs m.0 ≡ Some m.1) ⊎ (reflexivity ≡ m.1) → IsMember inputs c
    by (inl e) = inl (m.0, m.1, m.2, e, m.4)
    by (inr e) =
        inr (inl (term_instance m.2 (Var 0), ap (λ (d : Clause). d.literals) (m.4 ∙ ap (instance m.2) (sym e)) ∙ instance_is_axiom m.2))

members_without : (inputs cs : List Clause) → AllByRecursion (IsMember (inputs ++ reflexivity ∷ [])) cs → AllByRecursion (IsMember inputs) cs
members_without inputs [] h = tt
members_without inputs (c ∷ cs) h = (member_without inputs c h.0, members_without inputs cs h.1)

pub refuted_without : (inputs : List Clause) → IsRefuted (inputs ++ reflexivity ∷ []) → IsRefuted inputs
refuted_without inputs r = record { members = r.members; allowed = members_without inputs r.members r.allowed; false_somewhere = r.false_somewhere }
