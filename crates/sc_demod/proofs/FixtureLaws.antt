-- One `input` line checks over the clause that it names.
use Rattle.std.proofs.Common.{◌≡◌, ◌∙◌, sym, ap, subst, refl, ◌⊎◌, inl, inr, List, [], ◌∷◌, ◌++◌, Some, arith}
use Rattle.std.specs.List.{Contains}
use Rattle.sc_term.specs.declared.Clause.{Clause}
use Rattle.sc_term.specs.declared.Line.{Line}
use Rattle.sc_term.specs.declared.Numbered.{Numbered}
use Rattle.sc_term.specs.declared.Step.TheVariants.{Input}
use Rattle.sc_term.specs.Numbering.{numbered}
use Rattle.sc_term.specs.Proof.{AreSteps}
use Rattle.sc_steps.proofs.LineLaws.{steps_push}
use Rattle.sc_core_rules.proofs.Enumerations.{in_one, in_two}
use Rattle.sc_demod.specs.Standing.{AllStand, ChecksWith}

pub checks_two : (start ps : List Numbered) (d : Numbered) (c : Clause) (lines : List Line) → start ≡ [] → ps ≡ start ++ d ∷ [] → d.number ≡ 1 → lines ≡ record { step = Input 2; clause = c } ∷ [] → ChecksWith ps lines
checks_two start ps d c lines none are first is = (clauses, stand, subst (AreSteps clauses) (sym is) (steps_push clauses [] (record { step = Input 2; clause = c }) nothing refl))
  where
    clauses : List Clause
    clauses = d.clause ∷ c ∷ []

    nothing : AreSteps clauses []
    nothing k less = absurd (omega (arith, less))

    only : ps ≡ d ∷ []
    only = are ∙ ap (λ (qs : List Numbered). qs ++ d ∷ []) none

    stand : AllStand clauses ps
    stand p listed =
        subst (λ (q : Numbered). numbered clauses q.number ≡ Some q.clause) (in_one d p (subst (λ (qs : List Numbered). Contains qs p) only listed)) (ap (numbered clauses) first)

-- the same of clause 2 and two units, the third clause before the first
pub checks_three : (start mid ps : List Numbered) (e d : Numbered) (c : Clause) (lines : List Line) → start ≡ [] → mid ≡ start ++ e ∷ [] → ps ≡ mid ++ d ∷ [] → e.number ≡ 3 → d.number ≡ 1
    → lines ≡ record { step = Input 2; clause = c } ∷ [] → ChecksWith ps lines
checks_three start mid ps e d c lines none one two third first is = (clauses, stand, subst (AreSteps clauses) (sym is) (steps_push clauses [] (record { step = Input 2; clause = c }) nothing refl))
  where
    clauses : List Clause
    clauses = d.clause ∷ c ∷ e.clause ∷ []

    nothing : AreSteps clauses []
    nothing k less = absurd (omega (arith, less))

    only : ps ≡ e ∷ d ∷ []
    only = two ∙ ap (λ (qs : List Numbered). qs ++ d ∷ []) (one ∙ ap (λ (qs : List Numbered). qs ++ e ∷ []) none)

    by : (p : Numbered) → (e ≡ p) ⊎ (d ≡ p) → numbered clauses p.number ≡ Some p.clause
    by p (inl same) = subst (λ (q : Numbered). numbered clauses q.number ≡ Some q.clause) same (ap (numbered clauses) third)
    by p (inr same) = subst (λ (q : Numbered). numbered clauses q.number ≡ Some q.clause) same (ap (numbered clauses) first)

    stand : AllStand clauses ps
    stand p listed = by p (in_two e d p (subst (λ (qs : List Numbered). Contains qs p) only listed))
