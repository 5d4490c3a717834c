-- The steps on equality are sound: finitely many equality axioms stand behind them.
use Rattle.std.proofs.Common.{◌≡◌, ◌∙◌, sym, ap, ℕ, ◌-◌, List, [], ◌∷◌, ◌++◌, true, inl, inr}
use Rattle.std.specs.List.{list_all, AllByRecursion}
use Rattle.sc_term.specs.declared.Term.{Term}
use Rattle.sc_term.specs.declared.Literal.{Literal}
use Rattle.sc_term.specs.declared.Clause.{Clause}
use Rattle.sc_term.specs.declared.Side.{Side}
use Rattle.sc_term.specs.Term.{term_instance}
use Rattle.sc_term.specs.Numbering.{numbered, without, with_element}
use Rattle.sc_term.specs.Path.{IsReplaced}
use Rattle.sc_term.specs.Refuted.{is_false_clause, equals, equation, IsMember, IsEqualityAxiom}
use Rattle.sc_term.specs.Proof.{chosen, other, IsParamodulant, IsFlipped}
use Rattle.sc_steps.proofs.ListLaws.{some_and, at_number, all_append, restored, any_left, any_right, all_both}
use Rattle.sc_steps.proofs.ChangedElement.{all_changed}
use Rattle.sc_steps.proofs.Behind.{under_terms, IsSound, by_terms}
use Rattle.sc_steps.proofs.EqualityLaws.{either, not_false, holds, of_replaced, of_exchanged}

-- axioms are members
axioms_allowed : (inputs axioms : List Clause) → AllByRecursion IsEqualityAxiom axioms → AllByRecursion (IsMember inputs) axioms
axioms_allowed inputs [] h = tt
axioms_allowed inputs (c ∷ cs) h = (inr h.0, axioms_allowed inputs cs h.1)

pub paramodulant_sound : (inputs : List Clause) (from into c : Clause) (a b : ℕ) (side : Side) (path : List ℕ) → IsParamodulant from a side into b path c
    → IsSound inputs from → IsSound inputs into → IsSound inputs c
paramodulant_sound inputs from into c a b side path step sound_from sound_into terms =
    let l = equation true step.0 step.1 in
    let m = some_and (numbered into.literals b) (λ m. (args : List Term) × IsReplaced m.args path (chosen side step.0 step.1) (other side step.0 step.1) args
    × (c.literals ≡ with_element into.literals b (record m { args = args }) ++ without from.literals a)) step.3 in
    let old : Literal = m.0 in
    let changed : Literal = record old { args = m.2.0 } in
    let in_from = at_number from.literals a l step.2 in
    let in_into = at_number into.literals b old m.1 in
    let bf = sound_from terms in
    let bi = sound_into terms in
    let axioms = of_replaced terms side step.0 step.1 old path m.2.0 m.2.1 in
    record {
      members = bf.members ++ (bi.members ++ axioms.members);
      allowed = all_both _ bf.members (bi.members ++ axioms.members) bf.allowed
          (all_both _ bi.members axioms.members bi.allowed (axioms_allowed inputs axioms.members axioms.allowed));
      falls = λ v f.
          let p = under_terms v terms in
          let parts = all_append p (with_element into.literals b changed) (without from.literals a) (sym (ap (list_all p) m.2.2) ∙ sym (by_terms v terms c) ∙ f) in
          let back = all_changed p into.literals (b - 1) old changed in_into.1 parts.0 in
          elim (either (p l)) [
            | inl gone ↦ any_left (is_false_clause v) bf.members (bi.members ++ axioms.members)
                (bf.falls v (by_terms v terms from ∙ restored p from.literals (a - 1) l in_from.1 gone parts.1))
            | inr stands ↦ any_right (is_false_clause v) bf.members (bi.members ++ axioms.members) (elim (either (p old)) [
              | inl gone ↦ any_left (is_false_clause v) bi.members axioms.members
                  (bi.falls v (by_terms v terms into ∙ restored p into.literals (b - 1) old in_into.1 gone back.1))
              | inr still ↦ any_right (is_false_clause v) bi.members axioms.members
                  (axioms.falls v (not_false (holds v (term_instance terms step.0) (term_instance terms step.1)) stands, back.0, still))
            ])
          ];
    }

pub flipped_sound : (inputs : List Clause) (of c : Clause) (a : ℕ) → IsFlipped of a c → IsSound inputs of → IsSound inputs c
flipped_sound inputs of c a step sound terms =
    let l = some_and (numbered of.literals a) (λ l. (s : Term) × (t : Term) × (l.pred ≡ equals) × (l.args ≡ s ∷ t ∷ [])
    × (c.literals ≡ with_element of.literals a (record l { args = t ∷ s ∷ [] }))) step in
    let one : Literal = l.0 in
    let s : Term = l.2.0 in
    let t : Term = l.2.1 in
    let is : one ≡ equation one.positive s t = λ j. record { positive = one.positive; pred = l.2.2 j; args = l.2.3 j } in
    let turned : Literal = equation one.positive t s in
    let turned_is : c.literals ≡ with_element of.literals a turned =
    l.2.4 ∙ ap (λ p. with_element of.literals a (record { positive = one.positive; pred = p; args = t ∷ s ∷ [] })) l.2.2 in
    let at = at_number of.literals a one l.1 in
    let behind = sound terms in
    let axioms = of_exchanged one.positive (term_instance terms s) (term_instance terms t) in
    record {
      members = behind.members ++ axioms.members;
      allowed = all_both _ behind.members axioms.members behind.allowed (axioms_allowed inputs axioms.members axioms.allowed);
      falls = λ v f.
          let p = under_terms v terms in
          let back = all_changed p of.literals (a - 1) one turned at.1 (sym (ap (list_all p) turned_is) ∙ sym (by_terms v terms c) ∙ f) in
          elim (either (p one)) [
            | inl gone ↦ any_left (is_false_clause v) behind.members axioms.members
                (behind.falls v (by_terms v terms of ∙ restored p of.literals (a - 1) one at.1 gone back.1))
            | inr still ↦ any_right (is_false_clause v) behind.members axioms.members (axioms.falls v (back.0, sym (ap p is) ∙ still))
          ];
    }
