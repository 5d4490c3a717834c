-- Equality axioms, one of which is false in each valuation that doesn't respect an equation.
use Rattle.std.proofs.Common.{◌≡◌, ◌∙◌, sym, ap, refl, ℕ, suc, ◌-◌, Bool, true, false, not, ◌&&◌, ◌||◌, List, [], ◌∷◌, ◌++◌, take, drop, map, Some, inl, inr, ◌⊎◌}
use Rattle.std.specs.List.{list_any, AllByRecursion}
use Rattle.std.proofs.lemmas.Option.{slice_get_within}
use Rattle.sc_term.specs.declared.SymId.{SymId}
use Rattle.sc_term.specs.declared.Term.{Term}
use Rattle.sc_term.specs.declared.Term.TheVariants.{App}
use Rattle.sc_term.specs.declared.Literal.{Literal}
use Rattle.sc_term.specs.declared.Clause.{Clause}
use Rattle.sc_term.specs.declared.Side.{Side}
use Rattle.sc_term.specs.declared.Side.TheVariants.{Left, Right}
use Rattle.sc_term.specs.Term.{term_instance}
use Rattle.sc_term.specs.Clause.{literal_instance}
use Rattle.sc_term.specs.Numbering.{with_element}
use Rattle.sc_term.specs.Path.{IsReplaced}
use Rattle.sc_term.specs.Proof.{chosen, other}
use Rattle.sc_term.specs.Refuted.{Atom, is_true_in, is_false_literal, is_false_clause, equals, equation, IsEqualityAxiom}
use Rattle.sc_term.proofs.TermLaws.{instance-App}
use Rattle.sc_steps.proofs.ListLaws.{at_number, or_right, any_left, any_right, all_both}
use Rattle.sc_steps.proofs.ChangedElement.{parts, set_parts, map_set, map_numbered}

-- ---- truth values

pub either : (b : Bool) → (b ≡ true) ⊎ (b ≡ false)
either true = inl refl
either false = inr refl

pub not_true : (b : Bool) → not b ≡ true → b ≡ false
not_true true e = sym e
not_true false e = refl

pub not_false : (b : Bool) → not b ≡ false → b ≡ true
not_false true e = refl
not_false false e = sym e

or_left : (a b : Bool) → a ≡ true → (a || b) ≡ true
or_left a b e = ap (λ x. x || b) e

two_false : (a b : Bool) → a ≡ true → b ≡ false → (a && (not b && true)) ≡ true
two_false a b x y = ap (λ a. a && (not b && true)) x ∙ ap (λ b. not b && true) y

three_false : (a b c : Bool) → a ≡ true → b ≡ true → c ≡ false → (a && (b && (not c && true))) ≡ true
three_false a b c x y z = ap (λ a. a && (b && (not c && true))) x ∙ ap (λ b. b && (not c && true)) y ∙ ap (λ c. not c && true) z

-- ---- axioms

-- whether the equation is true
abbrev pub holds : List Atom → Term → Term → Bool
holds v s t = is_true_in v (record { pred = equals; args = s ∷ t ∷ [] })

-- whether the atom is true
abbrev pub says : List Atom → SymId → List Term → Bool
says v p args = is_true_in v (record { pred = p; args = args })

-- finitely many equality axioms, one of which is false in each such valuation
pub record Axioms (Such : List Atom → Type 0) : Type 0 where
  pub members : List Clause
  pub allowed : AllByRecursion IsEqualityAxiom members
  pub falls : (v : List Atom) → Such v → list_any (is_false_clause v) members ≡ true

abbrev reflexivity : Term → Clause
reflexivity t = record { literals = equation true t t ∷ [] }

abbrev of_function : SymId → Term → Term → List Term → List Term → Clause
of_function f s t before after = record { literals = equation false s t ∷ equation true (App f (before ++ s ∷ after)) (App f (before ++ t ∷ after)) ∷ [] }

abbrev of_predicate : SymId → Term → Term → List Term → List Term → Clause
of_predicate p s t before after = record {
  literals = equation false s t
      ∷ record { positive = false; pred = p; args = before ++ s ∷ after }
      ∷ record { positive = true; pred = p; args = before ++ t ∷ after } ∷ [];
}

of_predicate_falls : (v : List Atom) (p : SymId) (s t : Term) (before after : List Term) → holds v s t ≡ true → says v p (before ++ s ∷ after) ≡ true
    → says v p (before ++ t ∷ after) ≡ false → is_false_clause v (of_predicate p s t before after) ≡ true
of_predicate_falls v p s t before after st old new = three_false (holds v s t) (says v p (before ++ s ∷ after)) (says v p (before ++ t ∷ after)) st old new

-- ---- s = t holds, and t = s doesn't

pub symmetric : (s t : Term) → Axioms (λ v. (holds v s t ≡ true) × (holds v t s ≡ false))
symmetric s t = record {
  members = reflexivity s ∷ turned ∷ [];
  allowed = (inl (s, refl), (inr (inr (equals, s, t, [], s ∷ [], refl)), tt));
  falls = λ v h. elim (either (holds v s s)) [
    | inl same ↦ or_right (is_false_clause v (reflexivity s)) (is_false_clause v turned || false)
        (or_left (is_false_clause v turned) false (of_predicate_falls v equals s t [] (s ∷ []) h.0 same h.1))
    | inr apart ↦ or_left (is_false_clause v (reflexivity s)) (is_false_clause v turned || false) (ap (λ b. not b && true) apart)
  ];
}
  where
    turned : Clause
    turned = of_predicate equals s t [] (s ∷ [])

-- ---- one argument in place of another

-- the arguments differ at one place, in x and y, and x = y follows from s = t by the axioms
pub record Differ (s t : Term) (args new : List Term) : Type 0 where
  pub before : List Term
  pub after : List Term
  pub x : Term
  pub y : Term
  pub old_is : args ≡ before ++ x ∷ after
  pub new_is : new ≡ before ++ y ∷ after
  pub axioms : Axioms (λ v. (holds v s t ≡ true) × (holds v x y ≡ false))

-- s = t holds, and the equation of the two compounds doesn't
of_compounds : (f : SymId) (s t : Term) (args new : List Term) → Differ s t args new → Axioms (λ v. (holds v s t ≡ true) × (holds v (App f args) (App f new) ≡ false))
of_compounds f s t args new d = record {
  members = of_function f d.x d.y d.before d.after ∷ d.axioms.members;
  allowed = (inr (inl (f, d.x, d.y, d.before, d.after, refl)), d.axioms.allowed);
  falls = λ v h.
      let compounds : holds v (App f (d.before ++ d.x ∷ d.after)) (App f (d.before ++ d.y ∷ d.after)) ≡ false =
      sym (λ i. holds v (App f (d.old_is i)) (App f (d.new_is i))) ∙ h.1 in
      elim (either (holds v d.x d.y)) [
        | inl same ↦ or_left (is_false_clause v (of_function f d.x d.y d.before d.after)) (list_any (is_false_clause v) d.axioms.members)
            (two_false (holds v d.x d.y) (holds v (App f (d.before ++ d.x ∷ d.after)) (App f (d.before ++ d.y ∷ d.after))) same compounds)
        | inr apart ↦ or_right (is_false_clause v (of_function f d.x d.y d.before d.after)) (list_any (is_false_clause v) d.axioms.members) (d.axioms.falls v (h.0, apart))
      ];
}

-- a replaced subterm changes one argument so
pub differ : (args : List Term) (path : List ℕ) (s t : Term) (new : List Term) → IsReplaced args path s t new → Differ s t args new
differ args [] s t new h = absurd h
differ args (i ∷ []) s t new h =
    let at = at_number args i s h.0 in
    record {
      before = take (i - 1) args;
      after = drop (suc (i - 1)) args;
      x = s;
      y = t;
      old_is = parts args (i - 1) s at.1;
      new_is = h.1 ∙ set_parts args (i - 1) t (slice_get_within args (i - 1) s at.1);
      axioms = record { members = []; allowed = tt; falls = λ v h. sym h.1 ∙ h.0 };
    }
differ args (i ∷ j ∷ path) s t new h =
    let at = at_number args i (App h.0 h.1) h.3 in
    record {
      before = take (i - 1) args;
      after = drop (suc (i - 1)) args;
      x = App h.0 h.1;
      y = App h.0 h.2;
      old_is = parts args (i - 1) (App h.0 h.1) at.1;
      new_is = h.5 ∙ set_parts args (i - 1) (App h.0 h.2) (slice_get_within args (i - 1) (App h.0 h.1) at.1);
      axioms = of_compounds h.0 s t h.1 h.2 (differ h.1 (j ∷ path) s t h.2 h.4);
    }

-- ---- a literal in place of another

-- s = t holds and the new literal is false, but the old one isn't
abbrev pub Breaks : Term → Term → Literal → Literal → List Atom → Type 0
Breaks s t old new v = (holds v s t ≡ true) × (is_false_literal v new ≡ true) × (is_false_literal v old ≡ false)

of_literals : (positive : Bool) (p : SymId) (s t : Term) (args new : List Term) → Differ s t args new
    → Axioms (Breaks s t (record { positive = positive; pred = p; args = args }) (record { positive = positive; pred = p; args = new }))
of_literals true p s t args new d = record {
  members = of_predicate p d.x d.y d.before d.after ∷ d.axioms.members;
  allowed = (inr (inr (p, d.x, d.y, d.before, d.after, refl)), d.axioms.allowed);
  falls = λ v h.
      let first = is_false_clause v (of_predicate p d.x d.y d.before d.after) in
      let later = list_any (is_false_clause v) d.axioms.members in
      let old : says v p (d.before ++ d.x ∷ d.after) ≡ true = sym (ap (says v p) d.old_is) ∙ not_false (says v p args) h.2 in
      let changed : says v p (d.before ++ d.y ∷ d.after) ≡ false = sym (ap (says v p) d.new_is) ∙ not_true (says v p new) h.1 in
      elim (either (holds v d.x d.y)) [
        | inl same ↦ or_left first later (of_predicate_falls v p d.x d.y d.before d.after same old changed)
        | inr apart ↦ or_right first later (d.axioms.falls v (h.0, apart))
      ];
}
of_literals false p s t args new d =
    let turn = symmetric d.x d.y in
    record {
      members = of_predicate p d.y d.x d.before d.after ∷ (turn.members ++ d.axioms.members);
      allowed = (inr (inr (p, d.y, d.x, d.before, d.after, refl)), all_both _ turn.members d.axioms.members turn.allowed d.axioms.allowed);
      falls = λ v h.
          let first = is_false_clause v (of_predicate p d.y d.x d.before d.after) in
          let later = list_any (is_false_clause v) (turn.members ++ d.axioms.members) in
          let old : says v p (d.before ++ d.x ∷ d.after) ≡ false = sym (ap (says v p) d.old_is) ∙ h.2 in
          let changed : says v p (d.before ++ d.y ∷ d.after) ≡ true = sym (ap (says v p) d.new_is) ∙ h.1 in
          elim (either (holds v d.y d.x)) [
            | inl back ↦ or_left first later (of_predicate_falls v p d.y d.x d.before d.after back changed old)
            | inr unturned ↦ or_right first later (elim (either (holds v d.x d.y)) [
              | inl same ↦ any_left (is_false_clause v) turn.members d.axioms.members (turn.falls v (same, unturned))
              | inr apart ↦ any_right (is_false_clause v) turn.members d.axioms.members (d.axioms.falls v (h.0, apart))
            ])
          ];
    }

-- from an equation to one with its sides exchanged
turned_about : (s t : Term) (old new : Literal) → Axioms (Breaks t s old new) → Axioms (Breaks s t old new)
turned_about s t old new axioms =
    let turn = symmetric s t in
    record {
      members = turn.members ++ axioms.members;
      allowed = all_both _ turn.members axioms.members turn.allowed axioms.allowed;
      falls = λ v h. elim (either (holds v t s)) [
        | inl back ↦ any_right (is_false_clause v) turn.members axioms.members (axioms.falls v (back, h.1, h.2))
        | inr unturned ↦ any_left (is_false_clause v) turn.members axioms.members (turn.falls v (h.0, unturned))
      ];
    }

-- ---- under terms

-- the instance of what is replaced is replaced
replaced_under : (terms args : List Term) (path : List ℕ) (s t : Term) (new : List Term) → IsReplaced args path s t new
    → IsReplaced (map (term_instance terms) args) path (term_instance terms s) (term_instance terms t) (map (term_instance terms) new)
replaced_under terms args [] s t new h = absurd h
replaced_under terms args (i ∷ []) s t new h =
    (map_numbered (term_instance terms) args i s h.0, ap (map (term_instance terms)) h.1 ∙ map_set (term_instance terms) args (i - 1) t)
replaced_under terms args (i ∷ j ∷ path) s t new h =
    let f = term_instance terms in (
      h.0,
      map f h.1,
      map f h.2,
      map_numbered f args i (App h.0 h.1) h.3 ∙ ap Some (instance-App terms h.0 h.1),
      replaced_under terms h.1 (j ∷ path) s t h.2 h.4,
      ap (map f) h.5 ∙ map_set f args (i - 1) (App h.0 h.2) ∙ ap (with_element (map f args) i) (instance-App terms h.0 h.2),
    )

pub of_replaced : (terms : List Term) (side : Side) (s t : Term) (m : Literal) (path : List ℕ) (args : List Term) → IsReplaced m.args path (chosen side s t) (other side s t) args
    → Axioms (Breaks (term_instance terms s) (term_instance terms t) (literal_instance terms m) (literal_instance terms (record m { args = args })))
of_replaced terms Left s t m path args h =
    let f = term_instance terms in
    of_literals m.positive m.pred (f s) (f t) (map f m.args) (map f args) (differ (map f m.args) path (f s) (f t) (map f args) (replaced_under terms m.args path s t args h))
of_replaced terms Right s t m path args h =
    let f = term_instance terms in
    turned_about (f s) (f t) (literal_instance terms m) (literal_instance terms (record m { args = args }))
    (of_literals m.positive m.pred (f t) (f s) (map f m.args) (map f args) (differ (map f m.args) path (f t) (f s) (map f args) (replaced_under terms m.args path t s args h)))

-- an equation that isn't false, where the one with its sides exchanged is
pub of_exchanged : (positive : Bool) (s t : Term) → Axioms (λ v. (is_false_literal v (equation positive t s) ≡ true) × (is_false_literal v (equation positive s t) ≡ false))
of_exchanged true s t =
    let turn = symmetric s t in
    record { members = turn.members; allowed = turn.allowed; falls = λ v h. turn.falls v (not_false (holds v s t) h.1, not_true (holds v t s) h.0) }
of_exchanged false s t =
    let turn = symmetric t s in
    record { members = turn.members; allowed = turn.allowed; falls = λ v h. turn.falls v (h.0, h.1) }
