-- Two units that conflict, and two that don't.
use Rattle.std.proofs.Common.{◌≡◌, ◌≢◌, ◌∙◌, sym, ap, subst, refl, ℕ, zero, suc, ◌+◌, List, [], ◌∷◌, ◌++◌, length, map, get_or, Some, Option, inl, Bool, true, false, not, arith, length-append}
use Rattle.std.specs.Prelude.{IsSomeAnd}
use Rattle.sc_term.specs.declared.Term.{Term, Var}
use Rattle.sc_term.specs.declared.Literal.{Literal}
use Rattle.sc_term.specs.declared.Clause.{Clause}
use Rattle.sc_term.specs.declared.Line.{Line}
use Rattle.sc_term.specs.declared.Numbered.{Numbered}
use Rattle.sc_term.specs.declared.Pair.{Pair}
use Rattle.sc_term.specs.declared.Step.TheVariants.{Input, Resolve}
use Rattle.sc_term.specs.Clause.{IsCanonical, IsWithinLimits, instance, width}
use Rattle.sc_term.specs.Proof.{AreOpposite, IsResolvent, clause_of}
use Rattle.sc_term.specs.Refuted.{Atom, atom_of}
use Rattle.sc_term.specs.Term.{term_under}
use Rattle.sc_term.specs.Substitution.{Substitution, literal_under, clause_under}
use Rattle.sc_term.specs.JointInstance.{IsJointInstance, apart, renumbered, whole}
use Rattle.sc_steps.specs.declared.derivations.derivation.Derived.{Derived}
use Rattle.sc_steps.specs.Derivation.{last_clause, IsInputAt}
use Rattle.sc_term.specs.Numbering.{numbered}
use Rattle.sc_steps.proofs.ListLaws.{some_and}
use Rattle.sc_steps.proofs.LineLaws.{clause_of_end, number_within}
use Rattle.sc_unify.specs.Joint.{AreTermsOf}
use Rattle.sc_core_rules.specs.Derivation.{Adds, AddsParts}
use Rattle.sc_core_rules.specs.Inference.{Resolving}
use Rattle.sc_core_rules.specs.Pairing.{ArePairs, HaveOppositeSigns, places_in}
use Rattle.sc_core_rules.specs.Conflict.{Conflicts}
use Rattle.sc_core_rules.proofs.ProcessLaws.{pairs_one}
use Rattle.sc_keep.specs.Parts.{HasNoParts, HasParts, unit_pairs}
use Rattle.sc_keep.specs.Adding.{AddedPart}

-- ---- the terms of two clauses

pub record AreTwo (c d : Clause) (ts : List (List Term)) (parts : List Clause) : Type 0 where
  pub first : List Term
  pub second : List Term
  pub terms : ts ≡ first ∷ second ∷ []
  pub parts_are : parts ≡ instance first c ∷ instance second d ∷ []
  pub many_first : length first ≡ width c
  pub many_second : length second ≡ width d

pub two_terms : (c d : Clause) (ts : List (List Term)) (parts : List Clause) → AreTermsOf (c ∷ d ∷ []) ts parts → AreTwo c d ts parts
two_terms c d [] parts h = absurd h
two_terms c d (t ∷ ts) [] h = absurd h
two_terms c d (t ∷ []) (p ∷ parts) h = absurd h.2
two_terms c d (t ∷ u ∷ ts) (p ∷ []) h = absurd h.2
two_terms c d (t ∷ u ∷ []) (p ∷ q ∷ []) h = record { first = t; second = u; terms = refl; parts_are = λ i. sym h.1 i ∷ sym h.2.1 i ∷ []; many_first = h.0; many_second = h.2.0 }
two_terms c d (t ∷ u ∷ []) (p ∷ q ∷ s ∷ parts) h = absurd h.2.2
two_terms c d (t ∷ u ∷ v ∷ ts) (p ∷ q ∷ parts) h = absurd h.2.2

-- ---- the empty clause

empty_is : (c : Clause) → c.literals ≡ [] → c ≡ record { literals = [] }
empty_is c e = λ i. record { literals = e i }

empty_canonical : (c : Clause) → c.literals ≡ [] → IsCanonical c
empty_canonical c h = subst IsCanonical (sym (empty_is c h)) refl

some_here : {A : Type 0} (o : Option A) (P : A → Type 0) (x : A) → o ≡ Some x → P x → IsSomeAnd o P
some_here o P x e h = subst (λ o. IsSomeAnd o P) (sym e) h

-- ---- two units

module _ (i j : ℕ) (l r : Literal) where
  abbrev n : Numbered
  n = record { number = i; clause = record { literals = l ∷ [] } }

  abbrev m : Numbered
  m = record { number = j; clause = record { literals = r ∷ [] } }

  abbrev own : List Clause
  own = n.clause ∷ m.clause ∷ []

  abbrev pair : Pair
  pair = record { left = literal_under (λ k. Var (k + 0)) l; right = literal_under (λ k. Var (k + (0 + width n.clause))) r }

  abbrev pairs : List Pair
  pairs = pair ∷ []

  abbrev under : Substitution → Substitution → Literal → Clause
  under ren s x = record { literals = literal_under ren (literal_under s x) ∷ [] }

  opposite_parts : (ren s : Substitution) → l.positive ≡ not r.positive → atom_of (literal_under s pair.left) ≡ atom_of (literal_under s pair.right)
      → AreOpposite (literal_under ren (literal_under s pair.left)) (literal_under ren (literal_under s pair.right))
  opposite_parts ren s signs same = (signs, λ k. record { pred = (same k).pred; args = map (term_under ren) (same k).args })

  module _ (terms : List (List Term)) (h : HasParts own pairs terms) (two : AreTwo n.clause m.clause terms h.parts) (signs : HaveOppositeSigns pairs) where
    parts_opposite : (c : Clause) → c.literals ≡ [] → IsResolvent (instance two.first n.clause) 1 (instance two.second m.clause) 1 c
    parts_opposite c empty =
        let s = h.joint.0 in
        let made : h.parts ≡ renumbered (map (clause_under s) (apart own)) = h.joint.2 in
        let both : renumbered (map (clause_under s) (apart own)) ≡ instance two.first n.clause ∷ instance two.second m.clause ∷ [] = sym made ∙ two.parts_are in
        let left = ap (λ (cs : List Clause). get_or cs 0 c) both in
        let right = ap (λ (cs : List Clause). get_or cs 1 c) both in
        subst (λ (d : Clause). IsResolvent d 1 (instance two.second m.clause) 1 c) left
        (subst (λ (d : Clause). IsResolvent (get_or (renumbered (map (clause_under s) (apart own))) 0 c) 1 d 1 c) right
        (opposite_parts _ s (signs 0 pair (omega arith)) (h.joint.1.unifies 0 pair (omega arith)), empty))

    module _ (mid opening : List Line) (a b : ℕ) (begun : AddedPart [] n (instance two.first n.clause) mid a) (gone_on : AddedPart mid m (instance two.second m.clause) opening b)
        (made : Derived) (c : Clause) (empty : c.literals ≡ []) (ended : made.clause.literals ≡ []) (grown : made.lines ≡ opening ++ record { step = Resolve a 1 b 1; clause = c } ∷ []) where
      resolves : Adds opening (Resolve a 1 b 1) made.lines
      resolves = (
        c,
        some_here (clause_of opening a) (λ left. IsSomeAnd (clause_of opening b) (λ right. IsResolvent left 1 right 1 c)) (instance two.first n.clause) (gone_on.stays a (instance two.first n.clause) begun.there)
            (some_here (clause_of opening b) (λ right. IsResolvent (instance two.first n.clause) 1 right 1 c) (instance two.second m.clause) gone_on.there (parts_opposite c empty)),
        grown,
      )

      last : last_clause made.lines ≡ Some c
      last =
          let long : length made.lines ≡ length opening + 1 = ap (λ (ls : List Line). length ls) grown ∙ length-append opening (record { step = Resolve a 1 b 1; clause = c } ∷ []) in
          ap (clause_of made.lines) long ∙ ap (λ ls. clause_of ls (length opening + 1)) grown ∙ clause_of_end opening (record { step = Resolve a 1 b 1; clause = c })

      opens : AddsParts [] (n ∷ m ∷ []) h.parts opening (a ∷ b ∷ [])
      opens = subst (λ cs. AddsParts [] (n ∷ m ∷ []) cs opening (a ∷ b ∷ [])) (sym two.parts_are) (mid, begun.adds, (opening, gone_on.adds, (refl, refl)))

      within : IsWithinLimits made.clause
      within = subst IsWithinLimits (sym (empty_is made.clause ended)) (record { light = omega arith; shallow = omega arith })

      pub conflict_found : Conflicts n m made
      conflict_found = record {
        inference = record { parents = n ∷ m ∷ []; pairs = pairs; ending = Resolving (1 ∷ []) (1 ∷ []) };
        unit_n = refl;
        unit_m = refl;
        parents = refl;
        pairs = (refl, refl, refl);
        signs = signs;
        ending = refl;
        concludes = record {
          parts = h.parts;
          joint = h.joint;
          joint_within = h.within;
          opening = opening;
          part_lines = a ∷ b ∷ [];
          opens = opens;
          steps = made.lines;
          ends = (made.lines, resolves, refl);
          canonical_last = some_here (last_clause made.lines) _ c last (inl (empty_canonical c empty, refl));
          conclusion = last ∙ ap (λ (d : Clause). Some d) (empty_is c empty ∙ sym (empty_is made.clause ended));
          conclusion_within = within;
        };
      }

-- ---- two clauses of one literal

abbrev clause_with : List Literal → Clause
clause_with ls = record { literals = ls }

abbrev numbered_with : ℕ → List Literal → Numbered
numbered_with i ls = record { number = i; clause = clause_with ls }

abbrev Found : ℕ → ℕ → List Literal → List Literal → Type 0
Found i j ls rs = (terms : List (List Term)) (h : HasParts (clause_with ls ∷ clause_with rs ∷ []) (unit_pairs (clause_with ls) (clause_with rs)) terms)
    (two : AreTwo (clause_with ls) (clause_with rs) terms h.parts) → HaveOppositeSigns (unit_pairs (clause_with ls) (clause_with rs))
    → (mid opening : List Line) (a b : ℕ) → AddedPart [] (numbered_with i ls) (instance two.first (clause_with ls)) mid a → AddedPart mid (numbered_with j rs) (instance two.second (clause_with rs)) opening b
    → (made : Derived) (c : Clause) → c.literals ≡ [] → made.clause.literals ≡ [] → made.lines ≡ opening ++ record { step = Resolve a 1 b 1; clause = c } ∷ []
    → Conflicts (numbered_with i ls) (numbered_with j rs) made

found_units : (i j : ℕ) (ls rs : List Literal) → length ls ≡ 1 → length rs ≡ 1 → Found i j ls rs
found_units i j [] rs one other = absurd (omega (arith, one))
found_units i j (l ∷ k ∷ ls) rs one other = absurd (omega (arith, one))
found_units i j (l ∷ []) [] one other = absurd (omega (arith, other))
found_units i j (l ∷ []) (r ∷ k ∷ rs) one other = absurd (omega (arith, other))
found_units i j (l ∷ []) (r ∷ []) one other = λ terms h two signs mid opening a b begun gone_on made c empty ended grown.
    conflict_found i j l r terms h two signs mid opening a b begun gone_on made c empty ended grown

-- with the terms and the lines as the program has them
pub found_any : (n m : Numbered) → length n.clause.literals ≡ 1 → length m.clause.literals ≡ 1 → (terms : List (List Term)) (h : HasParts (n.clause ∷ m.clause ∷ []) (unit_pairs n.clause m.clause) terms)
    (two : AreTwo n.clause m.clause terms h.parts) → HaveOppositeSigns (unit_pairs n.clause m.clause)
    → (first second : List Term) → first ≡ two.first → second ≡ two.second → (lines mid opening : List Line) (a b : ℕ) → lines ≡ [] → AddedPart lines n (instance first n.clause) mid a → AddedPart mid m (instance second m.clause) opening b
    → (made : Derived) (c : Clause) → c.literals ≡ [] → made.clause.literals ≡ [] → made.lines ≡ opening ++ record { step = Resolve a 1 b 1; clause = c } ∷ [] → Conflicts n m made
found_any n m one other terms h two signs first second is_first is_second lines mid opening a b none begun gone_on made c empty ended grown =
    found_units n.number m.number n.clause.literals m.clause.literals one other terms h two signs mid opening a b
    (subst (λ ts. AddedPart [] n (instance ts n.clause) mid a) is_first (subst (λ ls. AddedPart ls n (instance first n.clause) mid a) none begun))
    (subst (λ ts. AddedPart mid m (instance ts m.clause) opening b) is_second gone_on) made c empty ended grown

-- ---- what the parts need

abbrev Within : List Literal → List Literal → Type 0
Within ls rs = (t u : List Term) → IsWithinLimits (whole (instance t (clause_with ls) ∷ instance u (clause_with rs) ∷ [])) → IsWithinLimits (instance t (clause_with ls)) × IsWithinLimits (instance u (clause_with rs))

within_units : (ls rs : List Literal) → length ls ≡ 1 → length rs ≡ 1 → Within ls rs
within_units [] rs one other = absurd (omega (arith, one))
within_units (l ∷ k ∷ ls) rs one other = absurd (omega (arith, one))
within_units (l ∷ []) [] one other = absurd (omega (arith, other))
within_units (l ∷ []) (r ∷ k ∷ rs) one other = absurd (omega (arith, other))
within_units (l ∷ []) (r ∷ []) one other = λ t u h. (record { light = omega (arith, h.light); shallow = omega (arith, h.shallow) }, record { light = omega (arith, h.light); shallow = omega (arith, h.shallow) })

module _ (n m : Clause) (one : length n.literals ≡ 1) (other : length m.literals ≡ 1) (pairs : List Pair) (terms : List (List Term)) (h : HasParts (n ∷ m ∷ []) pairs terms) where
  pub the_two : AreTwo n m terms h.parts
  the_two = two_terms n m terms h.parts h.are_terms

  both_within : IsWithinLimits (instance the_two.first n) × IsWithinLimits (instance the_two.second m)
  both_within = within_units n.literals m.literals one other the_two.first the_two.second (subst (λ cs. IsWithinLimits (whole cs)) the_two.parts_are h.within)

  pub two_long : length terms ≡ 2
  two_long = ap (λ (ts : List (List Term)). length ts) the_two.terms

  pub first_is : (d : List Term) → get_or terms 0 d ≡ the_two.first
  first_is d = ap (λ (ts : List (List Term)). get_or ts 0 d) the_two.terms

  pub second_is : (d : List Term) → get_or terms 1 d ≡ the_two.second
  second_is d = ap (λ (ts : List (List Term)). get_or ts 1 d) the_two.terms

  pub first_fits : (ts : List Term) → ts ≡ the_two.first → (length ts ≡ width n) × IsWithinLimits (instance ts n)
  first_fits ts e = subst (λ ts. (length ts ≡ width n) × IsWithinLimits (instance ts n)) (sym e) (the_two.many_first, both_within.0)

  pub second_fits : (ts : List Term) → ts ≡ the_two.second → (length ts ≡ width m) × IsWithinLimits (instance ts m)
  second_fits ts e = subst (λ ts. (length ts ≡ width m) × IsWithinLimits (instance ts m)) (sym e) (the_two.many_second, both_within.1)

pub no_inputs : (lines : List Line) (q : ℕ) → lines ≡ [] → (j : ℕ) → ¬ IsInputAt lines q j
no_inputs lines q none j h =
    let found = some_and (numbered [] j) (λ (l : Line). l.step ≡ Input q) (subst (λ ls. IsInputAt ls q j) none h) in
    let within = number_within [] j found.0 found.1 in
    omega (arith, within.0, within.1)

-- ---- no conflict

module _ (i j : ℕ) (l r : Literal) (made : Derived) (h : Conflicts (n i j l r) (m i j l r) made) where
  pairs_are : h.inference.pairs ≡ pairs i j l r
  pairs_are = pairs_one (apart (own i j l r)) (places_in 1 (1 ∷ [])) (places_in 2 (1 ∷ [])) h.inference.pairs (pairs i j l r)
      (subst (λ (qs : List Numbered). ArePairs (apart (map (λ (q : Numbered). q.clause) qs)) (places_in 1 (1 ∷ [])) (places_in 2 (1 ∷ [])) h.inference.pairs) h.parents h.pairs) (refl, refl, refl)

  joint_is : IsJointInstance (own i j l r) (pairs i j l r) h.concludes.parts
  joint_is = subst (λ ps. IsJointInstance (own i j l r) ps h.concludes.parts) pairs_are
      (subst (λ (qs : List Numbered). IsJointInstance (map (λ (q : Numbered). q.clause) qs) h.inference.pairs h.concludes.parts) h.parents h.concludes.joint)

  same_preds : l.pred ≡ r.pred
  same_preds = ap (λ (a : Atom). a.pred) (joint_is.1.unifies 0 (pair i j l r) (omega arith))

  opposite : l.positive ≡ not r.positive
  opposite = (subst HaveOppositeSigns pairs_are h.signs) 0 (pair i j l r) (omega arith)

never_itself : (b : Bool) → ¬ (b ≡ not b)
never_itself true e = cc
never_itself false e = cc

not_same : (a b : Bool) → a ≡ not b → a ≢ b
not_same a b e f = never_itself b (sym f ∙ e)

is_not : (a b : Bool) → a ≢ b → a ≡ not b
is_not true true h = absurd (h refl)
is_not true false h = refl
is_not false true h = refl
is_not false false h = absurd (h refl)

abbrev None : ℕ → ℕ → List Literal → List Literal → Type 0
None i j ls rs = HasNoParts (clause_with ls ∷ clause_with rs ∷ []) (unit_pairs (clause_with ls) (clause_with rs)) → (made : Derived) → ¬ Conflicts (numbered_with i ls) (numbered_with j rs) made

none_units : (i j : ℕ) (ls rs : List Literal) → length ls ≡ 1 → length rs ≡ 1 → None i j ls rs
none_units i j [] rs one other = absurd (omega (arith, one))
none_units i j (l ∷ k ∷ ls) rs one other = absurd (omega (arith, one))
none_units i j (l ∷ []) [] one other = absurd (omega (arith, other))
none_units i j (l ∷ []) (r ∷ k ∷ rs) one other = absurd (omega (arith, other))
none_units i j (l ∷ []) (r ∷ []) one other = λ never made h. never h.concludes.parts (joint_is i j l r made h) h.concludes.joint_within

pub none_any : (n m : Numbered) → length n.clause.literals ≡ 1 → length m.clause.literals ≡ 1 → HasNoParts (n.clause ∷ m.clause ∷ []) (unit_pairs n.clause m.clause) → (made : Derived) → ¬ Conflicts n m made
none_any n m one other = none_units n.number m.number n.clause.literals m.clause.literals one other

abbrev Match : ℕ → ℕ → Literal → Literal → List Literal → List Literal → Type 0
Match i j l r ls rs = ¬ ((l.positive ≢ r.positive) × (l.pred ≡ r.pred)) → (made : Derived) → ¬ Conflicts (numbered_with i ls) (numbered_with j rs) made

pub no_match : (n m : Numbered) (l r : Literal) → n.clause.literals ≡ l ∷ [] → m.clause.literals ≡ r ∷ [] → ¬ ((l.positive ≢ r.positive) × (l.pred ≡ r.pred)) → (made : Derived) → ¬ Conflicts n m made
no_match n m l r e f = subst (λ ls. Match n.number m.number l r ls m.clause.literals) (sym e) (subst (λ rs. Match n.number m.number l r (l ∷ []) rs) (sym f)
    (λ never made h. never (not_same l.positive r.positive (opposite n.number m.number l r made h), same_preds n.number m.number l r made h)))

pub signs_differ : (n m : Clause) (l r : Literal) → n.literals ≡ l ∷ [] → m.literals ≡ r ∷ [] → l.positive ≢ r.positive → HaveOppositeSigns (unit_pairs n m)
signs_differ n m l r e f differ = subst (λ ls. HaveOppositeSigns (unit_pairs (clause_with ls) m)) (sym e) (subst (λ rs. HaveOppositeSigns (unit_pairs (clause_with (l ∷ [])) (clause_with rs))) (sym f) all)
  where
    all : HaveOppositeSigns (unit_pairs (clause_with (l ∷ [])) (clause_with (r ∷ [])))
    all zero d h = is_not l.positive r.positive differ
    all (suc k) d h = absurd (omega arith)
