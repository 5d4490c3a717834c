-- Two units that conflict give the empty clause.
use Rattle.std.proofs.Common.{◌≡◌, ◌∙◌, sym, ap, subst, refl, ℕ, ◌+◌, ◌-◌, inl, inr, List, [], ◌∷◌, ◌++◌, length, map, take, Some, arith, length-append}
use Rattle.std.specs.Prelude.{IsSomeAnd}
use Rattle.std.proofs.lemmas.List.{length-map}
use Rattle.sc_term.specs.declared.Term.{Term}
use Rattle.sc_term.specs.declared.Literal.{Literal}
use Rattle.sc_term.specs.declared.Clause.{Clause}
use Rattle.sc_term.specs.declared.Line.{Line}
use Rattle.sc_term.specs.declared.Numbered.{Numbered}
use Rattle.sc_term.specs.declared.Step.{Step}
use Rattle.sc_term.specs.declared.Step.TheVariants.{Input, Instance, Resolve}
use Rattle.sc_term.specs.Numbering.{numbered, without}
use Rattle.sc_term.specs.Clause.{IsCanonical, instance}
use Rattle.sc_term.specs.Proof.{Follows, IsStep, IsStepAt, AreSteps, IsResolvent, clause_of}
use Rattle.sc_term.specs.JointInstance.{canonical, apart, renumbered}
use Rattle.sc_term.specs.Substitution.{Substitution, clause_under}
use Rattle.sc_steps.specs.declared.derivations.derivation.Derived.{Derived}
use Rattle.sc_steps.specs.Derivation.{IsInputAt, last_clause}
use Rattle.sc_steps.proofs.ListLaws.{some_and}
use Rattle.sc_steps.proofs.LineLaws.{number_within, map_some, clause_in_whole, clause_of_end}
use Rattle.sc_core_rules.specs.Order.{Where}
use Rattle.sc_core_rules.specs.Derivation.{Adds, AddsInput, AddsPart, AddsParts, AreTermsTo, EndsCanonical}
use Rattle.sc_core_rules.specs.Inference.{Ending, Resolving, Ends}
use Rattle.sc_core_rules.specs.Conflict.{Conflicts}
use Rattle.sc_core_rules.proofs.StepLaws.{same_some}
use Rattle.sc_core_rules.proofs.CheckLaws.{Stands, part_checks}

-- the clause of the line added last
added_last : (before : List Line) (l : Line) (after : List Line) → after ≡ before ++ l ∷ [] → clause_of after (length after) ≡ Some l.clause
added_last before l after e =
    let long : length after ≡ length before + 1 = ap (λ (ls : List Line). length ls) e ∙ length-append before (l ∷ []) in
    ap (λ (ls : List Line). clause_of ls (length after)) e ∙ ap (clause_of (before ++ l ∷ [])) long ∙ clause_of_end before l

-- lines that are added don't change what stands before
module _ (k : ℕ) (c : Clause) where
  grows : (before : List Line) (l : Line) (after : List Line) → after ≡ before ++ l ∷ [] → clause_of before k ≡ Some c → clause_of after k ≡ Some c
  grows before l after e h = ap (λ (ls : List Line). clause_of ls k) e ∙ clause_in_whole before (l ∷ []) k c h

  input_grows : (before : List Line) (p : Numbered) (after : List Line) (j : ℕ) → AddsInput before p after j → clause_of before k ≡ Some c → clause_of after k ≡ Some c
  input_grows before p after j (inl h) there = ap (λ (ls : List Line). clause_of ls k) h.1 ∙ there
  input_grows before p after j (inr h) there = grows before (record { step = Input p.number; clause = p.clause }) after h.1 there

  part_grows : (before : List Line) (p : Numbered) (part : Clause) (after : List Line) (j : ℕ) → AddsPart before p part after j → clause_of before k ≡ Some c → clause_of after k ≡ Some c
  part_grows before p part after j h there = by h.3
    where
      mid : clause_of h.0 k ≡ Some c
      mid = input_grows before p h.0 h.1 h.2 there

      by : Where (part ≡ p.clause) ((after ≡ h.0) × (j ≡ h.1)) ((terms : List Term) × AreTermsTo p.clause part terms × Adds h.0 (Instance h.1 terms) after × (j ≡ length after)) → clause_of after k ≡ Some c
      by (inl a) = ap (λ (ls : List Line). clause_of ls k) a.1.0 ∙ mid
      by (inr a) = grows h.0 (record { step = Instance h.1 a.1.0; clause = a.1.2.0 }) after a.1.2.2 mid

-- ---- the line of a part has the part

module _ (clauses : List Clause) where
  -- an `input` line has the clause of its number
  input_has : (lines : List Line) (n k : ℕ) (c : Clause) → AreSteps clauses lines → IsInputAt lines n k → numbered clauses n ≡ Some c → clause_of lines k ≡ Some c
  input_has lines n k c steps is stands =
      let line = some_and (numbered lines k) (λ one. one.step ≡ Input n) is in
      let within = number_within lines k line.0 line.1 in
      let here : k - 1 + 1 ≡ k = omega (arith, within.0) in
      let at : IsStepAt clauses lines k = subst (IsStepAt clauses lines) here (steps (k - 1) (omega (arith, within.0, within.1))) in
      let step = some_and (numbered lines k) (λ one. IsStep clauses (take (k - 1) lines) one) at in
      let same : step.0 ≡ line.0 = same_some (numbered lines k) step.0 line.0 step.1 line.1 in
      let follows : Follows clauses (take (k - 1) lines) (line.0).clause (Input n) =
      subst (λ (s : Step). Follows clauses (take (k - 1) lines) (line.0).clause s) line.2 (subst (λ one. IsStep clauses (take (k - 1) lines) one) same step.2) in
      let clause : (line.0).clause ≡ c = same_some (numbered clauses n) (line.0).clause c follows stands in
      map_some (λ (l : Line). l.clause) (numbered lines k) line.0 line.1 ∙ ap (λ (d : Clause). Some d) clause

  adds_has : (before : List Line) (p : Numbered) (after : List Line) (k : ℕ) → Stands clauses p → AreSteps clauses before → AddsInput before p after k → clause_of after k ≡ Some p.clause
  adds_has before p after k stands steps (inl h) = ap (λ (ls : List Line). clause_of ls k) h.1 ∙ input_has before p.number k p.clause steps h.0.0 stands
  adds_has before p after k stands steps (inr h) = ap (clause_of after) h.2 ∙ added_last before (record { step = Input p.number; clause = p.clause }) after h.1

  pub part_has : (before : List Line) (p : Numbered) (part : Clause) (after : List Line) (k : ℕ) → Stands clauses p → AreSteps clauses before → AddsPart before p part after k → clause_of after k ≡ Some part
  part_has before p part after k stands steps h = by h.3
    where
      mid : clause_of h.0 h.1 ≡ Some p.clause
      mid = adds_has before p h.0 h.1 stands steps h.2

      by : Where (part ≡ p.clause) ((after ≡ h.0) × (k ≡ h.1)) ((terms : List Term) × AreTermsTo p.clause part terms × Adds h.0 (Instance h.1 terms) after × (k ≡ length after)) → clause_of after k ≡ Some part
      by (inl a) = (λ i. clause_of (a.1.0 i) (a.1.1 i)) ∙ mid ∙ ap (λ (d : Clause). Some d) (sym a.0)
      by (inr a) =
          let of = some_and (clause_of h.0 h.1) (λ of. (length a.1.0 ≡ _) × (a.1.2.0 ≡ instance a.1.0 of)) a.1.2.1 in
          let whole : of.0 ≡ p.clause = same_some (clause_of h.0 h.1) of.0 p.clause of.1 mid in
          let clause : a.1.2.0 ≡ part = of.2.1 ∙ ap (instance a.1.0) whole ∙ a.1.1.gives in
          ap (clause_of after) a.1.3 ∙ added_last h.0 (record { step = Instance h.1 a.1.0; clause = a.1.2.0 }) after a.1.2.2 ∙ ap (λ (d : Clause). Some d) clause

-- ---- the end

-- two clauses of one literal resolve to the empty clause
resolvent_empty : (left right c : Clause) → length left.literals ≡ 1 → length right.literals ≡ 1 → IsResolvent left 1 right 1 c → c.literals ≡ []
resolvent_empty left right c one two h =
    let first = some_and (numbered left.literals 1) _ h in
    let second = some_and (numbered right.literals 1) _ first.2 in
    second.2.1 ∙ (λ i. nothing_left left.literals one i ++ nothing_left right.literals two i)
  where
    nothing_left : (ls : List Literal) → length ls ≡ 1 → without ls 1 ≡ []
    nothing_left [] h = absurd (omega (arith, h))
    nothing_left (l ∷ []) h = refl
    nothing_left (l ∷ m ∷ ls) h = absurd (omega (arith, h))

empty_canonical : (c : Clause) → c.literals ≡ [] → IsCanonical c
empty_canonical c h = subst IsCanonical (λ i. record { literals = sym h i }) refl

ends_empty : (steps lines : List Line) (c d : Clause) → last_clause steps ≡ Some c → c.literals ≡ [] → EndsCanonical steps lines → last_clause lines ≡ Some d → d.literals ≡ []
ends_empty steps lines c d last empty h conclusion = by both.2
  where
    both : (x : Clause) × (last_clause steps ≡ Some x) × Where (IsCanonical x) (lines ≡ steps) ((terms : List Term) × AreTermsTo x (canonical x) terms × Adds steps (Instance (length steps) terms) lines)
    both = some_and (last_clause steps) _ h

    same : both.0 ≡ c
    same = same_some (last_clause steps) both.0 c both.1 last

    by : Where (IsCanonical both.0) (lines ≡ steps) ((terms : List Term) × AreTermsTo both.0 (canonical both.0) terms × Adds steps (Instance (length steps) terms) lines) → d.literals ≡ []
    by (inl a) =
        let is : d ≡ c = same_some (last_clause steps) d c (ap last_clause (sym a.1) ∙ conclusion) last in
        ap (λ (x : Clause). x.literals) is ∙ empty
    by (inr a) = absurd (a.0 (subst IsCanonical (sym same) (empty_canonical c empty)))

-- ---- the empty clause

-- the parts of two clauses have as many literals as these
two_parts : (s : Substitution) (c d : Clause) → (p : Clause) × (q : Clause) × (renumbered (map (clause_under s) (apart (c ∷ d ∷ []))) ≡ p ∷ q ∷ []) × (length p.literals ≡ length c.literals) × (length q.literals ≡ length d.literals)
two_parts s c d = (_, _, refl, simp length-map, simp length-map)

module _ (clauses : List Clause) (n m : Numbered) (n_stands : Stands clauses n) (m_stands : Stands clauses m) (p q : Clause) (one : length p.literals ≡ 1) (two : length q.literals ≡ 1) where
  resolved_empty : (opening steps : List Line) (ks : List ℕ) → AddsParts [] (n ∷ m ∷ []) (p ∷ q ∷ []) opening ks → Ends (Resolving (1 ∷ []) (1 ∷ [])) ks opening steps
      → (c : Clause) × (last_clause steps ≡ Some c) × (c.literals ≡ [])
  resolved_empty opening steps [] h e = absurd h
  resolved_empty opening steps (k ∷ []) h e = absurd h.2
  resolved_empty opening steps (k ∷ l ∷ j ∷ ks) h e = absurd e.2
  resolved_empty opening steps (k ∷ l ∷ []) h e = (c, last, resolvent_empty p q c one two resolvent)
    where
      none : AreSteps clauses []
      none k less = absurd (omega (arith, less))

      first : clause_of h.0 k ≡ Some p
      first = part_has clauses [] n p h.0 k n_stands none h.1

      mid_steps : AreSteps clauses h.0
      mid_steps = part_checks clauses [] n p h.0 k n_stands none h.1

      left : clause_of opening k ≡ Some p
      left = ap (λ (ls : List Line). clause_of ls k) h.2.2.0 ∙ part_grows k p h.0 m q h.2.0 l h.2.1 first

      right : clause_of opening l ≡ Some q
      right = ap (λ (ls : List Line). clause_of ls l) h.2.2.0 ∙ part_has clauses h.0 m q h.2.0 l m_stands mid_steps h.2.1

      c : Clause
      c = e.1.0

      last : last_clause steps ≡ Some c
      last = ap last_clause e.2 ∙ added_last opening (record { step = Resolve k 1 l 1; clause = c }) e.0 e.1.2

      resolvent : IsResolvent p 1 q 1 c
      resolvent =
          let a = some_and (clause_of opening k) (λ left. IsSomeAnd (clause_of opening l) (λ right. IsResolvent left 1 right 1 c)) e.1.1 in
          let b = some_and (clause_of opening l) (λ right. IsResolvent a.0 1 right 1 c) a.2 in
          subst (λ (x : Clause). IsResolvent x 1 q 1 c) (same_some (clause_of opening k) a.0 p a.1 left)
          (subst (λ (y : Clause). IsResolvent a.0 1 y 1 c) (same_some (clause_of opening l) b.0 q b.1 right) b.2)

pub conflict_empty : (clauses : List Clause) (n m : Numbered) (made : Derived) → Stands clauses n → Stands clauses m → Conflicts n m made → made.clause.literals ≡ []
conflict_empty clauses n m made n_stands m_stands h =
    let all = h.concludes in
    let parts = two_parts all.joint.0 n.clause m.clause in
    let same : all.parts ≡ parts.0 ∷ parts.1 ∷ [] =
    all.joint.2 ∙ ap (λ (ps : List Numbered). renumbered (map (clause_under all.joint.0) (apart (map (λ (x : Numbered). x.clause) ps)))) h.parents ∙ parts.2 in
    let opens = subst (λ (cs : List Clause). AddsParts [] (n ∷ m ∷ []) cs all.opening all.part_lines) same
    (subst (λ (ps : List Numbered). AddsParts [] ps all.parts all.opening all.part_lines) h.parents all.opens) in
    let steps = subst (λ (x : Ending). Ends x all.part_lines all.opening all.steps) h.ending all.ends in
    let found = resolved_empty clauses n m n_stands m_stands parts.0 parts.1 (parts.3 ∙ h.unit_n) (parts.4 ∙ h.unit_m) all.opening all.steps all.part_lines opens steps in
    ends_empty all.steps made.lines found.0 made.clause found.1 found.2 all.canonical_last all.conclusion
