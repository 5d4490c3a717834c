-- A conclusion of paramodulation, and when there is none.
use Rattle.std.proofs.Common.{◌≡◌, ◌∙◌, sym, ap, subst, refl, ℕ, inl, inr, List, [], ◌∷◌, ◌++◌, length, map, Option, Some, None, true, nat_eq, arith}
use Rattle.std.specs.Prelude.{IsSomeAnd, MatchOption}
use Rattle.std.specs.List.{position_or_len}
use Rattle.sc_term.specs.declared.Side.{Side}
use Rattle.sc_term.specs.declared.Side.TheVariants.{Left, Right}
use Rattle.sc_term.specs.declared.SymId.{SymId}
use Rattle.sc_term.specs.declared.Term.{Term}
use Rattle.sc_term.specs.declared.Term.TheVariants.{App}
use Rattle.sc_term.specs.declared.Literal.{Literal}
use Rattle.sc_term.specs.declared.Clause.{Clause}
use Rattle.sc_term.specs.declared.Line.{Line}
use Rattle.sc_term.specs.declared.Numbered.{Numbered}
use Rattle.sc_term.specs.declared.Step.TheVariants.{Para, Instance}
use Rattle.sc_term.specs.Numbering.{numbered, with_element, without}
use Rattle.sc_term.specs.Path.{IsSubtermAt, IsReplaced}
use Rattle.sc_term.specs.Proof.{chosen, other, clause_of, IsParamodulant}
use Rattle.sc_term.specs.Refuted.{equation, equals, Atom, atom_of}
use Rattle.sc_term.specs.Term.{term_under}
use Rattle.sc_term.specs.Clause.{width, instance, variables, firsts, IsCanonical, IsWithinLimits}
use Rattle.sc_term.specs.Substitution.{Substitution, literal_under, clause_under, Unify}
use Rattle.sc_term.specs.JointInstance.{IsJointInstance, apart, shift, canonical, renumbering}
use Rattle.sc_term.proofs.RenamingLaws.{joint_instance_is_one}
use Rattle.sc_term.proofs.TermSteps.{under-App}
use Rattle.sc_steps.specs.declared.derivations.derivation.Derived.{Derived}
use Rattle.sc_steps.specs.declared.derivations.made.Made.{Made}
use Rattle.sc_steps.specs.Derivation.{last_clause}
use Rattle.sc_steps.proofs.LineLaws.{some_so}
use Rattle.sc_unify.proofs.JointLaws.{limits_kept}
use Rattle.sc_core_rules.specs.declared.site.ParaSite.{ParaSite}
use Rattle.sc_core_rules.specs.Order.{Where}
use Rattle.sc_core_rules.specs.Derivation.{Adds, AddsPart, AddsParts, AreTermsTo, EndsCanonical}
use Rattle.sc_core_rules.specs.Inference.{Inference, Concludes, Ends, Replacing, parent_clauses}
use Rattle.sc_core_rules.specs.Pairing.{literal_at}
use Rattle.sc_core_rules.specs.Paramodulation.{atom_with, IsPara}
use Rattle.sc_core_rules.proofs.StepLaws.{same_some, adds_one}
use Rattle.sc_core_rules.proofs.DerivationLaws.{part_one}
use Rattle.sc_resolve.specs.Binary.{renamed}
use Rattle.sc_resolve.specs.Literals.{pair_of}
use Rattle.sc_resolve.specs.Made.{Makes}
use Rattle.sc_resolve.specs.Parts.{AreJoint}
use Rattle.sc_core_rules.proofs.SimplifyLaws.{subterm_one}
use Rattle.sc_resolve.proofs.LineLaws.{last_is}
use Rattle.sc_resolve.proofs.LiteralLaws.{apart_two}
use Rattle.sc_resolve.proofs.PartLaws.{unified, numbered_map}
use Rattle.sc_para.specs.Conclusion.{AreSidesOf, IsFitting, IsChanged, AreReplacing, AreReplaced, replacement}
use Rattle.sc_para.proofs.ConclusionLaws.{sides_one}
use Rattle.sc_para.proofs.PairSites.{whole_one}

-- ---- the step

pub adds_para : (opening : List Line) (j k : ℕ) (left right c : Clause) (site : ParaSite) (path : List ℕ) (changed : Literal) (lines : List Line) → path ≡ site.path → clause_of opening j ≡ Some left
    → clause_of opening k ≡ Some right → IsChanged left right site changed → c.literals ≡ with_element right.literals site.into_lit changed ++ without left.literals site.from_lit
    → lines ≡ opening ++ record { step = Para j site.from_lit site.side k site.into_lit path; clause = c } ∷ [] → Adds opening (Para j site.from_lit site.side k site.into_lit site.path) lines
adds_para opening j k left right c site path changed lines same at_j at_k h e grown =
    let s = h.sides.0 in
    let t = h.sides.1 in
    let moved : IsReplaced h.target.args site.path (chosen site.side s t) (other site.side s t) h.args =
    subst (λ (u : Term). IsReplaced h.target.args site.path u (other site.side s t) h.args) h.sides.3 (subst (λ (u : Term). IsReplaced h.target.args site.path h.s u h.args) h.sides.4 h.replaced) in
    let paramodulant : IsParamodulant left site.from_lit site.side right site.into_lit site.path c = (
      s,
      t,
      h.sides.2,
      some_so (numbered right.literals site.into_lit) (λ (m : Literal). (args : List Term) × IsReplaced m.args site.path (chosen site.side s t) (other site.side s t) args
          × (c.literals ≡ with_element right.literals site.into_lit (record m { args = args }) ++ without left.literals site.from_lit)) h.target h.target_there
          (h.args, moved, e ∙ ap (λ (l : Literal). with_element right.literals site.into_lit l ++ without left.literals site.from_lit) h.is),
    ) in (
      c,
      some_so (clause_of opening j) (λ (x : Clause). IsSomeAnd (clause_of opening k) (λ (y : Clause). IsParamodulant x site.from_lit site.side y site.into_lit site.path c)) left at_j
          (some_so (clause_of opening k) (λ (y : Clause). IsParamodulant left site.from_lit site.side y site.into_lit site.path c) right at_k paramodulant),
      grown ∙ ap (λ (p : List ℕ). opening ++ record { step = Para j site.from_lit site.side k site.into_lit p; clause = c } ∷ []) same,
    )

-- ---- the site fits the parts

chosen_under : (u : Substitution) (side : Side) (s t : Term) → term_under u (chosen side s t) ≡ chosen side (term_under u s) (term_under u t)
chosen_under u Left s t = refl
chosen_under u Right s t = refl

other_under : (u : Substitution) (side : Side) (s t : Term) → term_under u (other side s t) ≡ other side (term_under u s) (term_under u t)
other_under u Left s t = refl
other_under u Right s t = refl

subterm_under : (u : Substitution) (args : List Term) (path : List ℕ) (t : Term) → IsSubtermAt args path t → IsSubtermAt (map (term_under u) args) path (term_under u t)
subterm_under u args [] t h = absurd h
subterm_under u args (i ∷ []) t h = numbered_map (term_under u) args i t h
subterm_under u args (i ∷ j ∷ path) t h = (
  h.0,
  map (term_under u) h.1,
  numbered_map (term_under u) args i (App h.0 h.1) h.2 ∙ ap (λ (s : Term). Some s) (under-App u h.0 h.1),
  subterm_under u h.1 (j ∷ path) t h.3,
)

one_argument : (s t : Term) (p q : SymId) → ◌≡◌ {A = Atom} (record { pred = p; args = s ∷ [] }) (record { pred = q; args = t ∷ [] }) → s ≡ t
one_argument s t p q e = let args : s ∷ [] ≡ t ∷ [] = ap (λ (a : Atom). a.args) e in cc

pub fitting : (from into : Numbered) (left right : Clause) (site : ParaSite) (l m : Literal) → IsJointInstance (from.clause ∷ into.clause ∷ []) (pair_of l m) (left ∷ right ∷ [])
    → AreReplaced from into site l m → IsFitting left right site
fitting from into left right site l m joint a =
    let h = unified (from.clause ∷ into.clause ∷ []) (pair_of l m) (left ∷ right ∷ []) joint in
    let both : left ∷ right ∷ [] ≡ clause_under h.by from.clause ∷ clause_under h.by (shift (width from.clause) into.clause) ∷ [] = h.parts_are ∙ ap (map (clause_under h.by)) (apart_two from.clause into.clause) in
    let e : left ≡ clause_under h.by from.clause = cc in
    let f : right ≡ clause_under h.by (shift (width from.clause) into.clause) = cc in
    let atoms : atom_of (literal_under h.by (atom_with a.s)) ≡ atom_of (literal_under h.by (atom_with a.t)) =
    subst (λ (x : Literal). atom_of (literal_under h.by x) ≡ atom_of (literal_under h.by (atom_with a.t))) a.left_is
    (subst (λ (y : Literal). atom_of (literal_under h.by l) ≡ atom_of (literal_under h.by y)) a.right_is (h.unifies 0 (record { left = l; right = m }) (omega arith))) in
    let equal : term_under h.by a.s ≡ term_under h.by a.t = one_argument (term_under h.by a.s) (term_under h.by a.t) equals equals atoms in
    record {
      s = term_under h.by a.s;
      t = term_under h.by a.rest;
      sides = (
        term_under h.by a.sides.0,
        term_under h.by a.sides.1,
        ap (λ (x : Clause). numbered x.literals site.from_lit) e ∙ numbered_map (literal_under h.by) from.clause.literals site.from_lit (equation true a.sides.0 a.sides.1) a.sides.2,
        ap (term_under h.by) a.sides.3 ∙ chosen_under h.by site.side a.sides.0 a.sides.1,
        ap (term_under h.by) a.sides.4 ∙ other_under h.by site.side a.sides.0 a.sides.1,
      );
      there = (
        literal_under h.by a.subterm_there.0,
        ap (λ (x : Clause). numbered x.literals site.into_lit) f ∙ numbered_map (literal_under h.by) (renamed from into) site.into_lit a.subterm_there.0 a.subterm_there.1,
        subst (IsSubtermAt (map (term_under h.by) (a.subterm_there.0).args) site.path) (sym equal) (subterm_under h.by (a.subterm_there.0).args site.path a.t a.subterm_there.2),
      );
    }

-- ---- the conclusion

pub concludes : (from into : Numbered) (site : ParaSite) (l m : Literal) (left right c : Clause) (lines : List Line) (made : Made) → AreJoint (from.clause ∷ into.clause ∷ []) (pair_of l m) (left ∷ right ∷ [])
    → AreReplacing from into left right site c lines → EndsCanonical lines made.lines → Concludes (replacement from into site l m) (record { clause = made.clause; lines = made.lines })
concludes from into site l m left right c lines made joint h ends = record {
  parts = left ∷ right ∷ [];
  joint = joint.joint;
  joint_within = joint.within;
  opening = h.opening;
  part_lines = h.left_line ∷ h.right_line ∷ [];
  opens = (h.mid, h.left_opens, (h.opening, h.right_opens, (refl, refl)));
  steps = lines;
  ends = h.ends;
  canonical_last = ends;
  conclusion = made.ends;
  conclusion_within = record { light = made.light; shallow = made.shallow };
}

-- the canonical form is within the limits only where the clause is
canonical_only : (c : Clause) → IsWithinLimits (canonical c) → IsWithinLimits c
canonical_only c h =
    subst IsWithinLimits (whole_one c)
    ((limits_kept (renumbering (firsts (variables c))) (λ n. position_or_len (nat_eq n) (firsts (variables c))) (λ n. refl) (c ∷ [])).1 (subst IsWithinLimits (sym (whole_one (canonical c))) h))

-- what ends the lines is within the limits only where the clause before it is
ends_within : (lines : List Line) (c : Clause) (d : Derived) → last_clause lines ≡ Some c → EndsCanonical lines d.lines → last_clause d.lines ≡ Some d.clause → IsWithinLimits d.clause → IsWithinLimits c
ends_within lines c d last ends conclusion within =
    by (subst (λ (o : Option Clause). IsSomeAnd o (λ (x : Clause). Where (IsCanonical x) (d.lines ≡ lines)
    ((terms : List Term) × AreTermsTo x (canonical x) terms × Adds lines (Instance (length lines) terms) d.lines))) last ends)
  where
    by : Where (IsCanonical c) (d.lines ≡ lines) ((terms : List Term) × AreTermsTo c (canonical c) terms × Adds lines (Instance (length lines) terms) d.lines) → IsWithinLimits c
    by (inl h) = subst IsWithinLimits (same_some (last_clause d.lines) d.clause c conclusion (ap last_clause h.1 ∙ last)) within
    by (inr (differ, (terms, are, (e, follows, grown)))) =
        let instance_so = subst (λ (o : Option Clause). IsSomeAnd o (λ (of : Clause). (length terms ≡ width of) × (e ≡ instance terms of))) last follows in
        let there : last_clause d.lines ≡ Some e = last_is lines (Instance (length lines) terms) e d.lines (length d.lines) (record { grown = grown; last = refl }) in
        canonical_only c (subst IsWithinLimits (same_some (last_clause d.lines) d.clause e conclusion there ∙ instance_so.1 ∙ are.gives) within)

pub no_conclusion : (from into : Numbered) (site : ParaSite) (l m : Literal) (left right c : Clause) (lines : List Line) → AreJoint (from.clause ∷ into.clause ∷ []) (pair_of l m) (left ∷ right ∷ [])
    → AreReplacing from into left right site c lines → ¬ IsWithinLimits c → (d : Derived) → ¬ Concludes (replacement from into site l m) d
no_conclusion from into site l m left right c lines joint h outside d k = outside (by k.part_lines opens k.ends)
  where
    parts : k.parts ≡ left ∷ right ∷ []
    parts = joint_instance_is_one (from.clause ∷ into.clause ∷ []) (pair_of l m) k.parts (left ∷ right ∷ []) k.joint joint.joint

    opens : AddsParts [] (from ∷ into ∷ []) (left ∷ right ∷ []) k.opening k.part_lines
    opens = subst (λ (ps : List Clause). AddsParts [] (from ∷ into ∷ []) ps k.opening k.part_lines) parts k.opens

    by : (ns : List ℕ) → AddsParts [] (from ∷ into ∷ []) (left ∷ right ∷ []) k.opening ns → Ends (Replacing site.from_lit site.side site.into_lit site.path) ns k.opening k.steps → IsWithinLimits c
    by [] o e = absurd o
    by (j ∷ []) o e = absurd o.2
    by (j ∷ n ∷ rest) o e =
        let first = part_one [] from left h.mid o.0 h.left_line j h.left_opens o.1 in
        let second = part_one o.0 into right h.opening o.2.0 h.right_line n (subst (λ (ls : List Line). AddsPart ls into right h.opening h.right_line) first.0 h.right_opens) o.2.1 in
        let same : h.opening ≡ k.opening = second.0 ∙ sym o.2.2.0 in
        let ours : Adds k.opening (Para j site.from_lit site.side n site.into_lit site.path) lines =
        subst (λ (ls : List Line). Adds ls (Para j site.from_lit site.side n site.into_lit site.path) lines) same
        (subst (λ i. Adds h.opening (Para i site.from_lit site.side n site.into_lit site.path) lines) first.1
        (subst (λ i. Adds h.opening (Para h.left_line site.from_lit site.side i site.into_lit site.path) lines) second.1 h.ends)) in
        let steps : k.steps ≡ lines = adds_one k.opening (Para j site.from_lit site.side n site.into_lit site.path) k.steps lines e ours in
        ends_within lines c d h.last (subst (λ (ls : List Line). EndsCanonical ls d.lines) steps k.canonical_last) k.conclusion k.conclusion_within

pub makes : (from into : Numbered) (site : ParaSite) (l m : Literal) (left right c : Clause) (lines : List Line) → AreJoint (from.clause ∷ into.clause ∷ []) (pair_of l m) (left ∷ right ∷ [])
    → AreReplacing from into left right site c lines → (made : Option Made) → MatchOption made (¬ IsWithinLimits c) (λ m. EndsCanonical lines m.lines) → Makes (replacement from into site l m) made
makes from into site l m left right c lines joint h None outside = no_conclusion from into site l m left right c lines joint h outside
makes from into site l m left right c lines joint h (Some made) ends = concludes from into site l m left right c lines made joint h ends

-- ---- the site

module _ (from into : Numbered) (site : ParaSite) (i : Inference) (h : IsPara from into site i) where
  here : apart (parent_clauses i) ≡ from.clause ∷ shift (width from.clause) into.clause ∷ []
  here = ap (λ (ps : List Numbered). apart (map (λ (q : Numbered). q.clause) ps)) h.parents ∙ apart_two from.clause into.clause

  pub sides_there : AreSidesOf from.clause.literals site.from_lit site.side (chosen site.side h.left h.right) (other site.side h.left h.right)
  sides_there = (
    h.left,
    h.right,
    subst (λ (cs : List Clause). literal_at cs (record { parent = 1; lit = site.from_lit }) ≡ Some (equation true h.left h.right)) here h.equation_there,
    refl,
    refl,
  )

  pub target_at : numbered (renamed from into) site.into_lit ≡ Some h.target
  target_at = subst (λ (cs : List Clause). literal_at cs (record { parent = 2; lit = site.into_lit }) ≡ Some h.target) here h.target_there

  pub is_replaced : (s rest : Term) → AreSidesOf from.clause.literals site.from_lit site.side s rest → (m : Literal) → numbered (renamed from into) site.into_lit ≡ Some m → (t : Term)
      → IsSubtermAt m.args site.path t → (l k : Literal) → l ≡ atom_with s → k ≡ atom_with t → AreReplaced from into site l k × (i ≡ replacement from into site l k)
  is_replaced s rest sides m at_m t sub l k l_is k_is =
      let side : s ≡ chosen site.side h.left h.right =
      (sides_one from.clause.literals site.from_lit site.side s rest (chosen site.side h.left h.right) (other site.side h.left h.right) sides sides_there).0 in
      let target : h.target ≡ m = same_some (numbered (renamed from into) site.into_lit) h.target m target_at at_m in
      let subterm : h.subterm ≡ t = subterm_one m.args site.path h.subterm t (subst (λ (x : Literal). IsSubtermAt x.args site.path h.subterm) target h.subterm_there) sub in
      let left : atom_with (chosen site.side h.left h.right) ≡ l = ap atom_with (sym side) ∙ sym l_is in
      let right : atom_with h.subterm ≡ k = ap atom_with subterm ∙ sym k_is in
      let pairs : i.pairs ≡ pair_of l k = h.pairs ∙ (λ n. pair_of (left n) (right n)) in (
        record { s = s; rest = rest; left_is = l_is; sides = sides; t = t; right_is = k_is; subterm_there = (m, at_m, sub); can = subst Unify pairs h.unify },
        λ n. record { parents = h.parents n; pairs = pairs n; ending = h.ending n },
      )
