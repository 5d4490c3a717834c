-- Derivations check: a conclusion and what it is simplified to follow from the clauses that the `input` lines name.
use Rattle.std.proofs.Common.{◌≡◌, sym, subst, ℕ, ◌-◌, inl, inr, List, [], ◌∷◌, length, map, Some, None, Option, Bool, true, false, arith}
use Rattle.std.specs.Prelude.{IsSomeAnd}
use Rattle.std.specs.List.{Contains}
use Rattle.sc_term.specs.declared.Term.{Term}
use Rattle.sc_term.specs.declared.Clause.{Clause}
use Rattle.sc_term.specs.declared.Line.{Line}
use Rattle.sc_term.specs.declared.Numbered.{Numbered}
use Rattle.sc_term.specs.declared.Side.TheVariants.{Left}
use Rattle.sc_term.specs.declared.Step.{Step}
use Rattle.sc_term.specs.declared.Step.TheVariants.{Input, Instance, Resolve, Merge, Para, Flip}
use Rattle.sc_term.specs.Numbering.{numbered}
use Rattle.sc_term.specs.Clause.{IsCanonical, instance}
use Rattle.sc_term.specs.Proof.{Follows, AreSteps}
use Rattle.sc_term.specs.JointInstance.{canonical}
use Rattle.sc_steps.specs.declared.derivations.derivation.Derived.{Derived}
use Rattle.sc_steps.specs.Derivation.{IsDerivedFrom, last_clause}
use Rattle.sc_steps.proofs.LineLaws.{steps_push}
use Rattle.sc_input_rules.specs.declared.settings.Flags.{Flags}
use Rattle.sc_core_rules.specs.Order.{Where, With, Exhausts, ExhaustsWithin, ends, goes, limit}
use Rattle.sc_core_rules.specs.Derivation.{Adds, AddsInput, AddsPart, AddsParts, AreTermsTo, EndsCanonical}
use Rattle.sc_core_rules.specs.Inference.{Inference, Ending, Resolving, Merging, Replacing, ResolvesAll, Ends, Concludes}
use Rattle.sc_core_rules.specs.Rewriting.{RewritesOnce}
use Rattle.sc_core_rules.specs.Simplification.{IsUphill, Orients, DeletesOnce, MergesOnce, Simplifies}
use Rattle.sc_core_rules.proofs.Enumerations.{numbered_none}
use Rattle.sc_term.proofs.ContainsLaws.{at_first, later}

-- the clause is the one of its number
abbrev pub Stands : List Clause → Numbered → Type 0
Stands clauses p = numbered clauses p.number ≡ Some p.clause

-- all of these are
abbrev pub AllStand : List Clause → List Numbered → Type 0
AllStand clauses ps = (p : Numbered) → Contains ps p → Stands clauses p

-- ---- one more line

-- what follows from lines alone follows from any clauses
follows_any : (clauses : List Clause) (earlier : List Line) (c : Clause) (s : Step) → Follows [] earlier c s → Follows clauses earlier c s
follows_any clauses earlier c (Input k) h = absurd (numbered_none k c h)
follows_any clauses earlier c (Instance j terms) h = h
follows_any clauses earlier c (Resolve j a k b) h = h
follows_any clauses earlier c (Merge j a) h = h
follows_any clauses earlier c (Para j a side k b path) h = h
follows_any clauses earlier c (Flip j a) h = h

module _ (clauses : List Clause) where
  pub adds_checks : (before : List Line) (s : Step) (after : List Line) → AreSteps clauses before → Adds before s after → AreSteps clauses after
  adds_checks before s after steps h =
      subst (AreSteps clauses) (sym h.2) (steps_push clauses before (record { step = s; clause = h.0 }) steps (follows_any clauses before h.0 s h.1))

  pub input_checks : (before : List Line) (p : Numbered) (after : List Line) (k : ℕ) → Stands clauses p → AreSteps clauses before → AddsInput before p after k → AreSteps clauses after
  input_checks before p after k stands steps (inl h) = subst (AreSteps clauses) (sym h.1) steps
  input_checks before p after k stands steps (inr h) = subst (AreSteps clauses) (sym h.1) (steps_push clauses before (record { step = Input p.number; clause = p.clause }) steps stands)

  pub part_checks : (before : List Line) (p : Numbered) (part : Clause) (after : List Line) (k : ℕ) → Stands clauses p → AreSteps clauses before → AddsPart before p part after k → AreSteps clauses after
  part_checks before p part after k stands steps h = by h.3
    where
      mid : AreSteps clauses h.0
      mid = input_checks before p h.0 h.1 stands steps h.2

      by : Where (part ≡ p.clause) ((after ≡ h.0) × (k ≡ h.1)) ((terms : List Term) × AreTermsTo p.clause part terms × Adds h.0 (Instance h.1 terms) after × (k ≡ length after)) → AreSteps clauses after
      by (inl a) = subst (AreSteps clauses) (sym a.1.0) mid
      by (inr a) = adds_checks h.0 (Instance h.1 a.1.0) after mid a.1.2

  pub parts_check : (before : List Line) (ps : List Numbered) (parts : List Clause) (after : List Line) (ks : List ℕ) → AllStand clauses ps → AreSteps clauses before → AddsParts before ps parts after ks → AreSteps clauses after
  parts_check before [] [] after ks stand steps h = subst (AreSteps clauses) (sym h.0) steps
  parts_check before [] (part ∷ parts) after ks stand steps h = absurd h
  parts_check before (p ∷ ps) [] after ks stand steps h = absurd h
  parts_check before (p ∷ ps) (part ∷ parts) after [] stand steps h = absurd h
  parts_check before (p ∷ ps) (part ∷ parts) after (k ∷ ks) stand steps h =
      parts_check h.0 ps parts after ks (λ q there. stand q (later q p ps there)) (part_checks before p part h.0 k (stand p (at_first p ps)) steps h.1) h.2

  -- ---- the steps of the rule, and the end

  resolves_check : (before : List Line) (j : ℕ) (as' ks bs : List ℕ) (after : List Line) → AreSteps clauses before → ResolvesAll before j as' ks bs after → AreSteps clauses after
  resolves_check before j [] [] [] after steps h = subst (AreSteps clauses) (sym h) steps
  resolves_check before j [] [] (b ∷ bs) after steps h = absurd h
  resolves_check before j [] (k ∷ ks) bs after steps h = absurd h
  resolves_check before j (a ∷ as') [] bs after steps h = absurd h
  resolves_check before j (a ∷ as') (k ∷ ks) [] after steps h = absurd h
  resolves_check before j (a ∷ as') (k ∷ ks) (b ∷ bs) after steps h =
      resolves_check h.0 (length h.0) (map (λ n. n - 1) as') ks bs after (adds_checks before (Resolve j a k b) h.0 steps h.1) h.2

  ends_check : (ending : Ending) (ks : List ℕ) (before after : List Line) → AreSteps clauses before → Ends ending ks before after → AreSteps clauses after
  ends_check (Resolving as' bs) [] before after steps h = absurd h
  ends_check (Resolving as' bs) (j ∷ ks) before after steps h = resolves_check before j as' ks bs after steps h
  ends_check (Merging a) [] before after steps h = absurd h
  ends_check (Merging a) (j ∷ ks) before after steps h = adds_checks before (Merge j a) after steps h
  ends_check (Replacing a side b path) [] before after steps h = absurd h
  ends_check (Replacing a side b path) (j ∷ []) before after steps h = absurd h
  ends_check (Replacing a side b path) (j ∷ k ∷ ks) before after steps h = adds_checks before (Para j a side k b path) after steps h

  canonical_checks : (before after : List Line) → AreSteps clauses before → EndsCanonical before after → AreSteps clauses after
  canonical_checks before after steps h = by (last_clause before) h
    where
      cases : (c : Clause) → Where (IsCanonical c) (after ≡ before) ((terms : List Term) × AreTermsTo c (canonical c) terms × Adds before (Instance (length before) terms) after) → AreSteps clauses after
      cases c (inl a) = subst (AreSteps clauses) (sym a.1) steps
      cases c (inr a) = adds_checks before (Instance (length before) a.1.0) after steps a.1.2

      by : (o : Option Clause)
          → IsSomeAnd o (λ c. Where (IsCanonical c) (after ≡ before) ((terms : List Term) × AreTermsTo c (canonical c) terms × Adds before (Instance (length before) terms) after)) → AreSteps clauses after
      by None a = absurd a
      by (Some c) a = cases c a

  -- a conclusion is derived from the clauses of which its parents are some
  pub conclusion_checks : (i : Inference) (made : Derived) → AllStand clauses i.parents → Concludes i made → IsDerivedFrom clauses made
  conclusion_checks i made stand h = record {
    steps = canonical_checks h.steps made.lines (ends_check i.ending h.part_lines h.opening h.steps (parts_check [] i.parents h.parts h.opening h.part_lines stand none h.opens) h.ends) h.canonical_last;
    ends = h.conclusion;
  }
    where
      none : AreSteps clauses []
      none k h = absurd (omega (arith, h))

  -- ---- simplification

  exhausts_keeps : {X : Type 0} (R : X → X → Type 0) (P : X → Type 0) → ((x y : X) → R x y → P x → P y) → (x z : X) → Exhausts R x z → P x → P z
  exhausts_keeps R P keeps x z (ends h) p = p
  exhausts_keeps R P keeps x z (goes {y = y} r more) p = exhausts_keeps R P keeps y z more (keeps x y r p)

  within_keeps : {X : Type 0} (R : X → X → Type 0) (P : X → Type 0) → ((x y : X) → R x y → P x → P y) → (n : ℕ) (x z : X) → ExhaustsWithin R n x z → P x → P z
  within_keeps R P keeps n x z limit p = p
  within_keeps R P keeps n x z (ends h) p = p
  within_keeps R P keeps n x z (goes {y = y} r more) p = within_keeps R P keeps _ y z more (keeps x y r p)

  rewrite_checks : (demods : List Numbered) → AllStand clauses demods → (before after : List Line) → RewritesOnce demods before after → AreSteps clauses before → AreSteps clauses after
  rewrite_checks demods stand before after h steps =
      adds_checks h.mid (Para h.k 1 Left (length before) h.b h.path) after
      (part_checks before h.demodulator (instance h.terms (h.demodulator).clause) h.mid h.k (stand h.demodulator h.least.listed) steps h.shows) h.replaces

  orient_checks : (before after : List Line) → Orients before after → AreSteps clauses before → AreSteps clauses after
  orient_checks before after h steps = by (last_clause before) h
    where
      cases : (c : Clause) → Where (IsUphill c) (Adds before (Flip (length before) 1) after) (after ≡ before) → AreSteps clauses after
      cases c (inl a) = adds_checks before (Flip (length before) 1) after steps a.1
      cases c (inr a) = subst (AreSteps clauses) (sym a.1) steps

      by : (o : Option Clause) → IsSomeAnd o (λ c. Where (IsUphill c) (Adds before (Flip (length before) 1) after) (after ≡ before)) → AreSteps clauses after
      by None a = absurd a
      by (Some c) a = cases c a

  delete_checks : (units : List Numbered) → AllStand clauses units → (before after : List Line) → DeletesOnce units before after → AreSteps clauses before → AreSteps clauses after
  delete_checks units stand before after h steps =
      adds_checks h.mid (Resolve (length before) h.a h.k 1) after (part_checks before h.removing _ h.mid h.k (stand h.removing h.least.listed) steps h.shows) h.resolves

  merge_checks : (before after : List Line) → MergesOnce before after → AreSteps clauses before → AreSteps clauses after
  merge_checks before after h steps = adds_checks before (Merge (length before) h.a) after steps h.merges

  with_keeps : (flag : Bool) (R : List Line → List Line → Type 0) (before after : List Line) → (R before after → AreSteps clauses before → AreSteps clauses after)
      → With flag (R before after) (after ≡ before) → AreSteps clauses before → AreSteps clauses after
  with_keeps true R before after keeps h steps = keeps h steps
  with_keeps false R before after keeps h steps = subst (AreSteps clauses) (sym h) steps

  pub simplified_checks : (flags : Flags) (demod_limit : ℕ) (demods units : List Numbered) → AllStand clauses demods → AllStand clauses units → (before after : List Line)
      → Simplifies flags demod_limit demods units before after → AreSteps clauses before → AreSteps clauses after
  simplified_checks flags demod_limit demods units demods_stand units_stand before after h steps =
      let rewritten = within_keeps (RewritesOnce demods) (AreSteps clauses) (rewrite_checks demods demods_stand) demod_limit before h.rewritten h.rewrites steps in
      let oriented = with_keeps flags.dynamic_demod Orients h.rewritten h.oriented (orient_checks h.rewritten h.oriented) h.orients rewritten in
      let cut = with_keeps flags.unit_deletion (Exhausts (DeletesOnce units)) h.oriented h.cut (exhausts_keeps (DeletesOnce units) (AreSteps clauses) (delete_checks units units_stand) h.oriented h.cut) h.cuts oriented in
      let merged = exhausts_keeps MergesOnce (AreSteps clauses) merge_checks h.cut h.merged h.merges cut in
      canonical_checks h.merged after merged h.canonical_last
