-- The look-ups select the clause that the definition names.
use Rattle.std.proofs.Common.{◌≡◌, ◌≢◌, ◌∙◌, sym, ap, subst, refl, ℕ, ◌+◌, ◌%◌, ◌<◌, ◌≤◌, inl, inr, List, [], ◌∷◌, length, map, Option, Some, None, arith}
use Rattle.std.specs.Prelude.{IfNone, IfSome, MatchOption, option_map}
use Rattle.std.specs.List.{All, Contains}
use Rattle.sc_term.specs.declared.Clause.{Clause}
use Rattle.sc_term.specs.declared.Numbered.{Numbered}
use Rattle.sc_term.specs.Numbering.{numbered}
use Rattle.sc_steps.proofs.LineLaws.{number_within}
use Rattle.sc_input_rules.specs.Problem.{Stated}
use Rattle.sc_interp.specs.declared.plain.VersionName.{VersionName}
use Rattle.sc_interp.specs.Versions.{ClaimedStructure}
use Rattle.sc_core_rules.specs.declared.row.Cause.{Cause}
use Rattle.sc_core_rules.specs.declared.row.Cause.TheVariants as cause
use Rattle.sc_core_rules.specs.declared.row.GivenRow.{GivenRow}
use Rattle.sc_core_rules.specs.Book.{Book, IsSound, numbered_clauses}
use Rattle.sc_core_rules.specs.Selection.{Seen, IsAny, IsFalse, IsGuide, Selects, ratio, opening_name}
use Rattle.sc_core_rules.proofs.SoundLaws.{at}
use Rattle.sc_core_rules.proofs.StepLaws.{same_some}
use Rattle.sc_core_rules.proofs.TurnLaws.{selected_there}
use Rattle.sc_mark.specs.Marked.{Marked}
use Rattle.sc_sos.specs.declared.sos.Weighed.{Weighed}
use Rattle.sc_sos.specs.Waiting.{age_of, weight_of, ComesFirst, IsFalseIn}
use Rattle.sc_sos.specs.Waiting as waiting
use Rattle.sc_guide.specs.Guided.{Guided}
use Rattle.sc_core.specs.declared.choosing.GivenChoice.{GivenChoice}
use Rattle.sc_core.specs.declared.selecting.Selected.{Selected}
use Rattle.sc_core.specs.Choice.{weighed, HasFalse, IsLightestFalse, IsSelected, IsRowOf, IsChosen}
use Rattle.sc_core.specs.Marking.{AreRight, AreMarked, in_guide}
use Rattle.sc_core.proofs.CountLaws.{count_all}
use Rattle.sc_core.proofs.MarkLaws.{marked_right, sos_stand, to_false, from_false}
use Rattle.sc_core.proofs.WaitingLaws.{first_clause, weighed_in}

-- ---- the look-ups

none_weighed : (sos : List Numbered) → map weighed sos ≡ [] → sos ≡ []
none_weighed [] e = refl
none_weighed (p ∷ sos) e = let bad : weighed p ∷ map weighed sos ≡ [] = e in absurd cc

pub matched : {X : Type 0} (o : Option X) (A : Type 0) (P : X → Type 0) → IfSome o P → IfNone o A → MatchOption o A P
matched None A P some none = none
matched (Some x) A P some none = some

-- what a look-up tells
abbrev pub Found : (Weighed → List ℕ) → (Weighed → Type 0) → List Weighed → Option ℕ → Type 0
Found order P ws o = MatchOption o (ws ≡ []) (λ n. ComesFirst order P ws n)

module _ (problem : Stated) (sos : List Numbered) (turn : ℕ) (name : VersionName) (v : ClaimedStructure) where
  -- a number that is chosen for a cause
  abbrev pub Chosen : Cause → Option ℕ → Type 0
  Chosen c o = MatchOption o (sos ≡ []) (λ n. IsSelected problem sos turn name v n c)

  -- the oldest where the ratio divides the turn
  pub by_age : (ws : List Weighed) (o : Option ℕ) → ws ≡ map weighed sos → turn % ratio problem ≡ 0 → Found age_of waiting.IsAny ws o → Chosen cause.Age o
  by_age ws None e divides h = none_weighed sos (sym e ∙ h)
  by_age ws (Some n) e divides h =
      let first = first_clause age_of waiting.IsAny IsAny sos n (λ p k any. tt) (λ p k any. tt) (subst (λ (us : List Weighed). ComesFirst age_of waiting.IsAny us n) e h) in
      (first.0, first.1, inl (divides, (refl, first.2)))

  -- the lightest, where none is false in a guide that is seen
  pub by_weight_alone : (ws : List Weighed) (o : Option ℕ) → ws ≡ map weighed sos → turn % ratio problem ≢ 0 → ¬ HasFalse sos name v → Found weight_of waiting.IsAny ws o
      → Chosen cause.Weight o
  by_weight_alone ws None e never none h = none_weighed sos (sym e ∙ h)
  by_weight_alone ws (Some n) e never none h =
      let first = first_clause weight_of waiting.IsAny IsAny sos n (λ p k any. tt) (λ p k any. tt) (subst (λ (us : List Weighed). ComesFirst weight_of waiting.IsAny us n) e h) in
      (first.0, first.1, inr (never, inr (none, (refl, first.2))))

  -- the lightest that is false in it
  pub by_falsehood : (n : ℕ) → turn % ratio problem ≢ 0 → IsLightestFalse problem sos name v n → IsSelected problem sos turn name v n cause.False
  by_falsehood n never h = (h.1.0, h.1.1, inr (never, inl ((h.0, (h.1.0, h.1.2.listed, h.1.2.holds)), (refl, h.1.2))))

  -- as the value tells it
  pub told_chosen : (c : Cause) (o : Option ℕ) (told : Option Selected) → told ≡ option_map (λ n. record { number = n; cause = c }) o → Chosen c o
      → MatchOption told (sos ≡ []) (λ s. IsSelected problem sos turn name v s.number s.cause)
  told_chosen c None told e h = subst (λ (t : Option Selected). MatchOption t (sos ≡ []) (λ s. IsSelected problem sos turn name v s.number s.cause)) (sym e) h
  told_chosen c (Some n) told e h = subst (λ (t : Option Selected). MatchOption t (sos ≡ []) (λ s. IsSelected problem sos turn name v s.number s.cause)) (sym e) h

-- ---- the clauses that are marked False

module _ (problem : Stated) (seen : Seen) (book : Book) (sound : IsSound problem book) (old marks : Marked) (guide : Guided) (guides : IsGuide problem seen guide.name guide.version)
    (right : AreRight problem seen book old) (marked : AreMarked (in_guide old guide) marks book.sos) where
  now_right : AreRight problem seen book marks
  now_right = marked_right problem seen book old marks guide sound guides right marked

  so : (p : Numbered) → Contains book.sos p → IsFalseIn marks (weighed p) → IsFalse guide.version p
  so p k h = subst (λ (v : ClaimedStructure). IsFalse v p) marked.version (to_false problem seen book sound marks now_right p k h)

  so_marked : (p : Numbered) → Contains book.sos p → IsFalse guide.version p → IsFalseIn marks (weighed p)
  so_marked p k h = from_false problem seen book sound marks now_right p k (marked.all p k) (subst (λ (v : ClaimedStructure). IsFalse v p) (sym marked.version) h)

  -- what the look-up among them tells
  pub told_false : (ws : List Weighed) (o : Option ℕ) → ws ≡ map weighed book.sos → guide.name ≢ opening_name
      → MatchOption o (All (λ w. ¬ IsFalseIn marks w) ws) (λ n. ComesFirst weight_of (IsFalseIn marks) ws n)
      → MatchOption o (¬ HasFalse book.sos guide.name guide.version) (λ n. IsLightestFalse problem book.sos guide.name guide.version n)
  told_false ws None e named h = λ k.
      at (λ (w : Weighed). ¬ IsFalseIn marks w) ws (weighed k.1.0) h (subst (λ (us : List Weighed). Contains us (weighed k.1.0)) (sym e) (weighed_in book.sos k.1.0 k.1.1)) (so_marked k.1.0 k.1.1 k.1.2)
  told_false ws (Some n) e named h =
      (named, first_clause weight_of (IsFalseIn marks) (IsFalse guide.version) book.sos n so so_marked (subst (λ (us : List Weighed). ComesFirst weight_of (IsFalseIn marks) us n) e h))

-- none is false in a guide that isn't seen
pub none_false : (sos : List Numbered) (name : VersionName) (v : ClaimedStructure) → name ≡ opening_name → ¬ HasFalse sos name v
none_false sos name v e h = h.0 e

-- ---- the clause of the number

module _ (problem : Stated) (book : Book) (sound : IsSound problem book) (turn : ℕ) (name : VersionName) (v : ClaimedStructure) (n : ℕ) (c : Cause)
    (selected : IsSelected problem book.sos turn name v n c) where
  listed : Contains book.sos selected.0
  listed = selected_there problem book.sos turn name v selected.0 c selected.2

  stands : numbered (numbered_clauses problem book) n ≡ Some selected.0.clause
  stands = subst (λ (m : ℕ). numbered (numbered_clauses problem book) m ≡ Some selected.0.clause) selected.1 (sos_stand problem book sound selected.0 listed)

  pub selected_within : (0 < n) × (n ≤ length problem.inputs + length book.derived)
  selected_within =
      let within = number_within (numbered_clauses problem book) n selected.0.clause stands in
      let count = count_all problem.inputs book.derived in
      let some = within.0 in
      let most = within.1 in
      (omega (arith, some), omega (arith, most, count))

  module _ (clause : Clause) (here : numbered (numbered_clauses problem book) n ≡ Some clause) where
    same : selected.0 ≡ record { number = n; clause = clause }
    same =
        let e = same_some (numbered (numbered_clauses problem book) n) selected.0.clause clause stands here in
        λ i. record { number = selected.1 i; clause = e i }

    -- what is so of every clause of sos is so of it
    pub so_of_selected : (Q : Clause → Type 0) → All (λ p. Q p.clause) book.sos → Q clause
    so_of_selected Q all = subst (λ (p : Numbered). Q p.clause) same (at (λ p. Q p.clause) book.sos selected.0 all listed)

    -- its row is the row of the turn
    pub row_chosen : (guide : Guided) (choice : GivenChoice) → guide.name ≡ name → guide.version ≡ v → IsRowOf guide turn n clause c choice → IsChosen problem guide turn book.sos choice
    row_chosen guide choice names versions h = record {
      selects = subst (λ (d : Cause). Selects problem book.sos turn guide.name guide.version choice.given d) (sym cause_is)
          (subst (λ (w : ClaimedStructure). Selects problem book.sos turn guide.name w choice.given c) (sym versions)
          (subst (λ (m : VersionName). Selects problem book.sos turn m v choice.given c) (sym names)
          (subst (λ (p : Numbered). Selects problem book.sos turn name v p c) (same ∙ sym h.given) selected.2)));
      row = subst (λ (d : Cause). IsRowOf guide turn choice.given.number choice.given.clause d choice) (sym cause_is)
          (subst (λ (p : Numbered). IsRowOf guide turn p.number p.clause c choice) (sym h.given) h);
    }
      where
        cause_is : choice.row.cause ≡ c
        cause_is = ap (λ (row : GivenRow). row.cause) h.row
