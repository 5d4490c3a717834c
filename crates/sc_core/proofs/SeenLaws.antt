-- More versions are seen, and what a name means there.
use Rattle.std.proofs.Common.{◌≡◌, ◌∙◌, sym, ap, subst, refl, ℕ, zero, suc, ◌+◌, ◌-◌, ◌<◌, ◌⊎◌, inl, inr, List, [], ◌∷◌, ◌++◌, length, Option, Some, None, slice_get, arith}
use Rattle.std.specs.Prelude.{IsSomeAnd, slice_set}
use Rattle.std.proofs.lemmas.List.{append-nil}
use Rattle.sc_term.specs.Numbering.{numbered, with_element}
use Rattle.sc_steps.proofs.LineLaws.{in_whole}
use Rattle.sc_input_rules.specs.Problem.{Stated}
use Rattle.sc_interp.specs.declared.plain.VersionName.{VersionName}
use Rattle.sc_interp.specs.Versions.{ClaimedStructure}
use Rattle.sc_core_rules.specs.Selection.{Seen, IsAt, IsGuide, opening_name}
use Rattle.sc_core_rules.proofs.NumberLaws.{numbered-suc}
use Rattle.sc_core_rules.proofs.StepLaws.{some_both, same_some}
use Rattle.sc_core_rules.proofs.TurnLaws.{guide_one}
use Rattle.sc_core_laws.specs.TrueRows.{IsNamed, IsFrontOf}
use Rattle.sc_guide.specs.Guided.{grown}

-- ---- one version more

same_front : (seen : Seen) → IsFrontOf seen seen
same_front [] = tt
same_front (list ∷ seen) = (([], append-nil list), same_front seen)

set_front : (seen : Seen) (k : ℕ) (versions : List ClaimedStructure) (v : ClaimedStructure) → slice_get seen k ≡ Some versions → IsFrontOf (slice_set seen k (versions ++ v ∷ [])) seen
set_front [] k versions v e = absurd (let bad : ◌≡◌ {A = Option (List ClaimedStructure)} None (Some versions) = e in cc)
set_front (list ∷ seen) zero versions v e =
    let some : Some list ≡ Some versions = e in
    let same : list ≡ versions = cc in
    ((v ∷ [], ap (λ (vs : List ClaimedStructure). vs ++ v ∷ []) same), same_front seen)
set_front (list ∷ seen) (suc k) versions v e = (([], append-nil list), set_front seen k versions v e)

-- each list of what was seen begins that of what is seen
pub grown_front : (seen : Seen) (finder : ℕ) (v : ClaimedStructure) → IsFrontOf (grown seen finder v) seen
grown_front seen finder v = by (numbered seen finder) refl
  where
    grown_by : Option (List ClaimedStructure) → Seen
    grown_by o = elim o [ None ↦ seen | Some versions ↦ with_element seen finder (versions ++ v ∷ []) ]

    set_there : (n : ℕ) (versions : List ClaimedStructure) → numbered seen n ≡ Some versions → IsFrontOf (with_element seen n (versions ++ v ∷ [])) seen
    set_there zero versions e = absurd (let bad : ◌≡◌ {A = Option (List ClaimedStructure)} None (Some versions) = e in cc)
    set_there (suc i) versions e =
        let same : i ≡ suc i - 1 = omega arith in
        subst (λ (k : ℕ). IsFrontOf (slice_set seen k (versions ++ v ∷ [])) seen) same (set_front seen i versions v (sym (numbered-suc seen i) ∙ e))

    by : (o : Option (List ClaimedStructure)) → numbered seen finder ≡ o → IsFrontOf (grown seen finder v) seen
    by None e = subst (λ (o : Option (List ClaimedStructure)). IsFrontOf (grown_by o) seen) (sym e) (same_front seen)
    by (Some versions) e = subst (λ (o : Option (List ClaimedStructure)). IsFrontOf (grown_by o) seen) (sym e) (set_there finder versions e)

-- as many lists are seen
pub as_many : (seen other : Seen) → IsFrontOf other seen → length other ≡ length seen
as_many [] [] f = refl
as_many [] (more ∷ other) f = absurd f
as_many (list ∷ seen) [] f = absurd f
as_many (list ∷ seen) (more ∷ other) f = let rest = as_many seen other f.1 in omega (arith, rest)

-- ---- names

module _ (place : ℕ) (v : ClaimedStructure) where
  abbrev Has : List ClaimedStructure → Type 0
  Has list = slice_get list place ≡ Some v

  at_index : (seen other : Seen) → IsFrontOf other seen → (i : ℕ) → IsSomeAnd (slice_get seen i) Has → IsSomeAnd (slice_get other i) Has
  at_index [] other f zero k = absurd k
  at_index [] other f (suc i) k = absurd k
  at_index (list ∷ seen) [] f i k = absurd f
  at_index (list ∷ seen) (more ∷ other) f zero k = subst Has f.0.1 (in_whole list f.0.0 place v k)
  at_index (list ∷ seen) (more ∷ other) f (suc i) k = at_index seen other f.1 i k

  at_number : (seen other : Seen) → IsFrontOf other seen → (n : ℕ) → IsSomeAnd (numbered seen n) Has → IsSomeAnd (numbered other n) Has
  at_number seen other f zero k = absurd k
  at_number seen other f (suc i) k =
      subst (λ o. IsSomeAnd o Has) (sym (numbered-suc other i)) (at_index seen other f i (subst (λ o. IsSomeAnd o Has) (numbered-suc seen i) k))

module _ (problem : Stated) where
  -- a version that stood at its name stands there
  pub still_named : (seen other : Seen) → IsFrontOf other seen → (name : VersionName) (v : ClaimedStructure) → IsNamed problem seen name v → IsNamed problem other name v
  still_named seen other f name v (inl h) = inl h
  still_named seen other f name v (inr h) = inr (at_number name.place v seen other f name.finder h)

  module _ (seen : Seen) where
    same_version : (name : VersionName) (v w : ClaimedStructure) → IsAt seen name v → IsAt seen name w → v ≡ w
    same_version name v w h k =
        let both = some_both (numbered seen name.finder) _ _ h k in
        same_some (slice_get both.0 name.place) v w both.1 both.2

    none_there : (name : VersionName) (v : ClaimedStructure) → name ≡ opening_name → ¬ IsAt seen name v
    none_there name v e h = subst (λ (n : VersionName). IsAt seen n v) e h

    -- a name means one version
    pub named_one : (name : VersionName) (v w : ClaimedStructure) → IsNamed problem seen name v → IsNamed problem seen name w → v ≡ w
    named_one name v w (inl h) (inl k) = h.1 ∙ sym k.1
    named_one name v w (inl h) (inr k) = absurd (none_there name w h.0 k)
    named_one name v w (inr h) (inl k) = absurd (none_there name v k.0 h)
    named_one name v w (inr h) (inr k) = same_version name v w h k

    -- the guide is named
    pub guide_named : (name : VersionName) (v : ClaimedStructure) → IsGuide problem seen name v → IsNamed problem seen name v
    guide_named name v (inl h) = inl h.1
    guide_named name v (inr h) = inr h.1.0

    -- ---- the guide is one

    pub one_name : (name other : VersionName) (v w : ClaimedStructure) → IsGuide problem seen name v → IsGuide problem seen other w → name ≡ other
    one_name name other v w h k = (guide_one problem seen name other v w h k).0

    pub one_guide : (name other : VersionName) (v w : ClaimedStructure) → IsGuide problem seen name v → IsGuide problem seen other w → v ≡ w
    one_guide name other v w h k = (guide_one problem seen name other v w h k).1
