-- The guide after one more version is the old guide, or that version where it is better.
use Rattle.std.proofs.Common.{◌≡◌, ◌∙◌, sym, subst, refl, ℕ, ◌-◌, ◌<◌, ◌≤◌, ◌^◌, ◌⊎◌, inl, inr, List, [], length, replicate, slice_get, Option, Some, arith}
use Rattle.std.specs.Option.{IsSomeAnd}
use Rattle.std.proofs.lemmas.List.Elements.{All-replicate}
use Rattle.sc_term.specs.Numbering.{numbered}
use Rattle.sc_input_rules.specs.Problem.{Stated}
use Rattle.sc_interp.specs.declared.plain.VersionName.{VersionName}
use Rattle.sc_interp.specs.Versions.{ClaimedStructure}
use Rattle.sc_core_rules.specs.Order.{Where, IsBefore}
use Rattle.sc_core_rules.specs.Selection.{Seen, IsAt, IsBetter, IsGuide, opening_name, score}
use Rattle.sc_core_rules.proofs.OrderLaws.{not_before_itself, before_over}
use Rattle.sc_guide.specs.Guided.{grown, version_named, IsNamed, IsKept}
use Rattle.sc_guide.proofs.ListLaws.{numbered_at}
use Rattle.sc_guide.proofs.SeenLaws.{next_of, named_at, opening_not_seen, not_all_empty, new_at, still_at, at_grown, counted_grown}

-- ---- the order

better_over : (n m k : VersionName) (x y z : ClaimedStructure) → IsBetter n x m y → IsBetter m y k z → IsBetter n x k z
better_over n m k x y z (inl a) (inl b) = inl (before_over (score z) (score y) (score x) b a)
better_over n m k x y z (inl a) (inr b) = inl (subst (λ s. IsBefore s (score x)) b.0 a)
better_over n m k x y z (inr a) (inl b) = inl (subst (IsBefore (score z)) (sym a.0) b)
better_over n m k x y z (inr (e, inl f)) (inr (g, inl h)) = inr (e ∙ g, inl (omega (arith, f, h)))
better_over n m k x y z (inr (e, inl f)) (inr (g, inr h)) = inr (e ∙ g, inl (omega (arith, f, h.0)))
better_over n m k x y z (inr (e, inr f)) (inr (g, inl h)) = inr (e ∙ g, inl (omega (arith, f.0, h)))
better_over n m k x y z (inr (e, inr f)) (inr (g, inr h)) = inr (e ∙ g, inr (f.0 ∙ h.0, omega (arith, f.1, h.1)))

not_better : (n : VersionName) (x : ClaimedStructure) → ¬ IsBetter n x n x
not_better n x (inl less) = not_before_itself (score x) less
not_better n x (inr (e, inl less)) = omega (arith, less)
not_better n x (inr (e, inr f)) = omega (arith, f.1)

-- ---- one more version

-- where no version was seen, or the new one is better than the guide, it becomes the guide
pub becomes_guide : (problem : Stated) (seen : Seen) (finder : ℕ) (w : ClaimedStructure) (versions : List ClaimedStructure) (name : VersionName) (v : ClaimedStructure) → numbered seen finder ≡ Some versions
    → (name ≡ opening_name) ⊎ IsBetter (next_of finder versions) w name v → IsGuide problem seen name v → IsGuide problem (grown seen finder w) (next_of finder versions) w
becomes_guide problem seen finder w versions name v e better guide = inr (not_all_empty (grown seen finder w) new w here, (here, none_better))
  where
    new : VersionName
    new = next_of finder versions

    here : IsAt (grown seen finder w) (next_of finder versions) w
    here = new_at seen finder w versions e

    old : (other : VersionName) (x : ClaimedStructure) → IsAt seen other x → IsBetter other x (next_of finder versions) w
        → (name ≡ opening_name) ⊎ IsBetter (next_of finder versions) w name v → IsGuide problem seen name v → ⊥
    old other x h over which (inl (empty, is)) = not_all_empty seen other x h empty
    old other x h over (inl e) (inr (some, (is_at, best))) = opening_not_seen seen name v e is_at
    old other x h over (inr more) (inr (some, (is_at, best))) = best other x h (better_over other (next_of finder versions) name x w v over more)

    none_better : (other : VersionName) (x : ClaimedStructure) → IsAt (grown seen finder w) other x → ¬ IsBetter other x (next_of finder versions) w
    none_better other x h over = by (at_grown seen finder w versions other x e h)
      where
        by : IsAt seen other x ⊎ ((other ≡ next_of finder versions) × (x ≡ w)) → ⊥
        by (inl k) = old other x k over better guide
        by (inr (name_is, version_is)) =
            not_better (next_of finder versions) w
            (subst (λ (y : ClaimedStructure). IsBetter (next_of finder versions) y (next_of finder versions) w) version_is
            (subst (λ (n : VersionName). IsBetter n x (next_of finder versions) w) name_is over))

-- where one was seen and the new one isn't better, the guide stays
pub stays_guide : (problem : Stated) (seen : Seen) (finder : ℕ) (w : ClaimedStructure) (versions : List ClaimedStructure) (name : VersionName) (v : ClaimedStructure) → numbered seen finder ≡ Some versions
    → ¬ ((name ≡ opening_name) ⊎ IsBetter (next_of finder versions) w name v) → IsGuide problem seen name v → IsGuide problem (grown seen finder w) name v
stays_guide problem seen finder w versions name v e worse (inl (empty, is)) = absurd (worse (inl is.0))
stays_guide problem seen finder w versions name v e worse (inr (some, (is_at, best))) = inr (not_all_empty (grown seen finder w) name v here, (here, none_better))
  where
    here : IsAt (grown seen finder w) name v
    here = still_at seen finder w versions name v e is_at

    none_better : (other : VersionName) (x : ClaimedStructure) → IsAt (grown seen finder w) other x → ¬ IsBetter other x name v
    none_better other x h over = by (at_grown seen finder w versions other x e h)
      where
        by : IsAt seen other x ⊎ ((other ≡ next_of finder versions) × (x ≡ w)) → ⊥
        by (inl k) = best other x k over
        by (inr (name_is, version_is)) =
            worse
            (inr
            (subst (λ (y : ClaimedStructure). IsBetter (next_of finder versions) y name v) version_is
            (subst (λ (n : VersionName). IsBetter n x name v) name_is over)))

-- ---- what a guide keeps

pub nothing_kept : (first : ClaimedStructure) (finders : ℕ) → IsKept first (replicate finders []) opening_name
nothing_kept first finders = record {
  named = inl refl;
  guide = λ problem e. inl (All-replicate (λ (versions : List ClaimedStructure). versions ≡ []) finders [] refl, (refl, sym e));
  counted = All-replicate (λ (versions : List ClaimedStructure). length versions < 2 ^ 32) finders [] (omega arith);
}

becomes_kept : (first : ClaimedStructure) (seen : Seen) (finder : ℕ) (w : ClaimedStructure) (versions : List ClaimedStructure) (name : VersionName) → numbered seen finder ≡ Some versions → length versions < 2 ^ 31
    → IsKept first seen name → (name ≡ opening_name) ⊎ IsBetter (next_of finder versions) w name (version_named first seen name) → IsKept first (grown seen finder w) (next_of finder versions)
becomes_kept first seen finder w versions name e few kept better =
    let here = new_at seen finder w versions e in
    let is = sym (named_at first (grown seen finder w) (next_of finder versions) w here) in
    record {
      named = inr (subst (IsAt (grown seen finder w) (next_of finder versions)) is here);
      guide = λ problem first_is. subst (IsGuide problem (grown seen finder w) (next_of finder versions)) is
          (becomes_guide problem seen finder w versions name (version_named first seen name) e better (kept.guide problem first_is));
      counted = counted_grown seen finder w versions e few kept.counted;
    }

stays_kept : (first : ClaimedStructure) (seen : Seen) (finder : ℕ) (w : ClaimedStructure) (versions : List ClaimedStructure) (name : VersionName) → numbered seen finder ≡ Some versions → length versions < 2 ^ 31
    → IsKept first seen name → ¬ ((name ≡ opening_name) ⊎ IsBetter (next_of finder versions) w name (version_named first seen name)) → IsKept first (grown seen finder w) name
stays_kept first seen finder w versions name e few kept worse = by kept.named
  where
    by : IsNamed first seen name → IsKept first (grown seen finder w) name
    by (inl is) = absurd (worse (inl is))
    by (inr h) =
        let here = still_at seen finder w versions name (version_named first seen name) e h in
        let is = sym (named_at first (grown seen finder w) name (version_named first seen name) here) in
        record {
          named = inr (subst (IsAt (grown seen finder w) name) is here);
          guide = λ problem first_is. subst (IsGuide problem (grown seen finder w) name) is
              (stays_guide problem seen finder w versions name (version_named first seen name) e worse (kept.guide problem first_is));
          counted = counted_grown seen finder w versions e few kept.counted;
        }

pub next_kept : (first : ClaimedStructure) (seen after : Seen) (finder : ℕ) (w : ClaimedStructure) (versions : List ClaimedStructure) (name new next : VersionName)
    → numbered seen finder ≡ Some versions → length versions < 2 ^ 31 → new ≡ next_of finder versions → after ≡ grown seen finder w → IsKept first seen name
    → Where ((name ≡ opening_name) ⊎ IsBetter new w name (version_named first seen name)) (next ≡ new) (next ≡ name) → IsKept first after next
next_kept first seen after finder w versions name new next e few new_is after_is kept which =
    subst (λ (s : Seen). IsKept first s next) (sym after_is)
    (by (subst (λ (n : VersionName). Where ((name ≡ opening_name) ⊎ IsBetter n w name (version_named first seen name)) (next ≡ n) (next ≡ name)) new_is which))
  where
    by : Where ((name ≡ opening_name) ⊎ IsBetter (next_of finder versions) w name (version_named first seen name)) (next ≡ next_of finder versions) (next ≡ name) → IsKept first (grown seen finder w) next
    by (inl (better, is)) = subst (IsKept first (grown seen finder w)) (sym is) (becomes_kept first seen finder w versions name e few kept better)
    by (inr (worse, is)) = subst (IsKept first (grown seen finder w)) (sym is) (stays_kept first seen finder w versions name e few kept worse)

-- the same, as the code knows it: the list of the finder by its place, and the new version's place by its length
pub added_kept : (first : ClaimedStructure) (seen shown after : Seen) (finder place : ℕ) (w : ClaimedStructure) (versions : List ClaimedStructure) (name next : VersionName)
    → 1 ≤ finder → slice_get seen (finder - 1) ≡ Some versions → IsSomeAnd (numbered seen finder) (λ (vs : List ClaimedStructure). length vs < 2 ^ 31) → place ≡ length versions
    → shown ≡ seen → after ≡ grown seen finder w → IsKept first seen name
    → Where ((name ≡ opening_name) ⊎ IsBetter (record { finder = finder; place = place }) w name (version_named first shown name)) (next ≡ record { finder = finder; place = place }) (next ≡ name)
    → IsKept first after next
added_kept first seen shown after finder place w versions name next some get few place_is shown_is after_is kept which =
    let e : numbered seen finder ≡ Some versions = numbered_at seen finder (omega (arith, some)) ∙ get in
    let short : length versions < 2 ^ 31 = subst (λ (o : Option (List ClaimedStructure)). IsSomeAnd o (λ (vs : List ClaimedStructure). length vs < 2 ^ 31)) e few in
    next_kept first seen after finder w versions name (record { finder = finder; place = place }) next e short (λ i. record { finder = finder; place = place_is i }) after_is kept
    (subst
    (λ (s : Seen). Where ((name ≡ opening_name) ⊎ IsBetter (record { finder = finder; place = place }) w name (version_named first s name)) (next ≡ record { finder = finder; place = place }) (next ≡ name))
    shown_is which)
