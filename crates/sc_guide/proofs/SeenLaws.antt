-- The versions that are seen, by their names, after one more joined a list.
use Rattle.std.proofs.Common.{◌≡◌, ◌≢◌, ◌∙◌, sym, ap, subst, ℕ, ◌-◌, ◌<◌, ◌^◌, ◌⊎◌, inl, inr, List, [], ◌∷◌, ◌++◌, length, slice_get, get_or, Option, Some, None, arith}
use Rattle.std.specs.Option.{IsSomeAnd}
use Rattle.std.specs.List.{All}
use Rattle.std.proofs.lemmas.List.{length-append}
use Rattle.std.proofs.lemmas.List.Elements.{All-set}
use Rattle.std.proofs.lemmas.Option.{slice_get_within, get_or_from_slice_get}
use Rattle.sc_term.specs.Numbering.{numbered, with_element}
use Rattle.sc_interp.specs.declared.plain.VersionName.{VersionName}
use Rattle.sc_interp.specs.Versions.{ClaimedStructure}
use Rattle.sc_core_rules.specs.Selection.{Seen, IsAt, opening_name}
use Rattle.sc_core_rules.proofs.DerivationLaws.{compared}
use Rattle.sc_guide.specs.Guided.{grown, version_named, IsNamed, AreCounted}
use Rattle.sc_guide.proofs.ListLaws.{none_is_not, there, is_some_and, numbered_some, numbered_same, numbered_other, before_or_last, still_there, last_there}

-- the name of the next version of a finder that has so many
abbrev pub next_of : ℕ → List ClaimedStructure → VersionName
next_of finder versions = record { finder = finder; place = length versions }

-- ---- what a name means

pub at_parts : (seen : Seen) (name : VersionName) (v : ClaimedStructure) → IsAt seen name v
    → (versions : List ClaimedStructure) × (numbered seen name.finder ≡ Some versions) × (slice_get versions name.place ≡ Some v)
at_parts seen name v h = there (λ (versions : List ClaimedStructure). slice_get versions name.place ≡ Some v) (numbered seen name.finder) h

pub at_whole : (seen : Seen) (name : VersionName) (v : ClaimedStructure) (versions : List ClaimedStructure) → numbered seen name.finder ≡ Some versions → slice_get versions name.place ≡ Some v → IsAt seen name v
at_whole seen name v versions e h = is_some_and (λ (vs : List ClaimedStructure). slice_get vs name.place ≡ Some v) (numbered seen name.finder) versions e h

pub named_at : (first : ClaimedStructure) (seen : Seen) (name : VersionName) (v : ClaimedStructure) → IsAt seen name v → version_named first seen name ≡ v
named_at first seen name v h =
    let is = at_parts seen name v h in
    ap (λ (o : Option (List ClaimedStructure)). elim o [ None ↦ first | Some versions ↦ get_or versions name.place first ]) is.1
    ∙ get_or_from_slice_get is.0 name.place v first is.2

pub opening_not_seen : (seen : Seen) (name : VersionName) (v : ClaimedStructure) → name ≡ opening_name → ¬ IsAt seen name v
opening_not_seen seen name v e h =
    let is = at_parts seen name v h in
    let more = numbered_some seen name.finder is.0 is.1 in
    let none : name.finder ≡ 0 = ap (λ (n : VersionName). n.finder) e in
    omega (arith, more.0, none)

pub not_all_empty : (seen : Seen) (name : VersionName) (v : ClaimedStructure) → IsAt seen name v → ¬ All (λ (versions : List ClaimedStructure). versions ≡ []) seen
not_all_empty seen name v h empty =
    let is = at_parts seen name v h in
    let get = (numbered_some seen name.finder is.0 is.1).1 in
    let within = slice_get_within seen (name.finder - 1) is.0 get in
    let none : is.0 ≡ [] = sym (get_or_from_slice_get seen (name.finder - 1) is.0 is.0 get) ∙ empty (name.finder - 1) is.0 within in
    none_is_not v (subst (λ (versions : List ClaimedStructure). slice_get versions name.place ≡ Some v) none is.2)

-- where the version of a name stands that isn't the opening one
pub place_there : (first : ClaimedStructure) (seen : Seen) (name : VersionName) → IsNamed first seen name → name.finder ≢ 0
    → (versions : List ClaimedStructure) × (slice_get seen (name.finder - 1) ≡ Some versions) × (slice_get versions name.place ≡ Some (version_named first seen name))
place_there first seen name (inl e) ne = absurd (ne (ap (λ (n : VersionName). n.finder) e))
place_there first seen name (inr h) ne =
    let is = at_parts seen name (version_named first seen name) h in
    (is.0, (numbered_some seen name.finder is.0 is.1).1, is.2)

-- ---- one more version

pub grown_is : (seen : Seen) (finder : ℕ) (w : ClaimedStructure) (versions : List ClaimedStructure) → numbered seen finder ≡ Some versions → grown seen finder w ≡ with_element seen finder (versions ++ w ∷ [])
grown_is seen finder w versions e =
    ap (λ (o : Option (List ClaimedStructure)). elim o [ None ↦ seen | Some vs ↦ with_element seen finder (vs ++ w ∷ []) ]) e

grown_same : (seen : Seen) (finder : ℕ) (w : ClaimedStructure) (versions : List ClaimedStructure) → numbered seen finder ≡ Some versions → numbered (grown seen finder w) finder ≡ Some (versions ++ w ∷ [])
grown_same seen finder w versions e =
    ap (λ (s : Seen). numbered s finder) (grown_is seen finder w versions e) ∙ numbered_same seen finder (versions ++ w ∷ []) versions e

grown_other : (seen : Seen) (finder other : ℕ) (w : ClaimedStructure) (versions : List ClaimedStructure) → numbered seen finder ≡ Some versions → other ≢ finder
    → numbered (grown seen finder w) other ≡ numbered seen other
grown_other seen finder other w versions e ne =
    ap (λ (s : Seen). numbered s other) (grown_is seen finder w versions e)
    ∙ numbered_other seen finder other (versions ++ w ∷ []) (numbered_some seen finder versions e).0 ne

pub new_at : (seen : Seen) (finder : ℕ) (w : ClaimedStructure) (versions : List ClaimedStructure) → numbered seen finder ≡ Some versions → IsAt (grown seen finder w) (next_of finder versions) w
new_at seen finder w versions e =
    at_whole (grown seen finder w) (next_of finder versions) w (versions ++ w ∷ []) (grown_same seen finder w versions e) (last_there versions w)

pub still_at : (seen : Seen) (finder : ℕ) (w : ClaimedStructure) (versions : List ClaimedStructure) (name : VersionName) (v : ClaimedStructure) → numbered seen finder ≡ Some versions
    → IsAt seen name v → IsAt (grown seen finder w) name v
still_at seen finder w versions name v e h = by (compared name.finder finder)
  where
    is : (vs : List ClaimedStructure) × (numbered seen name.finder ≡ Some vs) × (slice_get vs name.place ≡ Some v)
    is = at_parts seen name v h

    other : name.finder ≢ finder → IsAt (grown seen finder w) name v
    other ne = at_whole (grown seen finder w) name v is.0 (grown_other seen finder name.finder w versions e ne ∙ is.1) is.2

    by : (name.finder < finder) ⊎ (name.finder ≡ finder) ⊎ (finder < name.finder) → IsAt (grown seen finder w) name v
    by (inl less) = other (λ same. omega (arith, same, less))
    by (inr (inr less)) = other (λ same. omega (arith, same, less))
    by (inr (inl same)) =
        let here : numbered seen name.finder ≡ Some versions = ap (numbered seen) same ∙ e in
        let get = subst (λ (o : Option (List ClaimedStructure)). IsSomeAnd o (λ (vs : List ClaimedStructure). slice_get vs name.place ≡ Some v)) here h in
        at_whole (grown seen finder w) name v (versions ++ w ∷ []) (ap (numbered (grown seen finder w)) same ∙ grown_same seen finder w versions e)
        (still_there versions (w ∷ []) v name.place get)

pub at_grown : (seen : Seen) (finder : ℕ) (w : ClaimedStructure) (versions : List ClaimedStructure) (name : VersionName) (v : ClaimedStructure) → numbered seen finder ≡ Some versions
    → IsAt (grown seen finder w) name v → IsAt seen name v ⊎ ((name ≡ next_of finder versions) × (v ≡ w))
at_grown seen finder w versions name v e h = by (compared name.finder finder)
  where
    other : name.finder ≢ finder → IsAt seen name v
    other ne =
        subst (λ (o : Option (List ClaimedStructure)). IsSomeAnd o (λ (vs : List ClaimedStructure). slice_get vs name.place ≡ Some v)) (grown_other seen finder name.finder w versions e ne) h

    here : name.finder ≡ finder → (slice_get versions name.place ≡ Some v) ⊎ ((name.place ≡ length versions) × (w ≡ v)) → IsAt seen name v ⊎ ((name ≡ next_of finder versions) × (v ≡ w))
    here same (inl get) = inl (at_whole seen name v versions (ap (numbered seen) same ∙ e) get)
    here same (inr last) = inr (λ i. record { finder = same i; place = last.0 i }, sym last.1)

    by : (name.finder < finder) ⊎ (name.finder ≡ finder) ⊎ (finder < name.finder) → IsAt seen name v ⊎ ((name ≡ next_of finder versions) × (v ≡ w))
    by (inl less) = inl (other (λ same. omega (arith, same, less)))
    by (inr (inr less)) = inl (other (λ same. omega (arith, same, less)))
    by (inr (inl same)) =
        let is : numbered (grown seen finder w) name.finder ≡ Some (versions ++ w ∷ []) = ap (numbered (grown seen finder w)) same ∙ grown_same seen finder w versions e in
        here same
        (before_or_last versions w v name.place
        (subst (λ (o : Option (List ClaimedStructure)). IsSomeAnd o (λ (vs : List ClaimedStructure). slice_get vs name.place ≡ Some v)) is h))

pub counted_grown : (seen : Seen) (finder : ℕ) (w : ClaimedStructure) (versions : List ClaimedStructure) → numbered seen finder ≡ Some versions → length versions < 2 ^ 31 → AreCounted seen → AreCounted (grown seen finder w)
counted_grown seen finder w versions e few counted =
    let short : length (versions ++ w ∷ []) < 2 ^ 32 = let more = length-append versions (w ∷ []) in omega (arith, more, few) in
    subst AreCounted (sym (grown_is seen finder w versions e))
    (All-set (λ (vs : List ClaimedStructure). length vs < 2 ^ 32) seen (finder - 1) (versions ++ w ∷ []) short counted)
