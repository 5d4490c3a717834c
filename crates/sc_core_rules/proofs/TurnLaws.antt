-- A turn goes in one way, and keeps a book sound.
use Rattle.std.proofs.Common.{◌≡◌, ◌∙◌, sym, subst, refl, ℕ, ◌+◌, ◌<◌, ◌⊎◌, inl, inr, List, [], ◌∷◌, ◌++◌, length, map, arith, slice_get, not, nat_eq}
use Rattle.std.specs.List.{Contains, list_any}
use Rattle.sc_term.specs.Numbering.{numbered}
use Rattle.sc_input_rules.specs.Problem.{Stated}
use Rattle.sc_term.specs.declared.Numbered.{Numbered}
use Rattle.sc_interp.specs.Versions.{ClaimedStructure}
use Rattle.sc_interp.specs.Structure.{Structure}
use Rattle.sc_interp.specs.declared.plain.VersionName.{VersionName}
use Rattle.sc_interp.specs.declared.plain.Truth.{Truth}
use Rattle.sc_interp.specs.declared.plain.Truth.TheVariants as truth
use Rattle.sc_core_rules.specs.declared.row.Cause.{Cause}
use Rattle.sc_term.specs.declared.Clause.{Clause}
use Rattle.sc_core_rules.specs.Order.{IsBefore, IsLeast}
use Rattle.sc_core_rules.specs.Book.{Book, IsSound, live, leaving_out, weight_in}
use Rattle.sc_interp.specs.Marks.{IsMark}
use Rattle.sc_core_rules.specs.Selection.{Seen, IsAt, IsBetter, IsGuide, IsAny, IsFalse, Selects, by_weight, score}
use Rattle.sc_core_rules.specs.Sites.{Site, AreSites}
use Rattle.sc_core_rules.specs.WorkList.{At, Works}
use Rattle.sc_core_rules.specs.Turn.{Run, Infer, Turns, IsPassedOver, with_given, outcome_of, goal_of}
use Rattle.sc_term.proofs.ContainsLaws.{first_or_later}
use Rattle.sc_core_rules.proofs.FilterLaws.{in_either, in_first, in_second}
use Rattle.sc_core_rules.proofs.StepLaws.{some_both, same_some}
use Rattle.sc_core_rules.proofs.DerivationLaws.{compared}
use Rattle.sc_core_rules.proofs.OrderLaws.{one_before}
use Rattle.sc_core_rules.proofs.SimplifyLaws.{NumbersTell, least_one}
use Rattle.sc_core_rules.proofs.ProcessLaws.{where_case, live_tell}
use Rattle.sc_core_rules.proofs.SoundLaws.{still_sound, filter_sub}
use Rattle.sc_core_rules.proofs.SoundProcessing.{where_either}
use Rattle.sc_core_rules.proofs.WorkLaws.{works_one, works_sound}
use Rattle.sc_core_rules.proofs.OneMeant.{sites_are_one}

-- ---- the guide

better_total : (name other : VersionName) (v w : ClaimedStructure) → IsBetter name v other w ⊎ (name ≡ other) ⊎ IsBetter other w name v
better_total name other v w = by (one_before (score v) (score w)) (compared name.finder other.finder) (compared name.place other.place)
  where
    by : IsBefore (score v) (score w) ⊎ (score v ≡ score w) ⊎ IsBefore (score w) (score v) → (name.finder < other.finder) ⊎ (name.finder ≡ other.finder) ⊎ (other.finder < name.finder)
        → (name.place < other.place) ⊎ (name.place ≡ other.place) ⊎ (other.place < name.place) → IsBetter name v other w ⊎ (name ≡ other) ⊎ IsBetter other w name v
    by (inl less) f p = inr (inr (inl less))
    by (inr (inr less)) f p = inl (inl less)
    by (inr (inl e)) (inl less) p = inl (inr (e, inl less))
    by (inr (inl e)) (inr (inr less)) p = inr (inr (inr (sym e, inl less)))
    by (inr (inl e)) (inr (inl f)) (inl less) = inr (inr (inr (sym e, inr (sym f, less))))
    by (inr (inl e)) (inr (inl f)) (inr (inr less)) = inl (inr (e, inr (f, less)))
    by (inr (inl e)) (inr (inl f)) (inr (inl g)) = inr (inl (λ i. record { finder = f i; place = g i }))

best_name : (seen : Seen) (name other : VersionName) (v w : ClaimedStructure) → IsAt seen name v → IsAt seen other w
    → ((n : VersionName) (x : ClaimedStructure) → IsAt seen n x → ¬ IsBetter n x name v) → ((n : VersionName) (x : ClaimedStructure) → IsAt seen n x → ¬ IsBetter n x other w) → name ≡ other
best_name seen name other v w h k none_name none_other = by (better_total name other v w)
  where
    by : IsBetter name v other w ⊎ (name ≡ other) ⊎ IsBetter other w name v → name ≡ other
    by (inl less) = absurd (none_other name v h less)
    by (inr (inl e)) = e
    by (inr (inr less)) = absurd (none_name other w k less)

same_version : (seen : Seen) (name : VersionName) (v w : ClaimedStructure) → IsAt seen name v → IsAt seen name w → v ≡ w
same_version seen name v w h k =
    let both = some_both (numbered seen name.finder) _ _ h k in
    same_some (slice_get both.0 name.place) v w both.1 both.2

-- of the versions that are seen one is the guide
pub guide_one : (problem : Stated) (seen : Seen) (name other : VersionName) (v w : ClaimedStructure) → IsGuide problem seen name v → IsGuide problem seen other w → (name ≡ other) × (v ≡ w)
guide_one problem seen name other v w = where_case (λ h k. (h.0 ∙ sym k.0, h.1 ∙ sym k.1))
    (λ h k.
    let e : name ≡ other = best_name seen name other v w h.0 k.0 h.1 k.1 in
    (e, same_version seen other v w (subst (λ (n : VersionName). IsAt seen n v) e h.0) k.0))

-- ---- the selection

lightest_one : (problem : Stated) (P : Numbered → Type 0) (ps : List Numbered) (x y : Numbered) → NumbersTell ps → IsLeast (by_weight problem) P ps x → IsLeast (by_weight problem) P ps y → x ≡ y
lightest_one problem P ps x y tell h k = tell x y h.listed k.listed (by (compared (weight_in problem x.clause) (weight_in problem y.clause)) (compared x.number y.number))
  where
    by : (weight_in problem x.clause < weight_in problem y.clause) ⊎ (weight_in problem x.clause ≡ weight_in problem y.clause) ⊎ (weight_in problem y.clause < weight_in problem x.clause)
        → (x.number < y.number) ⊎ (x.number ≡ y.number) ⊎ (y.number < x.number) → x.number ≡ y.number
    by (inl less) n = absurd (k.least x h.listed h.holds (inl less))
    by (inr (inr less)) n = absurd (h.least y k.listed k.holds (inl less))
    by (inr (inl e)) (inl less) = absurd (k.least x h.listed h.holds (inr (e, inl less)))
    by (inr (inl e)) (inr (inr less)) = absurd (h.least y k.listed k.holds (inr (sym e, inl less)))
    by (inr (inl e)) (inr (inl f)) = f

selects_one : (problem : Stated) (sos : List Numbered) (t : ℕ) (name : VersionName) (v : ClaimedStructure) (p q : Numbered) (c d : Cause) → NumbersTell sos
    → Selects problem sos t name v p c → Selects problem sos t name v q d → (p ≡ q) × (c ≡ d)
selects_one problem sos t name v p q c d tell =
    where_case (λ h k. (least_one IsAny sos p q tell h.1 k.1, h.0 ∙ sym k.0))
    (where_case (λ h k. (lightest_one problem (IsFalse v) sos p q tell h.1 k.1, h.0 ∙ sym k.0))
    (λ h k. (lightest_one problem IsAny sos p q tell h.1 k.1, h.0 ∙ sym k.0)))

mark_one : (t : Structure) (c : Clause) (x y : Truth) → IsMark t c x → IsMark t c y → x ≡ y
mark_one t c truth.True truth.True h k = refl
mark_one t c truth.True truth.False h k = absurd (k.1 h.1)
mark_one t c truth.True truth.Wide h k = absurd (omega (arith, h.0, k))
mark_one t c truth.False truth.True h k = absurd (h.1 k.1)
mark_one t c truth.False truth.False h k = refl
mark_one t c truth.False truth.Wide h k = absurd (omega (arith, h.0, k))
mark_one t c truth.Wide truth.True h k = absurd (omega (arith, k.0, h))
mark_one t c truth.Wide truth.False h k = absurd (omega (arith, k.0, h))
mark_one t c truth.Wide truth.Wide h k = refl

-- ---- the given clause moves

pub given_sound : (problem : Stated) (book : Book) (p : Numbered) → Contains book.sos p → IsSound problem book → IsSound problem (with_given book p)
given_sound problem book p there sound = still_sound problem book (with_given book p) sound (λ q h. h) (λ q h. inl (from q (in_either q (live (with_given book p)) book.demods h))) (λ d h. inl h)
  where
    in_sos : (q : Numbered) → Contains book.sos q → Contains (live book ++ book.demods) q
    in_sos q k = in_first q (live book) book.demods (in_first q (book.usable ++ book.sos) book.passive (in_second q book.usable book.sos k))

    last : (q : Numbered) → (p ≡ q) ⊎ Contains [] q → Contains (live book ++ book.demods) q
    last q (inl e) = in_sos q (subst (Contains book.sos) e there)
    last q (inr k) = absurd (omega (arith, k.1))

    one : (q : Numbered) → Contains book.usable q ⊎ Contains (p ∷ []) q → Contains (live book ++ book.demods) q
    one q (inl k) = in_first q (live book) book.demods (in_first q (book.usable ++ book.sos) book.passive (in_first q book.usable book.sos k))
    one q (inr k) = last q (first_or_later q p [] k)

    two : (q : Numbered) → Contains (book.usable ++ p ∷ []) q ⊎ Contains (leaving_out (p ∷ []) book.sos) q → Contains (live book ++ book.demods) q
    two q (inl k) = one q (in_either q book.usable (p ∷ []) k)
    two q (inr k) = in_sos q (filter_sub (λ (r : Numbered). not (list_any (λ (g : Numbered). nat_eq r.number g.number) (p ∷ []))) q book.sos k)

    three : (q : Numbered) → Contains ((book.usable ++ p ∷ []) ++ leaving_out (p ∷ []) book.sos) q ⊎ Contains book.passive q → Contains (live book ++ book.demods) q
    three q (inl k) = two q (in_either q (book.usable ++ p ∷ []) (leaving_out (p ∷ []) book.sos) k)
    three q (inr k) = in_first q (live book) book.demods (in_second q (book.usable ++ book.sos) book.passive k)

    from : (q : Numbered) → Contains (live (with_given book p)) q ⊎ Contains book.demods q → Contains (live book ++ book.demods) q
    from q (inl k) = three q (in_either q ((book.usable ++ p ∷ []) ++ leaving_out (p ∷ []) book.sos) book.passive k)
    from q (inr k) = in_second q (live book) book.demods k

-- ---- a turn

pub selected_there : (problem : Stated) (sos : List Numbered) (t : ℕ) (name : VersionName) (v : ClaimedStructure) (p : Numbered) (c : Cause) → Selects problem sos t name v p c → Contains sos p
selected_there problem sos t name v p c = where_either (λ h. h.1.listed) (where_either (λ h. h.1.listed) (λ h. h.1.listed))

sos_tell : (problem : Stated) (book : Book) → IsSound problem book → NumbersTell book.sos
sos_tell problem book sound x y h k e = live_tell problem book sound x y (in_sos x h) (in_sos y k) e
  where
    in_sos : (q : Numbered) → Contains book.sos q → Contains (live book) q
    in_sos q k = in_first q (book.usable ++ book.sos) book.passive (in_second q book.usable book.sos k)

pub usable_tell : (problem : Stated) (book : Book) → IsSound problem book → NumbersTell book.usable
usable_tell problem book sound x y h k e = live_tell problem book sound x y (in_usable x h) (in_usable y k) e
  where
    in_usable : (q : Numbered) → Contains book.usable q → Contains (live book) q
    in_usable q k = in_first q (book.usable ++ book.sos) book.passive (in_first q book.usable book.sos k)

infer_one : (problem : Stated) (turn : ℕ) (old : Run) (seen : Seen) (new other : Run) → IsSound problem old.book → Infer problem turn old seen new → Infer problem turn old seen other → new ≡ other
infer_one problem turn old seen new other sound h k =
    let guide = guide_one problem seen h.name k.name h.guide k.guide h.guides k.guides in
    let chosen = selects_one problem old.book.sos turn k.name k.guide h.given k.given h.cause k.cause (sos_tell problem old.book sound)
    (subst (λ (v : ClaimedStructure). Selects problem old.book.sos turn k.name v h.given h.cause) guide.1
    (subst (λ (n : VersionName). Selects problem old.book.sos turn n h.guide h.given h.cause) guide.0 h.selects)) k.selects in
    let truth = mark_one k.guide.tables k.given.clause h.truth k.truth
    (subst (λ (p : Numbered). IsMark k.guide.tables p.clause h.truth) chosen.0 (subst (λ (v : ClaimedStructure). IsMark v.tables h.given.clause h.truth) guide.1 h.marked)) k.marked in
    let sites : h.sites ≡ k.sites = sites_are_one problem.flags k.given (with_given old.book k.given).usable 100001 h.sites k.sites
    (subst (λ (p : Numbered). AreSites problem.flags p (with_given old.book p).usable 100001 h.sites) chosen.0 h.are_sites) k.are_sites in
    let moved = given_sound problem old.book k.given (selected_there problem old.book.sos turn k.name k.guide k.given k.cause k.selects) sound in
    let end = works_one problem turn k.given (with_given old.book k.given).usable IsPassedOver (usable_tell problem (with_given old.book k.given) moved)
    100000 (with_given old.book k.given) h.book k.book (map At k.sites) h.finish k.finish moved
    (subst (λ (ss : List Site). Works problem turn k.given (with_given old.book k.given).usable IsPassedOver 100000 (with_given old.book k.given) (map At ss) h.book h.finish) sites
    (subst (λ (p : Numbered). Works problem turn p (with_given old.book p).usable IsPassedOver 100000 (with_given old.book p) (map At h.sites) h.book h.finish) chosen.0 h.works)) k.works in
    h.goes_to
    ∙ (λ i. record {
      book = end.0 i;
      given = old.given ++ record { turn = turn; number = (chosen.0 i).number; cause = chosen.1 i; name = guide.0 i; truth = truth i; lengths = map (λ (vs : List ClaimedStructure). length vs) seen } ∷ [];
      ended = outcome_of turn (end.1 i);
      goal = goal_of (end.1 i);
    })
    ∙ sym k.goes_to

infer_sound : (problem : Stated) (turn : ℕ) (old : Run) (seen : Seen) (new : Run) → IsSound problem old.book → Infer problem turn old seen new → IsSound problem new.book
infer_sound problem turn old seen new sound h =
    let moved = given_sound problem old.book h.given (selected_there problem old.book.sos turn h.name h.guide h.given h.cause h.selects) sound in
    subst (λ (r : Run). IsSound problem r.book) (sym h.goes_to)
    (works_sound problem turn h.given (with_given old.book h.given).usable IsPassedOver (usable_tell problem (with_given old.book h.given) moved)
    100000 (with_given old.book h.given) h.book (map At h.sites) h.finish moved h.works)

pub turns_one : (problem : Stated) (old : Run) (seen : Seen) (new other : Run) → IsSound problem old.book → Turns problem old seen new → Turns problem old seen other → new ≡ other
turns_one problem old seen new other sound =
    where_case (λ h k. h ∙ sym k) (where_case (λ h k. h ∙ sym k) (where_case (λ h k. h ∙ sym k) (infer_one problem (length old.given + 1) old seen new other sound)))

pub turns_sound : (problem : Stated) (old : Run) (seen : Seen) (new : Run) → IsSound problem old.book → Turns problem old seen new → IsSound problem new.book
turns_sound problem old seen new sound =
    where_either (λ h. subst (λ (r : Run). IsSound problem r.book) (sym h) sound)
    (where_either (λ h. subst (λ (r : Run). IsSound problem r.book) (sym h) sound)
    (where_either (λ h. subst (λ (r : Run). IsSound problem r.book) (sym h) sound)
    (infer_sound problem (length old.given + 1) old seen new sound)))
