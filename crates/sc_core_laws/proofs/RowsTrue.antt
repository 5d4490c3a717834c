-- Each given row tells the truth of its clause in the version that it names.
use Rattle.std.proofs.Common.{◌≡◌, sym, subst, ℕ, zero, suc, ◌+◌, inl, inr, List, [], ◌∷◌, ◌++◌, length, map, slice_get, Some}
use Rattle.std.specs.Prelude.{IsSomeAnd}
use Rattle.std.specs.List.{Contains, AllByRecursion}
use Rattle.sc_term.specs.declared.Numbered.{Numbered}
use Rattle.sc_term.specs.Numbering.{numbered}
use Rattle.sc_term.proofs.SubstitutionLaws.{all_join}
use Rattle.sc_term.proofs.ContainsLaws.{at_first}
use Rattle.sc_steps.proofs.LineLaws.{in_whole}
use Rattle.sc_input_rules.specs.Problem.{Stated}
use Rattle.sc_interp.specs.declared.plain.VersionName.{VersionName}
use Rattle.sc_interp.specs.Versions.{ClaimedStructure}
use Rattle.sc_core_rules.specs.declared.row.GivenRow.{GivenRow}
use Rattle.sc_core_rules.specs.Book.{Book, IsSound, IsDerived, numbered_clauses}
use Rattle.sc_core_rules.specs.Selection.{Seen, IsGuide}
use Rattle.sc_core_rules.specs.Sites.{Site}
use Rattle.sc_core_rules.specs.WorkList.{Item, Finish, Works, done, too_many, nothing, found, goes_on}
use Rattle.sc_core_rules.specs.Turn.{Run, Infer, Turns, IsPassedOver, with_given}
use Rattle.sc_core_rules.specs.Run.{GoesOver, started}
use Rattle.sc_core_rules.proofs.NumberLaws.{numbered-suc}
use Rattle.sc_core_rules.proofs.FilterLaws.{in_first, in_second}
use Rattle.sc_core_rules.proofs.CheckLaws.{AllStand}
use Rattle.sc_core_rules.proofs.SoundLaws.{StandsIn}
use Rattle.sc_core_rules.proofs.SoundProcessing.{where_either, processes_sound}
use Rattle.sc_core_rules.proofs.DerivedBook.{all_stand, processes_goes_on}
use Rattle.sc_core_rules.proofs.DerivedRun.{gives_checks, turns_derived, starts_derived}
use Rattle.sc_core_rules.proofs.TurnLaws.{given_sound, selected_there, turns_sound}
use Rattle.sc_core_rules.proofs.RunLaws.{starts_sound}
use Rattle.sc_core_laws.specs.TrueRows.{IsNamed, IsTrueRow, IsFrontOf, RowsAreTrue}

-- ---- what a front has, the list has

module _ (place : ℕ) (v : ClaimedStructure) where
  abbrev Has : List ClaimedStructure → Type 0
  Has list = slice_get list place ≡ Some v

  at_place : (look versions : Seen) → IsFrontOf versions look → (i : ℕ) → IsSomeAnd (slice_get look i) Has → IsSomeAnd (slice_get versions i) Has
  at_place [] versions h zero k = absurd k
  at_place [] versions h (suc i) k = absurd k
  at_place (list ∷ look) [] h i k = absurd h
  at_place (list ∷ look) (all ∷ versions) h zero k = subst Has h.0.1 (in_whole list h.0.0 place v k)
  at_place (list ∷ look) (all ∷ versions) h (suc i) k = at_place look versions h.1 i k

  at_number : (look versions : Seen) → IsFrontOf versions look → (n : ℕ) → IsSomeAnd (numbered look n) Has → IsSomeAnd (numbered versions n) Has
  at_number look versions h zero k = absurd k
  at_number look versions h (suc i) k =
      subst (λ o. IsSomeAnd o Has) (sym (numbered-suc versions i)) (at_place look versions h i (subst (λ o. IsSomeAnd o Has) (numbered-suc look i) k))

-- the guide of a look is the opening version, or stands in one of the lists
guide_named : (problem : Stated) (look versions : Seen) → IsFrontOf versions look → (name : VersionName) (v : ClaimedStructure) → IsGuide problem look name v → IsNamed problem versions name v
guide_named problem look versions h name v (inl k) = inl k.1
guide_named problem look versions h name v (inr k) = inr (at_number name.place v look versions h name.finder k.1.0)

module _ (problem : Stated) (versions : Seen) where
  -- ---- clauses keep their numbers

  abbrev Grows : Book → Book → Type 0
  Grows old new = (p : Numbered) → StandsIn problem old p → StandsIn problem new p

  row_stays : (old new : Book) → Grows old new → (row : GivenRow) → IsTrueRow problem versions old row → IsTrueRow problem versions new row
  row_stays old new grows row h = record {
    version = h.version;
    named = h.named;
    clause = h.clause;
    there = grows (record { number = row.number; clause = h.clause }) h.there;
    marked = h.marked;
  }

  rows_stay : (old new : Book) → Grows old new → (rows : List GivenRow) → AllByRecursion (IsTrueRow problem versions old) rows → AllByRecursion (IsTrueRow problem versions new) rows
  rows_stay old new grows [] h = tt
  rows_stay old new grows (row ∷ rows) h = (row_stays old new grows row h.0, rows_stay old new grows rows h.1)

  module _ (turn : ℕ) (given : Numbered) (usable : List Numbered) (passed : Site → Type 0) (there : Contains usable given) where
    works_grow : (n : ℕ) (book new : Book) (items : List Item) (f : Finish) → IsSound problem book → IsDerived problem book → AllStand (numbered_clauses problem book) usable
        → Works problem turn given usable passed n book items new f → Grows book new
    works_grow n book new items f sound derived stand done p h = h
    works_grow n book new items f sound derived stand too_many p h = h
    works_grow n book new items f sound derived stand (nothing k w) p h = works_grow _ book new _ f sound derived stand w p h
    works_grow n book new items f sound derived stand (found {item = item} m o gives k e) p h =
        (processes_goes_on problem book m.lines turn new o sound derived (gives_checks problem book given usable passed there stand item m gives) k).grows p h
    works_grow n book new items f sound derived stand (goes_on {mid = mid} {item = item} m o gives k e w) p h =
        let step = processes_goes_on problem book m.lines turn mid o sound derived (gives_checks problem book given usable passed there stand item m gives) k in
        works_grow _ mid new _ f (processes_sound problem book m.lines turn mid o sound k) step.derived (λ q l. step.grows q (stand q l)) w p (step.grows p h)

  -- ---- a turn

  module _ (look : Seen) (front : IsFrontOf versions look) where
    infer_true : (turn : ℕ) (old new : Run) → IsSound problem old.book → IsDerived problem old.book → AllByRecursion (IsTrueRow problem versions old.book) old.given
        → Infer problem turn old look new → AllByRecursion (IsTrueRow problem versions new.book) new.given
    infer_true turn old new sound derived rows h =
        subst (λ (r : Run). AllByRecursion (IsTrueRow problem versions r.book) r.given) (sym h.goes_to)
        (all_join (IsTrueRow problem versions h.book) old.given (row ∷ []) (rows_stay old.book h.book grows old.given rows) (is_true, tt))
      where
        listed : Contains old.book.sos h.given
        listed = selected_there problem old.book.sos turn h.name h.guide h.given h.cause h.selects

        moved : IsSound problem (with_given old.book h.given)
        moved = given_sound problem old.book h.given listed sound

        grows : Grows old.book h.book
        grows = works_grow turn h.given (with_given old.book h.given).usable IsPassedOver (in_second h.given old.book.usable (h.given ∷ []) (at_first h.given []))
            100000 (with_given old.book h.given) h.book _ h.finish moved derived
            (λ p k. all_stand problem (with_given old.book h.given) moved p (in_first p _ old.book.passive (in_first p (with_given old.book h.given).usable (with_given old.book h.given).sos k))) h.works

        row : GivenRow
        row = record { turn = turn; number = h.given.number; cause = h.cause; name = h.name; truth = h.truth; lengths = map (λ (vs : List ClaimedStructure). length vs) look }

        stands : StandsIn problem old.book h.given
        stands = all_stand problem old.book sound h.given (in_first h.given (old.book.usable ++ old.book.sos) old.book.passive (in_second h.given old.book.usable old.book.sos listed))

        is_true : IsTrueRow problem versions h.book row
        is_true = record {
          version = h.guide;
          named = guide_named problem look versions front h.name h.guide h.guides;
          clause = h.given.clause;
          there = grows h.given stands;
          marked = h.marked;
        }

    abbrev AreTrue : Run → Type 0
    AreTrue run = AllByRecursion (IsTrueRow problem versions run.book) run.given

    turns_true : (old new : Run) → IsSound problem old.book → IsDerived problem old.book → AreTrue old → Turns problem old look new → AreTrue new
    turns_true old new sound derived rows =
        where_either (λ h. subst AreTrue (sym h) rows)
        (where_either (λ h. subst AreTrue (sym h) rows)
        (where_either (λ h. subst AreTrue (sym h) rows)
        (infer_true (length old.given + 1) old new sound derived rows)))

  -- ---- the run

  goes_over_true : (looks : List Seen) (old new : Run) → AllByRecursion (IsFrontOf versions) looks → IsSound problem old.book → IsDerived problem old.book
      → AllByRecursion (IsTrueRow problem versions old.book) old.given → GoesOver problem old looks new → AllByRecursion (IsTrueRow problem versions new.book) new.given
  goes_over_true [] old new fronts sound derived rows h = subst (λ (r : Run). AllByRecursion (IsTrueRow problem versions r.book) r.given) (sym h) rows
  goes_over_true (look ∷ looks) old new fronts sound derived rows h =
      let mid_sound : IsSound problem (h.0).book = where_either (λ a. subst (λ (r : Run). IsSound problem r.book) (sym a) sound) (turns_sound problem old look h.0 sound) h.1 in
      let mid : IsDerived problem (h.0).book = where_either (λ a. subst (λ (r : Run). IsDerived problem r.book) (sym a) derived) (turns_derived problem old look h.0 sound derived) h.1 in
      let mid_rows : AllByRecursion (IsTrueRow problem versions (h.0).book) (h.0).given =
      where_either (λ a. subst (λ (r : Run). AllByRecursion (IsTrueRow problem versions r.book) r.given) (sym a) rows) (turns_true look fronts.0 old h.0 sound derived rows) h.1 in
      goes_over_true looks h.0 new fronts.1 mid_sound mid mid_rows h.2

pub rows_are_true : RowsAreTrue
rows_are_true problem versions looks run such fronts h =
    goes_over_true problem versions looks (started h.book h.goal) run fronts (starts_sound problem h.book h.goal such h.starts) (starts_derived problem h.book h.goal such h.starts) tt h.goes
