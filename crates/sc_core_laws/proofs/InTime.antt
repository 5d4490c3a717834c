-- Every clause leaves sos in time: the start, the turns of a run, and its end.
use Rattle.std.proofs.Common.{◌≡◌, ◌∙◌, sym, ap, subst, refl, ℕ, ◌+◌, ◌<◌, ◌≤◌, ◌⊎◌, inl, inr, List, [], ◌∷◌, ◌++◌, length, Option, Some, arith}
use Rattle.std.specs.List.{Contains}
use Rattle.std.proofs.lemmas.List.{length-append}
use Rattle.sc_term.specs.declared.Numbered.{Numbered}
use Rattle.sc_term.specs.Numbering.{numbered}
use Rattle.sc_input_rules.specs.Problem.{Stated}
use Rattle.sc_input_rules.specs.declared.settings.Home.{Home}
use Rattle.sc_input_rules.specs.declared.settings.Home.TheVariants.{Usable, Sos, Passive}
use Rattle.sc_core_rules.specs.declared.row.GivenRow.{GivenRow}
use Rattle.sc_core_rules.specs.declared.row.KeptRow.{KeptRow}
use Rattle.sc_core_rules.specs.Book.{Book, next_number}
use Rattle.sc_core_rules.specs.Start.{input_clauses, IsAtHome, OpensBook, Starts}
use Rattle.sc_core_rules.specs.Selection.{Seen, ratio}
use Rattle.sc_core_rules.specs.Turn.{Run, Infer}
use Rattle.sc_core_rules.specs.Run.{Goes, GoesOver, started}
use Rattle.sc_core_rules.proofs.FilterLaws.{filter_within, in_first}
use Rattle.sc_core_rules.proofs.DerivationLaws.{compared}
use Rattle.sc_core_rules.proofs.SoundProcessing.{where_either}
use Rattle.sc_core_laws.specs.LeavesInTime.{WasPut, WasGivenBy, IsDeleted, IsDeletedBy, last_turn, LeavesInTime}
use Rattle.sc_core_laws.proofs.Counting.{Bears, below_less, all_come}
use Rattle.sc_core_laws.proofs.BookChanges.{IsNew}
use Rattle.sc_core_laws.proofs.Fairness.{new_row, Waits, IsFair, live_cases, input_positive, input_number, infer_changes, infer_fair}

module _ (problem : Stated) where
  -- ---- the start

  -- each clause of the three lists is an input clause of that list, and none was kept
  record IsOpened (book : Book) : Type 0 where
    usable : (p : Numbered) → Contains book.usable p → Contains (input_clauses problem) p × IsAtHome problem Usable p
    sos : (p : Numbered) → Contains book.sos p → Contains (input_clauses problem) p × IsAtHome problem Sos p
    passive : (p : Numbered) → Contains book.passive p → Contains (input_clauses problem) p × IsAtHome problem Passive p
    no_kept : book.kept ≡ []

  opened_so : (book : Book) → OpensBook problem book → IsOpened book
  opened_so book h = record {
    usable = λ p k. filter_within (IsAtHome problem Usable) p (input_clauses problem) book.usable h.usable k;
    sos = λ p k. filter_within (IsAtHome problem Sos) p (input_clauses problem) book.sos h.sos k;
    passive = λ p k. filter_within (IsAtHome problem Passive) p (input_clauses problem) book.passive h.passive k;
    no_kept = h.no_kept;
  }

  -- an empty clause that the start adds changes no list
  starts_so : (book : Book) (goal : Option ℕ) → Starts problem book goal → IsOpened book
  starts_so book goal h =
      let opened : IsOpened h.opened = opened_so h.opened h.opens in
      where_either
      (λ a. where_either (λ b. subst IsOpened (sym b.0) opened)
      (λ b. subst IsOpened (sym b.4) (record { usable = opened.usable; sos = opened.sos; passive = opened.passive; no_kept = opened.no_kept })) a.2)
      (λ a. subst IsOpened (sym a.0) opened) h.ends

  -- a number has one home
  one_home : (place : Home) (p q : Numbered) → IsAtHome problem place p → IsAtHome problem Sos q → p.number ≡ q.number → place ≡ Sos
  one_home place p q h k e = let same : Some place ≡ Some Sos = sym h ∙ ap (λ (n : ℕ). numbered problem.homes n) e ∙ k in cc

  opened_fair : (book : Book) → IsOpened book → IsFair problem book []
  opened_fair book h = record {
    numbers = λ p k. number p (live_cases book p k);
    positive = positive;
    rows = λ row k. absurd (no_row row k);
    turns = λ row k. absurd (omega (arith, k.1));
    fair = fair;
  }
    where
      number : (p : Numbered) → Contains book.usable p ⊎ Contains book.sos p ⊎ Contains book.passive p → p.number < next_number problem book
      number p (inl k) = input_number problem book p (h.usable p k).0
      number p (inr (inl k)) = input_number problem book p (h.sos p k).0
      number p (inr (inr k)) = input_number problem book p (h.passive p k).0

      positive : ¬ Bears book.sos 0
      positive b = let some = input_positive problem b.0 (h.sos b.0 b.1).0 in omega (arith, b.2)

      no_row : (row : KeptRow) → ¬ Contains book.kept row
      no_row row k = let none = subst (λ (rows : List KeptRow). Contains rows row) h.no_kept k in omega (arith, none.1)

      usable : (p : Numbered) → IsAtHome problem Sos p → ¬ Bears book.usable p.number
      usable p home b = let bad : Usable ≡ Sos = one_home Usable b.0 p (h.usable b.0 b.1).1 home b.2 in cc

      passive : (p : Numbered) → IsAtHome problem Sos p → ¬ Bears book.passive p.number
      passive p home b = let bad : Passive ≡ Sos = one_home Passive b.0 p (h.passive b.0 b.1).1 home b.2 in cc

      waits : (p : Numbered) → Contains (input_clauses problem) p → IsAtHome problem Sos p → Waits problem book 0 p.number 0
      waits p there home = record {
        no_usable = usable p home;
        no_passive = passive p home;
        bound = λ b. let less = below_less book.sos p.number positive (input_positive problem p there) in omega arith;
      }

      fair : (n t : ℕ) → WasPut problem book.kept n t → WasGivenBy [] n (last_turn problem n t) ⊎ Waits problem book 0 n t
      fair n t (inl k) =
          inr (subst (λ (s : ℕ). Waits problem book 0 n s) (sym k.4) (subst (λ (m : ℕ). Waits problem book 0 m 0) k.3 (waits k.0 k.1 k.2)))
      fair n t (inr k) = absurd (no_row k.0 k.1)

  -- ---- the turns

  -- at most one clause is given, given rows stay, and rows of kept clauses that join are of a later turn
  record RowsGrow (old new : Run) : Type 0 where
    no_less : length old.given ≤ length new.given
    given : (row : GivenRow) → Contains old.given row → Contains new.given row
    kept : (row : KeptRow) → Contains (new.book).kept row → Contains (old.book).kept row ⊎ (length old.given < row.turn)

  -- such a turn keeps the law
  record StaysFair (old new : Run) : Type 0 where
    goes : RowsGrow old new
    by_one : length new.given ≤ length old.given + 1
    fair : IsFair problem old.book old.given → IsFair problem new.book new.given

  same_on : (old : Run) → RowsGrow old old
  same_on old = record { no_less = omega arith; given = λ row h. h; kept = λ row h. inl h }

  -- the outcome of a run plays no part
  unmoved : (old new : Run) → new.book ≡ old.book → new.given ≡ old.given → StaysFair old new
  unmoved old new book given = record {
    goes = record {
      no_less = let same = ap length given in omega arith;
      given = λ row h. subst (λ (rows : List GivenRow). Contains rows row) (sym given) h;
      kept = λ row h. inl (subst (λ (b : Book). Contains b.kept row) book h);
    };
    by_one = let same = ap length given in omega arith;
    fair = λ fair. subst (λ (b : Book). IsFair problem b new.given) (sym book) (subst (λ (rows : List GivenRow). IsFair problem old.book rows) (sym given) fair);
  }

  infer_keeps : (old : Run) (seen : Seen) (new : Run) → Infer problem (length old.given + 1) old seen new → StaysFair old new
  infer_keeps old seen new h = subst (StaysFair old) (sym h.goes_to) (record {
    goes = record {
      no_less = omega (arith, length-append old.given (new_row problem old seen new h ∷ []));
      given = λ r k. in_first r old.given (new_row problem old seen new h ∷ []) k;
      kept = λ r k. by r ((infer_changes problem old seen new h).kept r k);
    };
    by_one = omega (arith, length-append old.given (new_row problem old seen new h ∷ []));
    fair = infer_fair problem old seen new h;
  })
    where
      by : (r : KeptRow) → Contains (old.book).kept r ⊎ ((r.turn ≡ length old.given + 1) × IsNew problem old.book h.book r.number) → Contains (old.book).kept r ⊎ (length old.given < r.turn)
      by r (inl k) = inl k
      by r (inr k) = inr (omega (arith, k.0))

  still : (old new other : Run) → other.book ≡ old.book → other.given ≡ old.given → new ≡ other → StaysFair old new
  still old new other book given e = unmoved old new (ap (λ (r : Run). r.book) e ∙ book) (ap (λ (r : Run). r.given) e ∙ given)

  goes_keeps : (old : Run) (look : Seen) (new : Run) → Goes problem old look new → StaysFair old new
  goes_keeps old look new =
      where_either (still old new old refl refl)
      (where_either (λ e. still old new _ refl refl e)
      (where_either (λ e. still old new _ refl refl e)
      (where_either (λ e. still old new _ refl refl e)
      (infer_keeps old look new))))

  over_on : (looks : List Seen) (old new : Run) → GoesOver problem old looks new → RowsGrow old new
  over_on [] old new h = subst (RowsGrow old) (sym h) (same_on old)
  over_on (look ∷ looks) old new h =
      let one = (goes_keeps old look h.0 h.1).goes in
      let two = over_on looks h.0 new h.2 in
      record {
        no_less = omega (arith, one.no_less, two.no_less);
        given = λ row k. two.given row (one.given row k);
        kept = λ row k. by one.no_less one.kept row (two.kept row k);
      }
    where
      by : length old.given ≤ length (h.0).given → ((row : KeptRow) → Contains ((h.0).book).kept row → Contains (old.book).kept row ⊎ (length old.given < row.turn))
          → (row : KeptRow) → Contains ((h.0).book).kept row ⊎ (length (h.0).given < row.turn) → Contains (old.book).kept row ⊎ (length old.given < row.turn)
      by less first row (inl k) = first row k
      by less first row (inr k) = inr (omega arith)

  over_fair : (looks : List Seen) (old new : Run) → IsFair problem old.book old.given → GoesOver problem old looks new → IsFair problem new.book new.given
  over_fair [] old new fair h = subst (λ (r : Run). IsFair problem r.book r.given) (sym h) fair
  over_fair (look ∷ looks) old new fair h = over_fair looks h.0 new ((goes_keeps old look h.0 h.1).fair fair) h.2

  -- ---- the run right after a turn

  record Passes (old : Run) (looks : List Seen) (new : Run) (k : ℕ) : Type 0 where
    earlier : List Seen
    later : List Seen
    mid : Run
    whole : earlier ++ later ≡ looks
    before : GoesOver problem old earlier mid
    there : length mid.given ≡ k
    after : GoesOver problem mid later new

  passes : (looks : List Seen) (old new : Run) (k : ℕ) → length old.given ≤ k → k ≤ length new.given → GoesOver problem old looks new → Passes old looks new k
  passes [] old new k low high h =
      let same = ap (λ (r : Run). length r.given) h in
      record { earlier = []; later = []; mid = old; whole = refl; before = refl; there = omega arith; after = h }
  passes (look ∷ looks) old new k low high h = by (λ less. passes looks h.0 new k less high h.2) (goes_keeps old look h.0 h.1).by_one (compared (length old.given) k)
    where
      by : (length (h.0).given ≤ k → Passes h.0 looks new k) → length (h.0).given ≤ length old.given + 1
          → (length old.given < k) ⊎ (length old.given ≡ k) ⊎ (k < length old.given) → Passes old (look ∷ looks) new k
      by rest one (inl less) =
          let p = rest (omega arith) in
          record { earlier = look ∷ p.earlier; later = p.later; mid = p.mid; whole = ap (λ ls. look ∷ ls) p.whole; before = (h.0, h.1, p.before); there = p.there; after = p.after }
      by rest one (inr (inl e)) = record { earlier = []; later = look ∷ looks; mid = old; whole = refl; before = refl; there = e; after = h }
      by rest one (inr (inr less)) = absurd (omega arith)

  -- what waits isn't live when its time has come
  waits_no_longer : (book : Book) (s n t : ℕ) → last_turn problem n t ≤ s → Waits problem book s n t → IsDeleted book n
  waits_no_longer book s n t late w p h e = by (live_cases book p h)
    where
      by : Contains book.usable p ⊎ Contains book.sos p ⊎ Contains book.passive p → ⊥
      by (inl k) = w.no_usable (p, k, e)
      by (inr (inl k)) =
          let few = w.bound (p, k, e) in
          let come = all_come (ratio problem) s t n (omega arith) late in
          omega arith
      by (inr (inr k)) = w.no_passive (p, k, e)

pub leaves_in_time : LeavesInTime
leaves_in_time problem looks run n t h put turn = by (here.fair n t (earlier put))
  where
    start : IsFair problem h.book []
    start = opened_fair problem h.book (starts_so problem h.book h.goal h.starts)

    -- the run right after the last turn
    reached : Passes problem (started h.book h.goal) looks run (last_turn problem n t)
    reached =
        let last = (over_fair problem looks (started h.book h.goal) run start h.goes).turns turn.0 turn.1 in
        passes problem looks (started h.book h.goal) run (last_turn problem n t) (omega arith) (omega (arith, last, turn.2)) h.goes

    on : RowsGrow problem reached.mid run
    on = over_on problem reached.later reached.mid run reached.after

    here : IsFair problem (reached.mid).book (reached.mid).given
    here = over_fair problem reached.earlier (started h.book h.goal) reached.mid start reached.before

    -- the clause was put there before
    row_earlier : (r : KeptRow) → r.turn ≡ t → Contains ((reached.mid).book).kept r ⊎ (length (reached.mid).given < r.turn) → Contains ((reached.mid).book).kept r
    row_earlier r e (inl k) = k
    row_earlier r e (inr less) = absurd (omega (arith, less, e, reached.there))

    earlier : WasPut problem (run.book).kept n t → WasPut problem ((reached.mid).book).kept n t
    earlier (inl k) = inl k
    earlier (inr k) = inr (k.0, row_earlier k.0 k.3 (on.kept k.0 k.1), k.2, k.3)

    by : WasGivenBy (reached.mid).given n (last_turn problem n t) ⊎ Waits problem (reached.mid).book (length (reached.mid).given) n t
        → WasGivenBy run.given n (last_turn problem n t) ⊎ IsDeletedBy problem looks n (last_turn problem n t)
    by (inl k) = inl (k.0, on.given k.0 k.1, k.2, k.3)
    by (inr w) =
        inr (
          reached.earlier,
          reached.later,
          reached.mid,
          reached.whole,
          record { book = h.book; goal = h.goal; starts = h.starts; goes = reached.before },
          reached.there,
          waits_no_longer problem (reached.mid).book (length (reached.mid).given) n t (omega (arith, reached.there)) w,
        )
