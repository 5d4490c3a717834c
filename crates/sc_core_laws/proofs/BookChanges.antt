-- What processing may do to a book: a clause that is new in a list has a new number and stands in sos.
use Rattle.std.proofs.Common.{◌≡◌, sym, ap, subst, refl, ℕ, ◌+◌, ◌<◌, ◌≤◌, ◌⊎◌, inl, inr, List, [], ◌∷◌, length, arith, not, nat_eq}
use Rattle.std.specs.List.{Contains, list_any}
use Rattle.std.proofs.lemmas.List.{length-append}
use Rattle.sc_term.specs.declared.Clause.{Clause}
use Rattle.sc_term.specs.declared.Line.{Line}
use Rattle.sc_term.specs.declared.Numbered.{Numbered}
use Rattle.sc_input_rules.specs.Problem.{Stated}
use Rattle.sc_core_rules.specs.declared.fate.Processed.{Processed}
use Rattle.sc_core_rules.specs.declared.row.KeptRow.{KeptRow}
use Rattle.sc_core_rules.specs.Book.{Book, next_number, numbered_clauses, weight_in, with_derived, with_deleted, leaving_out}
use Rattle.sc_core_rules.specs.Processing.{with_kept, with_demodulator, Sweeps, Keeps, MeetsFate, Processes}
use Rattle.sc_core_rules.specs.Sites.{Site}
use Rattle.sc_core_rules.specs.WorkList.{Item, Finish, Works, done, too_many, nothing, found, goes_on}
use Rattle.sc_term.proofs.ContainsLaws.{first_or_later}
use Rattle.sc_core_rules.proofs.FilterLaws.{in_either}
use Rattle.sc_core_rules.proofs.ProcessLaws.{Becomes}
use Rattle.sc_core_rules.proofs.SoundLaws.{grown, filter_sub}
use Rattle.sc_core_rules.proofs.SoundProcessing.{where_either}

-- the number was given to a clause between the two books
abbrev pub IsNew : Stated → Book → Book → ℕ → Type 0
IsNew problem old new n = (next_number problem old ≤ n) × (n < next_number problem new)

-- nothing joins usable and passive, and what joins sos or the rows of kept clauses has a new number and this turn
pub record Changes (problem : Stated) (turn : ℕ) (old new : Book) : Type 0 where
  pub rises : next_number problem old ≤ next_number problem new
  pub usable : (p : Numbered) → Contains new.usable p → Contains old.usable p
  pub passive : (p : Numbered) → Contains new.passive p → Contains old.passive p
  pub sos : (p : Numbered) → Contains new.sos p → Contains old.sos p ⊎ IsNew problem old new p.number
  pub kept : (row : KeptRow) → Contains new.kept row → Contains old.kept row ⊎ ((row.turn ≡ turn) × IsNew problem old new row.number)

module _ (problem : Stated) (turn : ℕ) where
  pub stays : (old new : Book) → new ≡ old → Changes problem turn old new
  stays old new e = subst (Changes problem turn old) (sym e) (record { rises = omega arith; usable = λ p h. h; passive = λ p h. h; sos = λ p h. inl h; kept = λ row h. inl h })

  pub then : (old mid new : Book) → Changes problem turn old mid → Changes problem turn mid new → Changes problem turn old new
  then old mid new one two = record {
    rises = omega (arith, one.rises, two.rises);
    usable = λ p h. one.usable p (two.usable p h);
    passive = λ p h. one.passive p (two.passive p h);
    sos = λ p h. joins p (two.sos p h);
    kept = λ row h. rows row (two.kept row h);
  }
    where
      early : (n : ℕ) → IsNew problem old mid n → IsNew problem old new n
      early n h = (h.0, omega (arith, h.1, two.rises))

      late : (n : ℕ) → IsNew problem mid new n → IsNew problem old new n
      late n h = (omega (arith, h.0, one.rises), h.1)

      first : (p : Numbered) → Contains old.sos p ⊎ IsNew problem old mid p.number → Contains old.sos p ⊎ IsNew problem old new p.number
      first p (inl h) = inl h
      first p (inr h) = inr (early p.number h)

      joins : (p : Numbered) → Contains mid.sos p ⊎ IsNew problem mid new p.number → Contains old.sos p ⊎ IsNew problem old new p.number
      joins p (inl h) = first p (one.sos p h)
      joins p (inr h) = inr (late p.number h)

      first_row : (row : KeptRow) → Contains old.kept row ⊎ ((row.turn ≡ turn) × IsNew problem old mid row.number)
          → Contains old.kept row ⊎ ((row.turn ≡ turn) × IsNew problem old new row.number)
      first_row row (inl h) = inl h
      first_row row (inr h) = inr (h.0, early row.number h.1)

      rows : (row : KeptRow) → Contains mid.kept row ⊎ ((row.turn ≡ turn) × IsNew problem mid new row.number)
          → Contains old.kept row ⊎ ((row.turn ≡ turn) × IsNew problem old new row.number)
      rows row (inl h) = first_row row (one.kept row h)
      rows row (inr h) = inr (h.0, late row.number h.1)

  -- ---- each change

  -- one more derived clause takes one number
  next_rises : (old : Book) (c : Clause) (lines : List Line) → next_number problem (with_derived old c lines) ≡ next_number problem old + 1
  next_rises old c lines = let e = ap length (grown problem old c lines) in let more = length-append (numbered_clauses problem old) (c ∷ []) in omega (arith, e, more)

  derived_changes : (old : Book) (c : Clause) (lines : List Line) → Changes problem turn old (with_derived old c lines)
  derived_changes old c lines = record { rises = omega (arith, next_rises old c lines); usable = λ p h. h; passive = λ p h. h; sos = λ p h. inl h; kept = λ row h. inl h }

  module _ (old : Book) (c : Clause) (lines : List Line) where
    abbrev one : Numbered
    one = record { number = next_number problem old; clause = c }

    abbrev row : KeptRow
    row = record { number = next_number problem old; turn = turn; weight = weight_in problem c; clause = c }

    abbrev kept : Book
    kept = with_kept problem old c lines turn

    one_is_new : IsNew problem old kept (next_number problem old)
    one_is_new = (omega arith, omega (arith, next_rises old c lines))

    kept_changes : Changes problem turn old kept
    kept_changes = record {
      rises = omega (arith, next_rises old c lines);
      usable = λ p h. h;
      passive = λ p h. h;
      sos = λ p h. joins p (in_either p old.sos (one ∷ []) h);
      kept = λ r h. rows r (in_either r old.kept (row ∷ []) h);
    }
      where
        last : (p : Numbered) → (one ≡ p) ⊎ Contains [] p → IsNew problem old kept p.number
        last p (inl e) = subst (λ (q : Numbered). IsNew problem old kept q.number) e one_is_new
        last p (inr h) = absurd (omega (arith, h.1))

        joins : (p : Numbered) → Contains old.sos p ⊎ Contains (one ∷ []) p → Contains old.sos p ⊎ IsNew problem old kept p.number
        joins p (inl h) = inl h
        joins p (inr h) = inr (last p (first_or_later p one [] h))

        last_row : (r : KeptRow) → (row ≡ r) ⊎ Contains [] r → (r.turn ≡ turn) × IsNew problem old kept r.number
        last_row r (inl e) = subst (λ (q : KeptRow). (q.turn ≡ turn) × IsNew problem old kept q.number) e (refl, one_is_new)
        last_row r (inr h) = absurd (omega (arith, h.1))

        rows : (r : KeptRow) → Contains old.kept r ⊎ Contains (row ∷ []) r → Contains old.kept r ⊎ ((r.turn ≡ turn) × IsNew problem old kept r.number)
        rows r (inl h) = inl h
        rows r (inr h) = inr (last_row r (first_or_later r row [] h))

  pub left_there : (gone ps : List Numbered) (p : Numbered) → Contains (leaving_out gone ps) p → Contains ps p
  left_there gone ps p h = filter_sub (λ (q : Numbered). not (list_any (λ (g : Numbered). nat_eq q.number g.number) gone)) p ps h

  deleted_changes : (old : Book) (gone : List Numbered) → Changes problem turn old (with_deleted old gone)
  deleted_changes old gone = record {
    rises = omega arith;
    usable = λ p h. left_there gone old.usable p h;
    passive = λ p h. h;
    sos = λ p h. inl (left_there gone old.sos p h);
    kept = λ row h. inl h;
  }

  demodulator_changes : (old : Book) (n : Numbered) → Changes problem turn old (with_demodulator old n)
  demodulator_changes old n = record { rises = omega arith; usable = λ p h. h; passive = λ p h. h; sos = λ p h. inl h; kept = λ row h. inl h }

  -- ---- every fate

  sweeps_changes : (old : Book) (n : Numbered) (new : Book) (out : Processed) → Sweeps problem old n new out → Changes problem turn old new
  sweeps_changes old n new out h = by h.becomes
    where
      first : Changes problem turn old (with_deleted old h.subsumed)
      first = deleted_changes old h.subsumed

      second : Changes problem turn old (with_deleted (with_deleted old h.subsumed) h.rewritten)
      second = then old (with_deleted old h.subsumed) (with_deleted (with_deleted old h.subsumed) h.rewritten) first (deleted_changes (with_deleted old h.subsumed) h.rewritten)

      third : Changes problem turn old (with_demodulator (with_deleted (with_deleted old h.subsumed) h.rewritten) n)
      third = then old (with_deleted (with_deleted old h.subsumed) h.rewritten) (with_demodulator (with_deleted (with_deleted old h.subsumed) h.rewritten) n) second
          (demodulator_changes (with_deleted (with_deleted old h.subsumed) h.rewritten) n)

      by : Becomes problem old n new h.subsumed h.rewritten → Changes problem turn old new
      by (inl k) = subst (Changes problem turn old) (sym k.1.1) third
      by (inr k) = subst (Changes problem turn old) (sym k.1.1) first

  keeps_changes : (old : Book) (c : Clause) (lines : List Line) (new : Book) (out : Processed)
      → Keeps problem (with_kept problem old c lines turn) (record { number = next_number problem old; clause = c }) new out → Changes problem turn old new
  keeps_changes old c lines new out =
      let kept = kept_changes old c lines in
      where_either
      (λ k. subst (Changes problem turn old) (sym k.4)
      (then old (with_kept problem old c lines turn) (with_derived (with_kept problem old c lines turn) k.1.clause k.1.lines) kept (derived_changes (with_kept problem old c lines turn) k.1.clause k.1.lines)))
      (λ k. then old (with_kept problem old c lines turn) new kept
      (sweeps_changes (with_kept problem old c lines turn) (record { number = next_number problem old; clause = c }) new out k))

  meets_changes : (old : Book) (c : Clause) (lines : List Line) (new : Book) (out : Processed) → MeetsFate problem old c lines turn new out → Changes problem turn old new
  meets_changes old c lines new out =
      where_either (λ h. subst (Changes problem turn old) (sym h.0) (derived_changes old c lines))
      (where_either (λ h. stays old new h.0)
      (where_either (λ h. stays old new h.0)
      (where_either (λ h. stays old new h.0)
      (where_either (λ h. stays old new h.2.0)
      (keeps_changes old c lines new out)))))

  processes_changes : (old : Book) (lines : List Line) (new : Book) (out : Processed) → Processes problem old lines turn new out → Changes problem turn old new
  processes_changes old lines new out h = meets_changes old h.clause h.simplified new out h.fated

  -- ---- the work list

  pub works_changes : (given : Numbered) (usable : List Numbered) (passed : Site → Type 0) (n : ℕ) (old new : Book) (items : List Item) (finish : Finish)
      → Works problem turn given usable passed n old items new finish → Changes problem turn old new
  works_changes given usable passed n old new items finish done = stays old old refl
  works_changes given usable passed n old new items finish too_many = stays old old refl
  works_changes given usable passed n old new items finish (nothing h w) = works_changes given usable passed _ old new _ finish w
  works_changes given usable passed n old new items finish (found m out gives p e) = processes_changes old m.lines new out p
  works_changes given usable passed n old new items finish (goes_on {mid = mid} m out gives p e w) =
      then old mid new (processes_changes old m.lines mid out p) (works_changes given usable passed _ mid new _ finish w)
