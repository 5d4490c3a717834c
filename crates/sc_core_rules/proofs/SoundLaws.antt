-- Processing keeps a book sound.
use Rattle.std.proofs.Common.{◌≡◌, ◌∙◌, sym, ap, subst, ℕ, ◌⊎◌, inl, inr, List, [], ◌∷◌, ◌++◌, append_assoc, map, Some, Bool, true, false, not, cond, arith, nat_eq}
use Rattle.std.specs.List.{Contains, All, filter, list_any}
use Rattle.std.proofs.lemmas.List.{map-append}
use Rattle.std.proofs.lemmas.List.Elements.{Contains-get_or}
use Rattle.sc_term.specs.declared.Clause.{Clause}
use Rattle.sc_term.specs.declared.Line.{Line}
use Rattle.sc_term.specs.Numbering.{numbered}
use Rattle.sc_input_rules.specs.Problem.{Stated}
use Rattle.sc_term.specs.declared.Numbered.{Numbered}
use Rattle.sc_steps.specs.declared.derivations.derivation.Derived.{Derived}
use Rattle.sc_core_rules.specs.Rewriting.{IsDemodulator}
use Rattle.sc_core_rules.specs.Book.{Book, IsSound, numbered_clauses, live, next_number, with_derived, with_deleted, leaving_out}
use Rattle.sc_core_rules.specs.Processing.{with_kept, with_demodulator}
use Rattle.sc_term.proofs.ContainsLaws.{first_or_later, later}
use Rattle.sc_core_rules.proofs.FilterLaws.{in_either, in_first, in_second}
use Rattle.sc_steps.proofs.LineLaws.{number_in_whole, number_of_end}

-- ---- the clauses that have a number

pub grown : (problem : Stated) (book : Book) (c : Clause) (lines : List Line) → numbered_clauses problem (with_derived book c lines) ≡ numbered_clauses problem book ++ c ∷ []
grown problem book c lines =
    ap (λ (cs : List Clause). problem.inputs ++ cs) (map-append (λ (d : Derived). d.clause) book.derived (record { clause = c; lines = lines } ∷ []))
    ∙ sym (append_assoc problem.inputs (map (λ (d : Derived). d.clause) book.derived) (c ∷ []))

-- ---- what makes a book sound

abbrev pub StandsIn : Stated → Book → Numbered → Type 0
StandsIn problem book p = numbered (numbered_clauses problem book) p.number ≡ Some p.clause

pub at : {X : Type 0} (Q : X → Type 0) (xs : List X) (x : X) → All Q xs → Contains xs x → Q x
at Q xs x all h = subst Q h.2 (all h.0 x h.1)

pub each : {X : Type 0} (Q : X → Type 0) (xs : List X) → ((x : X) → Contains xs x → Q x) → All Q xs
each Q xs f k d h = f _ (Contains-get_or xs k d h)

pub still_sound : (problem : Stated) (old new : Book) → IsSound problem old → ((p : Numbered) → StandsIn problem old p → StandsIn problem new p)
    → ((p : Numbered) → Contains (live new ++ new.demods) p → Contains (live old ++ old.demods) p ⊎ StandsIn problem new p)
    → ((d : Numbered) → Contains new.demods d → Contains old.demods d ⊎ IsDemodulator d.clause) → IsSound problem new
still_sound problem old new sound grows from demods = record {
  under_numbers = each (StandsIn problem new) (live new ++ new.demods) (λ p h. stands p (from p h));
  demodulators = each (λ d. IsDemodulator d.clause) new.demods (λ d h. is d (demods d h));
}
  where
    stands : (p : Numbered) → Contains (live old ++ old.demods) p ⊎ StandsIn problem new p → StandsIn problem new p
    stands p (inl h) = grows p (at (StandsIn problem old) (live old ++ old.demods) p sound.under_numbers h)
    stands p (inr h) = h

    is : (d : Numbered) → Contains old.demods d ⊎ IsDemodulator d.clause → IsDemodulator d.clause
    is d (inl h) = at (λ d. IsDemodulator d.clause) old.demods d sound.demodulators h
    is d (inr h) = h

-- ---- each change

pub derived_sound : (problem : Stated) (old : Book) (c : Clause) (lines : List Line) → IsSound problem old → IsSound problem (with_derived old c lines)
derived_sound problem old c lines sound = still_sound problem old (with_derived old c lines) sound (grows problem old c lines) (λ p h. inl h) (λ d h. inl h)
  where
    grows : (problem : Stated) (old : Book) (c : Clause) (lines : List Line) (p : Numbered) → StandsIn problem old p → StandsIn problem (with_derived old c lines) p
    grows problem old c lines p h =
        subst (λ (cs : List Clause). numbered cs p.number ≡ Some p.clause) (sym (grown problem old c lines)) (number_in_whole (numbered_clauses problem old) (c ∷ []) p.number p.clause h)

module _ (problem : Stated) (old : Book) (c : Clause) (lines : List Line) (turn : ℕ) where
  abbrev pub kept_one : Numbered
  kept_one = record { number = next_number problem old; clause = c }

  abbrev kept : Book
  kept = with_kept problem old c lines turn

  pub kept_stands : StandsIn problem kept kept_one
  kept_stands = subst (λ (cs : List Clause). numbered cs (next_number problem old) ≡ Some c) (sym (grown problem old c lines)) (number_of_end (numbered_clauses problem old) c)

  kept_grows : (p : Numbered) → StandsIn problem old p → StandsIn problem kept p
  kept_grows p h = subst (λ (cs : List Clause). numbered cs p.number ≡ Some p.clause) (sym (grown problem old c lines)) (number_in_whole (numbered_clauses problem old) (c ∷ []) p.number p.clause h)

  live_split : (m : Numbered) → Contains (live kept) m → (kept_one ≡ m) ⊎ Contains (live old) m
  live_split m h = by (in_either m (old.usable ++ (old.sos ++ kept_one ∷ [])) old.passive h)
    where
      third : (kept_one ≡ m) ⊎ Contains [] m → (kept_one ≡ m) ⊎ Contains (live old) m
      third (inl e) = inl e
      third (inr k) = absurd (omega (arith, k.1))

      second : Contains old.sos m ⊎ Contains (kept_one ∷ []) m → (kept_one ≡ m) ⊎ Contains (live old) m
      second (inl k) = inr (in_first m (old.usable ++ old.sos) old.passive (in_second m old.usable old.sos k))
      second (inr k) = third (first_or_later m kept_one [] k)

      first : Contains old.usable m ⊎ Contains (old.sos ++ kept_one ∷ []) m → (kept_one ≡ m) ⊎ Contains (live old) m
      first (inl k) = inr (in_first m (old.usable ++ old.sos) old.passive (in_first m old.usable old.sos k))
      first (inr k) = second (in_either m old.sos (kept_one ∷ []) k)

      by : Contains (old.usable ++ (old.sos ++ kept_one ∷ [])) m ⊎ Contains old.passive m → (kept_one ≡ m) ⊎ Contains (live old) m
      by (inl k) = first (in_either m old.usable (old.sos ++ kept_one ∷ []) k)
      by (inr k) = inr (in_second m (old.usable ++ old.sos) old.passive k)

  pub kept_sound : IsSound problem old → IsSound problem kept
  kept_sound sound = still_sound problem old kept sound kept_grows (λ p h. from p (in_either p (live kept) old.demods h)) (λ d h. inl h)
    where
      or : (p : Numbered) → (kept_one ≡ p) ⊎ Contains (live old) p → Contains (live old ++ old.demods) p ⊎ StandsIn problem kept p
      or p (inl e) = inr (subst (StandsIn problem kept) e kept_stands)
      or p (inr k) = inl (in_first p (live old) old.demods k)

      from : (p : Numbered) → Contains (live kept) p ⊎ Contains old.demods p → Contains (live old ++ old.demods) p ⊎ StandsIn problem kept p
      from p (inl k) = or p (live_split p k)
      from p (inr k) = inl (in_second p (live old) old.demods k)

pub filter_sub : {X : Type 0} (test : X → Bool) (x : X) (xs : List X) → Contains (filter test xs) x → Contains xs x
filter_sub test x [] h = h
filter_sub {X} test x (y ∷ ys) h = by (test y) (λ k. filter_sub test x ys k) h
  where
    or : (Contains (filter test ys) x → Contains ys x) → (y ≡ x) ⊎ Contains (filter test ys) x → Contains (y ∷ ys) x
    or below (inl e) = (0, omega arith, e)
    or below (inr k) = later x y ys (below k)

    by : (b : Bool) → (Contains (filter test ys) x → Contains ys x) → Contains (cond b (y ∷ filter test ys) (filter test ys)) x → Contains (y ∷ ys) x
    by true below k = or below (first_or_later x y (filter test ys) k)
    by false below k = later x y ys (below k)

pub deleted_sound : (problem : Stated) (old : Book) (gone : List Numbered) → IsSound problem old → IsSound problem (with_deleted old gone)
deleted_sound problem old gone sound = still_sound problem old (with_deleted old gone) sound (λ p h. h) (λ p h. inl (from p (in_either p (live (with_deleted old gone)) old.demods h))) (λ d h. inl h)
  where
    sub : (p : Numbered) (ps : List Numbered) → Contains (leaving_out gone ps) p → Contains ps p
    sub p ps h = filter_sub (λ (q : Numbered). not (list_any (λ (g : Numbered). nat_eq q.number g.number) gone)) p ps h

    two : (p : Numbered) → Contains (leaving_out gone old.usable) p ⊎ Contains (leaving_out gone old.sos) p → Contains (live old ++ old.demods) p
    two p (inl k) = in_first p (live old) old.demods (in_first p (old.usable ++ old.sos) old.passive (in_first p old.usable old.sos (sub p old.usable k)))
    two p (inr k) = in_first p (live old) old.demods (in_first p (old.usable ++ old.sos) old.passive (in_second p old.usable old.sos (sub p old.sos k)))

    three : (p : Numbered) → Contains (leaving_out gone old.usable ++ leaving_out gone old.sos) p ⊎ Contains old.passive p → Contains (live old ++ old.demods) p
    three p (inl k) = two p (in_either p (leaving_out gone old.usable) (leaving_out gone old.sos) k)
    three p (inr k) = in_first p (live old) old.demods (in_second p (old.usable ++ old.sos) old.passive k)

    from : (p : Numbered) → Contains (live (with_deleted old gone)) p ⊎ Contains old.demods p → Contains (live old ++ old.demods) p
    from p (inl k) = three p (in_either p (leaving_out gone old.usable ++ leaving_out gone old.sos) old.passive k)
    from p (inr k) = in_second p (live old) old.demods k

pub demodulator_sound : (problem : Stated) (old : Book) (n : Numbered) → StandsIn problem old n → IsDemodulator n.clause → IsSound problem old → IsSound problem (with_demodulator old n)
demodulator_sound problem old n stands is sound = still_sound problem old (with_demodulator old n) sound (λ p h. h) (λ p h. from p (in_either p (live old) (old.demods ++ n ∷ []) h)) (λ d h. demods d (in_either d old.demods (n ∷ []) h))
  where
    last : (p : Numbered) → (n ≡ p) ⊎ Contains [] p → n ≡ p
    last p (inl e) = e
    last p (inr k) = absurd (omega (arith, k.1))

    or : (p : Numbered) → Contains old.demods p ⊎ Contains (n ∷ []) p → Contains (live old ++ old.demods) p ⊎ StandsIn problem old p
    or p (inl k) = inl (in_second p (live old) old.demods k)
    or p (inr k) = inr (subst (StandsIn problem old) (last p (first_or_later p n [] k)) stands)

    from : (p : Numbered) → Contains (live old) p ⊎ Contains (old.demods ++ n ∷ []) p → Contains (live old ++ old.demods) p ⊎ StandsIn problem old p
    from p (inl k) = inl (in_first p (live old) old.demods k)
    from p (inr k) = or p (in_either p old.demods (n ∷ []) k)

    demods : (d : Numbered) → Contains old.demods d ⊎ Contains (n ∷ []) d → Contains old.demods d ⊎ IsDemodulator d.clause
    demods d (inl k) = inl k
    demods d (inr k) = inr (subst (λ (q : Numbered). IsDemodulator q.clause) (last d (first_or_later d n [] k)) is)
