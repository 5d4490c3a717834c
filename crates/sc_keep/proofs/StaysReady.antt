-- Lists that are ready for a conclusion are so again after it was processed, and after a clause was given.
use Rattle.std.proofs.Common.{◌≡◌, ◌≢◌, ◌∙◌, sym, ap, subst, refl, ℕ, ◌+◌, ◌<◌, ◌⊎◌, inl, inr, Bool, true, false, not, ◌||◌, cond, List, [], ◌∷◌, ◌++◌, length, length-append, append_assoc, map, nat_eq, arith}
use Rattle.std.specs.List.{Contains, All, AllByRecursion, list_any}
use Rattle.std.proofs.lemmas.List.{map-append}
use Rattle.std.proofs.lemmas.List.Elements.{All-filter, All-contains, All-append, Contains-get_or}
use Rattle.sc_core_rules.specs.Turn.{with_given}
use Rattle.sc_term.proofs.ContainsLaws.{first_or_later}
use Rattle.sc_core_rules.proofs.FilterLaws.{in_either, in_first, in_second}
use Rattle.sc_core_rules.proofs.ProcessLaws.{Becomes}
use Rattle.sc_core_rules.proofs.SoundLaws.{filter_sub}
use Rattle.sc_keep.proofs.OthersLaws.{flips}
use Rattle.std.proofs.lemmas.Map.Keys.{IsDistinct-cons, IsDistinct-head, IsDistinct-tail}
use Rattle.sc_term.specs.declared.Numbered.{Numbered}
use Rattle.sc_term.specs.declared.Clause.{Clause}
use Rattle.sc_term.specs.declared.Line.{Line}
use Rattle.sc_term.specs.Clause.{IsCanonical, IsWithinLimits}
use Rattle.sc_input_rules.specs.Problem.{Stated}
use Rattle.sc_steps.specs.declared.derivations.derivation.Derived.{Derived}
use Rattle.sc_core_rules.specs.declared.fate.Processed.{Processed}
use Rattle.sc_core_rules.specs.Book.{Book, leaving_out, live, next_number, with_deleted, with_derived}
use Rattle.sc_core_rules.specs.Processing.{with_kept, with_demodulator, Keeps, Sweeps, MeetsFate}
use Rattle.sc_keep.specs.declared.lists.Lists.{Lists}
use Rattle.sc_keep.specs.Lists.{AreReady, book_of}
use Rattle.sc_keep.specs.Rivals.{IsFit}
use Rattle.sc_keep.specs.Sweep.{HaveDistinctNumbers, numbers}
use Rattle.sc_keep.proofs.DistinctLaws.{Differ, differ_both, differ_each, differ_joined, differs_from, distinct_apart, distinct_first, distinct_joined, distinct_second}
use Rattle.sc_keep.proofs.LeastLaws.{front_or_last}
use Rattle.sc_keep.proofs.ReadyLaws.{all_pushed, distinct_pushed}

-- the same of the book that the lists make
record IsReady (book : Book) (n : ℕ) : Type 0 where
  pub usable : All IsFit book.usable
  pub sos : All IsFit book.sos
  pub passive : All IsFit book.passive
  pub distinct : HaveDistinctNumbers (live book)
  pub below : All (λ (p : Numbered). p.number < n) (live book)
  pub demods_below : All (λ (p : Numbered). p.number < n) book.demods

of_lists : (lists : Lists) (n : ℕ) → AreReady lists n → IsReady (book_of lists) n
of_lists lists n h = record { usable = h.usable; sos = h.sos; passive = h.passive; distinct = h.distinct; below = h.below; demods_below = h.demods_below }

to_lists : (lists : Lists) (n : ℕ) → IsReady (book_of lists) n → AreReady lists n
to_lists lists n h = record { usable = h.usable; sos = h.sos; passive = h.passive; distinct = h.distinct; below = h.below; demods_below = h.demods_below }

-- ---- two lists

pub all_front : (P : Numbered → Type 0) (us ss : List Numbered) → All P (us ++ ss) → All P us
all_front P us ss h k d less = All-contains P (us ++ ss) _ h (in_first _ us ss (Contains-get_or us k d less))

pub all_back : (P : Numbered → Type 0) (us ss : List Numbered) → All P (us ++ ss) → All P ss
all_back P us ss h k d less = All-contains P (us ++ ss) _ h (in_second _ us ss (Contains-get_or ss k d less))

-- ---- one more clause has a number

next_grows : (problem : Stated) (book : Book) (c : Clause) (lines : List Line) → next_number problem (with_derived book c lines) ≡ next_number problem book + 1
next_grows problem book c lines =
    let f = λ (d : Derived). d.clause in
    let d : Derived = record { clause = c; lines = lines } in
    let more = map-append f book.derived (d ∷ []) in
    let one = length-append problem.inputs (map f (book.derived ++ d ∷ [])) in
    let two = length-append (map f book.derived) (c ∷ []) in
    let three = length-append problem.inputs (map f book.derived) in
    omega (arith, ap (λ (cs : List Clause). length cs) more, one, two, three)

below_more : (ps : List Numbered) (m n : ℕ) → n ≡ m + 1 → All (λ (p : Numbered). p.number < m) ps → All (λ (p : Numbered). p.number < n) ps
below_more ps m n e h = λ k d less. let low = h k d less in omega (arith, low, e)

with_one_more : (problem : Stated) (book : Book) (c : Clause) (lines : List Line) → IsReady book (next_number problem book) → IsReady (with_derived book c lines) (next_number problem (with_derived book c lines))
with_one_more problem book c lines h =
    let grows = next_grows problem book c lines in record {
      usable = h.usable;
      sos = h.sos;
      passive = h.passive;
      distinct = h.distinct;
      below = below_more (live book) (next_number problem book) _ grows h.below;
      demods_below = below_more book.demods (next_number problem book) _ grows h.demods_below;
    }

-- ---- a clause joins

module _ (us ss ps : List Numbered) (n : Numbered) (below : All (λ (p : Numbered). p.number < n.number) ((us ++ ss) ++ ps)) where
  joined_apart : HaveDistinctNumbers ((us ++ ss) ++ ps) → (p : Numbered) → Contains (us ++ (ss ++ n ∷ [])) p → Differ p.number ps
  joined_apart h p there = by (front_or_last p n (us ++ ss) (subst (λ (qs : List Numbered). Contains qs p) (sym (append_assoc us ss (n ∷ []))) there))
    where
      from_new : (q : Numbered) → Contains ps q → n.number ≢ q.number
      from_new q k e = let less = All-contains (λ (p : Numbered). p.number < n.number) ((us ++ ss) ++ ps) q below (in_second q (us ++ ss) ps k) in absurd (omega (arith, less, e))

      by : Contains (us ++ ss) p ⊎ (n ≡ p) → Differ p.number ps
      by (inl k) = distinct_apart (us ++ ss) ps h p k
      by (inr e) = subst (λ (q : Numbered). Differ q.number ps) e (differ_each n.number ps from_new)

  joined_distinct : HaveDistinctNumbers ((us ++ ss) ++ ps) → HaveDistinctNumbers ((us ++ (ss ++ n ∷ [])) ++ ps)
  joined_distinct h =
      distinct_joined (us ++ (ss ++ n ∷ [])) ps
      (distinct_pushed us ss us (ss ++ n ∷ []) n refl refl (distinct_first (us ++ ss) ps h) (all_front (λ p. p.number < n.number) (us ++ ss) ps below)) (distinct_second (us ++ ss) ps h)
      (joined_apart h)

  joined_below : (m : ℕ) → m ≡ n.number + 1 → All (λ (p : Numbered). p.number < m) ((us ++ (ss ++ n ∷ [])) ++ ps)
  joined_below m e =
      let more = below_more ((us ++ ss) ++ ps) n.number m e below in
      All-append (λ (p : Numbered). p.number < m) (us ++ (ss ++ n ∷ [])) ps
      (all_pushed (λ p. p.number < m) (us ++ ss) (us ++ (ss ++ n ∷ [])) n (sym (append_assoc us ss (n ∷ []))) (all_front (λ p. p.number < m) (us ++ ss) ps more) (omega (arith, e)))
      (all_back (λ p. p.number < m) (us ++ ss) ps more)

joined : (problem : Stated) (old : Book) (c : Clause) (lines : List Line) (turn : ℕ) → IsFit (record { number = next_number problem old; clause = c }) → IsReady old (next_number problem old)
    → IsReady (with_kept problem old c lines turn) (next_number problem (with_kept problem old c lines turn))
joined problem old c lines turn fit h =
    let n : Numbered = record { number = next_number problem old; clause = c } in
    let grows = next_grows problem old c lines in record {
      usable = h.usable;
      sos = all_pushed IsFit old.sos (old.sos ++ n ∷ []) n refl h.sos fit;
      passive = h.passive;
      distinct = joined_distinct old.usable old.sos old.passive n h.below h.distinct;
      below = joined_below old.usable old.sos old.passive n h.below _ grows;
      demods_below = below_more old.demods (next_number problem old) _ grows h.demods_below;
    }

-- ---- clauses are deleted

all_left : (P : Numbered → Type 0) (gone ps : List Numbered) → All P ps → All P (leaving_out gone ps)
all_left P gone ps h = All-filter (λ (p : Numbered). not (list_any (λ (g : Numbered). nat_eq p.number g.number) gone)) P ps h

differ_left : (m : ℕ) (gone ps : List Numbered) → AllByRecursion (λ k. nat_eq m k ≡ false) (numbers ps) → AllByRecursion (λ k. nat_eq m k ≡ false) (numbers (leaving_out gone ps))
differ_left m gone [] h = tt
differ_left m gone (p ∷ ps) h = by (not (list_any (λ (g : Numbered). nat_eq p.number g.number) gone)) (differ_left m gone ps h.1)
  where
    by : (b : Bool) → AllByRecursion (λ k. nat_eq m k ≡ false) (numbers (leaving_out gone ps)) → AllByRecursion (λ k. nat_eq m k ≡ false) (numbers (cond b (p ∷ leaving_out gone ps) (leaving_out gone ps)))
    by true k = (h.0, k)
    by false k = k

distinct_left : (gone ps : List Numbered) → HaveDistinctNumbers ps → HaveDistinctNumbers (leaving_out gone ps)
distinct_left gone [] h = h
distinct_left gone (p ∷ ps) h =
    by (not (list_any (λ (g : Numbered). nat_eq p.number g.number) gone)) (distinct_left gone ps (IsDistinct-tail nat_eq p.number (numbers ps) h))
  where
    by : (b : Bool) → HaveDistinctNumbers (leaving_out gone ps) → HaveDistinctNumbers (cond b (p ∷ leaving_out gone ps) (leaving_out gone ps))
    by true k = IsDistinct-cons nat_eq p.number (numbers (leaving_out gone ps)) (differ_left p.number gone ps (IsDistinct-head nat_eq p.number (numbers ps) h)) k
    by false k = k

left_both : (gone us ss : List Numbered) → leaving_out gone (us ++ ss) ≡ leaving_out gone us ++ leaving_out gone ss
left_both gone [] ss = refl
left_both gone (u ∷ us) ss =
    ap (λ qs. cond (not (list_any (λ (g : Numbered). nat_eq u.number g.number) gone)) (u ∷ qs) qs) (left_both gone us ss) ∙ by (not (list_any (λ (g : Numbered). nat_eq u.number g.number) gone))
  where
    by : (b : Bool) → cond b (u ∷ leaving_out gone us ++ leaving_out gone ss) (leaving_out gone us ++ leaving_out gone ss) ≡ cond b (u ∷ leaving_out gone us) (leaving_out gone us) ++ leaving_out gone ss
    by true = refl
    by false = refl

pub swept_distinct : (old new : Lists) (others : List Numbered) → book_of new ≡ with_deleted (book_of old) others → HaveDistinctNumbers (old.usable ++ old.sos) → HaveDistinctNumbers (new.usable ++ new.sos)
swept_distinct old new others is h =
    subst (λ (b : Book). HaveDistinctNumbers (b.usable ++ b.sos)) (sym is) (subst HaveDistinctNumbers (left_both others old.usable old.sos) (distinct_left others (old.usable ++ old.sos) h))

left_within : (gone us ss : List Numbered) (p : Numbered) → Contains (leaving_out gone us ++ leaving_out gone ss) p → Contains (us ++ ss) p
left_within gone us ss p h =
    filter_sub (λ (q : Numbered). not (list_any (λ (g : Numbered). nat_eq q.number g.number) gone)) p (us ++ ss) (subst (λ (qs : List Numbered). Contains qs p) (sym (left_both gone us ss)) h)

deleted : (book : Book) (n : ℕ) (gone : List Numbered) → IsReady book n → IsReady (with_deleted book gone) n
deleted book n gone h =
    let us = book.usable in
    let ss = book.sos in
    let ps = book.passive in record {
      usable = all_left IsFit gone us h.usable;
      sos = all_left IsFit gone ss h.sos;
      passive = h.passive;
      distinct = distinct_joined (leaving_out gone us ++ leaving_out gone ss) ps
          (subst HaveDistinctNumbers (left_both gone us ss) (distinct_left gone (us ++ ss) (distinct_first (us ++ ss) ps h.distinct)))
          (distinct_second (us ++ ss) ps h.distinct) (λ p k. distinct_apart (us ++ ss) ps h.distinct p (left_within gone us ss p k));
      below = All-append (λ (p : Numbered). p.number < n) (leaving_out gone us ++ leaving_out gone ss) ps
          (subst (All (λ (p : Numbered). p.number < n)) (left_both gone us ss) (all_left (λ p. p.number < n) gone (us ++ ss) (all_front (λ p. p.number < n) (us ++ ss) ps h.below)))
          (all_back (λ p. p.number < n) (us ++ ss) ps h.below);
      demods_below = h.demods_below;
    }

-- ---- a clause becomes a demodulator

demodulating : (book : Book) (k : ℕ) (n : Numbered) → n.number < k → IsReady book k → IsReady (with_demodulator book n) k
demodulating book k n less h = record {
  usable = h.usable;
  sos = h.sos;
  passive = h.passive;
  distinct = h.distinct;
  below = h.below;
  demods_below = all_pushed (λ p. p.number < k) book.demods (book.demods ++ n ∷ []) n refl h.demods_below less;
}

-- ---- a clause is given

-- the given clause differs from those that are left
given_differs : (p : Numbered) (ss : List Numbered) → AllByRecursion (λ k. nat_eq p.number k ≡ false) (numbers (leaving_out (p ∷ []) ss))
given_differs p [] = tt
given_differs p (q ∷ ss) = by (nat_eq q.number p.number) refl (given_differs p ss)
  where
    by : (b : Bool) → nat_eq q.number p.number ≡ b → AllByRecursion (λ k. nat_eq p.number k ≡ false) (numbers (leaving_out (p ∷ []) ss))
        → AllByRecursion (λ k. nat_eq p.number k ≡ false) (numbers (cond (not (b || false)) (q ∷ leaving_out (p ∷ []) ss) (leaving_out (p ∷ []) ss)))
    by true e h = h
    by false e h = (flips p.number q.number ∙ e, h)

given_distinct : (p : Numbered) (us ss : List Numbered) → Contains ss p → HaveDistinctNumbers (us ++ ss) → HaveDistinctNumbers (us ++ p ∷ leaving_out (p ∷ []) ss)
given_distinct p [] ss there h = IsDistinct-cons nat_eq p.number (numbers (leaving_out (p ∷ []) ss)) (given_differs p ss) (distinct_left (p ∷ []) ss h)
given_distinct p (u ∷ us) ss there h =
    let differ = differ_both u.number us ss (IsDistinct-head nat_eq u.number (numbers (us ++ ss)) h) in
    IsDistinct-cons nat_eq u.number (numbers (us ++ p ∷ leaving_out (p ∷ []) ss))
    (differ_joined u.number us (p ∷ leaving_out (p ∷ []) ss) differ.0 (differs_from u.number ss p differ.1 there, differ_left u.number (p ∷ []) ss differ.1))
    (given_distinct p us ss there (IsDistinct-tail nat_eq u.number (numbers (us ++ ss)) h))

given_within : (p : Numbered) (us ss : List Numbered) → Contains ss p → (q : Numbered) → Contains (us ++ p ∷ leaving_out (p ∷ []) ss) q → Contains (us ++ ss) q
given_within p us ss there q h = by (in_either q us (p ∷ leaving_out (p ∷ []) ss) h)
  where
    second : (p ≡ q) ⊎ Contains (leaving_out (p ∷ []) ss) q → Contains (us ++ ss) q
    second (inl e) = in_second q us ss (subst (Contains ss) e there)
    second (inr k) = in_second q us ss (filter_sub (λ (r : Numbered). not (list_any (λ (g : Numbered). nat_eq r.number g.number) (p ∷ []))) q ss k)

    by : Contains us q ⊎ Contains (p ∷ leaving_out (p ∷ []) ss) q → Contains (us ++ ss) q
    by (inl k) = in_first q us ss k
    by (inr k) = second (first_or_later q p (leaving_out (p ∷ []) ss) k)

given : (book : Book) (n : ℕ) (p : Numbered) → Contains book.sos p → IsReady book n → IsReady (with_given book p) n
given book n p there h =
    let us = book.usable in
    let ss = book.sos in
    let ps = book.passive in
    let left = leaving_out (p ∷ []) ss in
    let whole : us ++ p ∷ left ≡ (us ++ p ∷ []) ++ left = sym (append_assoc us (p ∷ []) left) in
    let front : All (λ (q : Numbered). q.number < n) (us ++ ss) = all_front (λ q. q.number < n) (us ++ ss) ps h.below in
    let ss_below = all_back (λ q. q.number < n) us ss front in record {
      usable = all_pushed IsFit us (us ++ p ∷ []) p refl h.usable (All-contains IsFit ss p h.sos there);
      sos = all_left IsFit (p ∷ []) ss h.sos;
      passive = h.passive;
      distinct = distinct_joined ((us ++ p ∷ []) ++ left) ps (subst HaveDistinctNumbers whole (given_distinct p us ss there (distinct_first (us ++ ss) ps h.distinct)))
          (distinct_second (us ++ ss) ps h.distinct)
          (λ q k. distinct_apart (us ++ ss) ps h.distinct q (given_within p us ss there q (subst (λ (qs : List Numbered). Contains qs q) (sym whole) k)));
      below = All-append (λ (q : Numbered). q.number < n) ((us ++ p ∷ []) ++ left) ps
          (All-append (λ (q : Numbered). q.number < n) (us ++ p ∷ []) left
          (all_pushed (λ q. q.number < n) us (us ++ p ∷ []) p refl (all_front (λ q. q.number < n) us ss front) (All-contains (λ (q : Numbered). q.number < n) ss p ss_below there))
          (all_left (λ q. q.number < n) (p ∷ []) ss ss_below)) (all_back (λ q. q.number < n) (us ++ ss) ps h.below);
      demods_below = h.demods_below;
    }

pub give_stays_ready : (old new : Lists) (n : ℕ) (p : Numbered) → Contains old.sos p → book_of new ≡ with_given (book_of old) p → AreReady old n → AreReady new n
give_stays_ready old new n p there is h = to_lists new n (subst (λ b. IsReady b n) (sym is) (given (book_of old) n p there (of_lists old n h)))

-- ---- every fate

module _ (problem : Stated) where
  abbrev Ready : Book → Type 0
  Ready book = IsReady book (next_number problem book)

  swept : (old new : Book) (n : Numbered) (out : Processed) → n.number < next_number problem old → Sweeps problem old n new out → Ready old → Ready new
  swept old new n out less s h = by s.becomes
    where
      first : Ready (with_deleted old s.subsumed)
      first = deleted old (next_number problem old) s.subsumed h

      by : Becomes problem old n new s.subsumed s.rewritten → Ready new
      by (inl k) =
          subst Ready (sym k.1.1)
          (demodulating (with_deleted (with_deleted old s.subsumed) s.rewritten) (next_number problem old) n less (deleted (with_deleted old s.subsumed) (next_number problem old) s.rewritten first))
      by (inr k) = subst Ready (sym k.1.1) first

  kept : (old new : Book) (n : Numbered) (out : Processed) → n.number < next_number problem old → Keeps problem old n new out → Ready old → Ready new
  kept old new n out less (inl k) h = subst Ready (sym k.1.4) (with_one_more problem old k.1.1.clause k.1.1.lines h)
  kept old new n out less (inr k) h = swept old new n out less k.1 h

  met : (old new : Book) (c : Clause) (lines : List Line) (turn : ℕ) (out : Processed) → IsCanonical c → IsWithinLimits c → MeetsFate problem old c lines turn new out → Ready old → Ready new
  met old new c lines turn out canonical within (inl k) h = subst Ready (sym k.1.0) (with_one_more problem old c lines h)
  met old new c lines turn out canonical within (inr (_, inl k)) h = subst Ready (sym k.1.0) h
  met old new c lines turn out canonical within (inr (_, inr (_, inl k))) h = subst Ready (sym k.1.0) h
  met old new c lines turn out canonical within (inr (_, inr (_, inr (_, inl k)))) h = subst Ready (sym k.1.0) h
  met old new c lines turn out canonical within (inr (_, inr (_, inr (_, inr (_, inl k))))) h = subst Ready (sym k.1.2.0) h
  met old new c lines turn out canonical within (inr (_, inr (_, inr (_, inr (_, inr (_, k)))))) h =
      let grows = next_grows problem old c lines in
      kept (with_kept problem old c lines turn) new (record { number = next_number problem old; clause = c }) out (omega (arith, grows)) k
      (joined problem old c lines turn (record { canonical = canonical; within = within }) h)

  -- so the lists are ready again
  pub stay_ready : (old new : Lists) (number : ℕ) (c : Clause) (lines : List Line) (turn : ℕ) (out : Processed) → number ≡ next_number problem (book_of old) → IsCanonical c → IsWithinLimits c
      → MeetsFate problem (book_of old) c lines turn (book_of new) out → AreReady old number → AreReady new (next_number problem (book_of new))
  stay_ready old new number c lines turn out is canonical within fated h =
      to_lists new (next_number problem (book_of new))
      (met (book_of old) (book_of new) c lines turn out canonical within fated (of_lists old (next_number problem (book_of old)) (subst (AreReady old) is h)))
