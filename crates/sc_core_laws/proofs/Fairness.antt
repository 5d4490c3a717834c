-- What holds of sos at each point of a run, and that a turn keeps it.
use Rattle.std.proofs.Common.{◌≡◌, ◌≢◌, ◌∙◌, sym, ap, subst, refl, ℕ, ◌+◌, ◌/◌, ◌<◌, ◌≤◌, ◌⊎◌, inl, inr, List, [], ◌∷◌, ◌++◌, length, map, Bool, true, false, arith, not, nat_eq}
use Rattle.std.specs.List.{Contains, list_any}
use Rattle.std.proofs.lemmas.Bool.{eqb-true, eqb-false, eq-eqb}
use Rattle.std.proofs.lemmas.List.{length-append}
use Rattle.std.proofs.lemmas.List.Elements.{filter_passes}
use Rattle.std.proofs.lemmas.List.Folds.{list_any_at}
use Rattle.sc_term.specs.declared.Clause.{Clause}
use Rattle.sc_term.specs.declared.Numbered.{Numbered}
use Rattle.sc_steps.specs.declared.derivations.derivation.Derived.{Derived}
use Rattle.sc_input_rules.specs.Problem.{Stated}
use Rattle.sc_interp.specs.Versions.{ClaimedStructure}
use Rattle.sc_core_rules.specs.declared.row.GivenRow.{GivenRow}
use Rattle.sc_core_rules.specs.declared.row.KeptRow.{KeptRow}
use Rattle.sc_core_rules.specs.Order.{IsLeast}
use Rattle.sc_core_rules.specs.Rewriting.{number_of}
use Rattle.sc_core_rules.specs.Book.{Book, live, next_number, leaving_out}
use Rattle.sc_core_rules.specs.Start.{numbered_from, input_clauses}
use Rattle.sc_core_rules.specs.Selection.{Seen, IsAny, Selects, ratio}
use Rattle.sc_core_rules.specs.WorkList.{At}
use Rattle.sc_core_rules.specs.Turn.{Run, Infer, IsPassedOver, with_given}
use Rattle.sc_term.proofs.ContainsLaws.{first_or_later, at_first}
use Rattle.sc_core_rules.proofs.FilterLaws.{in_either, in_first, in_second}
use Rattle.sc_core_rules.proofs.DerivationLaws.{compared}
use Rattle.sc_core_rules.proofs.SoundLaws.{at}
use Rattle.sc_core_rules.proofs.TurnLaws.{selected_there}
use Rattle.sc_core_laws.specs.LeavesInTime.{WasPut, WasGivenBy, last_turn}
use Rattle.sc_core_laws.proofs.Counting.{Bears, Shrinks, below, below_less, below_shrinks, below_falls, none_more, one_more, in_time}
use Rattle.sc_core_laws.proofs.BookChanges.{Changes, IsNew, works_changes, left_there}

-- ---- what is kept

-- after s turns clause n, put in sos in turn t, isn't live but in sos; and while it stands there, the turns that r divides
-- since turn t and the clauses of sos of smaller number are together fewer than n
pub record Waits (problem : Stated) (book : Book) (s n t : ℕ) : Type 0 where
  pub no_usable : ¬ Bears book.usable n
  pub no_passive : ¬ Bears book.passive n
  pub bound : Bears book.sos n → s / ratio problem + below book.sos n < n + t / ratio problem

-- each clause that was put in sos was given in time or waits; numbers are positive and less than the next one
pub record IsFair (problem : Stated) (book : Book) (given : List GivenRow) : Type 0 where
  pub numbers : (p : Numbered) → Contains (live book) p → p.number < next_number problem book
  pub positive : ¬ Bears book.sos 0
  pub rows : (row : KeptRow) → Contains book.kept row → row.number < next_number problem book
  pub turns : (row : GivenRow) → Contains given row → row.turn ≤ length given
  pub fair : (n t : ℕ) → WasPut problem book.kept n t → WasGivenBy given n (last_turn problem n t) ⊎ Waits problem book (length given) n t

-- ---- live clauses

pub from_usable : (book : Book) (p : Numbered) → Contains book.usable p → Contains (live book) p
from_usable book p h = in_first p (book.usable ++ book.sos) book.passive (in_first p book.usable book.sos h)

pub from_sos : (book : Book) (p : Numbered) → Contains book.sos p → Contains (live book) p
from_sos book p h = in_first p (book.usable ++ book.sos) book.passive (in_second p book.usable book.sos h)

pub from_passive : (book : Book) (p : Numbered) → Contains book.passive p → Contains (live book) p
from_passive book p h = in_second p (book.usable ++ book.sos) book.passive h

pub live_cases : (book : Book) (p : Numbered) → Contains (live book) p → Contains book.usable p ⊎ Contains book.sos p ⊎ Contains book.passive p
live_cases book p h = by (in_either p (book.usable ++ book.sos) book.passive h)
  where
    or : Contains book.usable p ⊎ Contains book.sos p → Contains book.usable p ⊎ Contains book.sos p ⊎ Contains book.passive p
    or (inl k) = inl k
    or (inr k) = inr (inl k)

    by : Contains (book.usable ++ book.sos) p ⊎ Contains book.passive p → Contains book.usable p ⊎ Contains book.sos p ⊎ Contains book.passive p
    by (inl k) = or (in_either p book.usable book.sos k)
    by (inr k) = inr (inr k)

-- what is left without a clause has another number
left_apart : (g : Numbered) (ps : List Numbered) (p : Numbered) → Contains (leaving_out (g ∷ []) ps) p → p.number ≢ g.number
left_apart g ps p h e =
    let passes : not (list_any (λ (q : Numbered). nat_eq p.number q.number) (g ∷ [])) ≡ true =
    at (λ (q : Numbered). not (list_any (λ (x : Numbered). nat_eq q.number x.number) (g ∷ [])) ≡ true) (leaving_out (g ∷ []) ps) p
    (filter_passes (λ (q : Numbered). not (list_any (λ (x : Numbered). nat_eq q.number x.number) (g ∷ []))) ps) h in
    let same : nat_eq p.number g.number ≡ true = eq-eqb p.number g.number e in
    let any = list_any_at (λ (q : Numbered). nat_eq p.number q.number) (g ∷ []) 0 g (omega arith) same in
    let bad : false ≡ true = sym (ap not any) ∙ passes in
    cc

-- ---- numbers of input clauses

numbers_from : (n : ℕ) (cs : List Clause) (p : Numbered) → Contains (numbered_from n cs) p → (n ≤ p.number) × (p.number < n + length cs)
numbers_from n [] p h = absurd (omega (arith, h.1))
numbers_from n (c ∷ cs) p h = by (λ k. numbers_from (n + 1) cs p k) (first_or_later p (record { number = n; clause = c }) (numbered_from (n + 1) cs) h)
  where
    by : (Contains (numbered_from (n + 1) cs) p → (n + 1 ≤ p.number) × (p.number < n + 1 + length cs)) → (record { number = n; clause = c } ≡ p) ⊎ Contains (numbered_from (n + 1) cs) p
        → (n ≤ p.number) × (p.number < n + length (c ∷ cs))
    by rest (inl e) = let same = ap (λ (q : Numbered). q.number) e in (omega arith, omega arith)
    by rest (inr k) = let both = rest k in (omega (arith, both.0), omega (arith, both.1))

pub input_positive : (problem : Stated) (p : Numbered) → Contains (input_clauses problem) p → 0 < p.number
input_positive problem p h = let both = numbers_from 1 problem.inputs p h in omega (arith, both.0)

pub input_number : (problem : Stated) (book : Book) (p : Numbered) → Contains (input_clauses problem) p → p.number < next_number problem book
input_number problem book p h =
    let both = numbers_from 1 problem.inputs p h in
    let all = length-append problem.inputs (map (λ (d : Derived). d.clause) book.derived) in
    omega (arith, both.1, all)

-- ---- a turn that gives a clause

module _ (problem : Stated) (old : Run) (seen : Seen) (new : Run) (h : Infer problem (length old.given + 1) old seen new) where
  abbrev moved : Book
  moved = with_given old.book h.given

  -- the row of the turn
  abbrev pub new_row : GivenRow
  new_row = record { turn = length old.given + 1; number = (h.given).number; cause = h.cause; name = h.name; truth = h.truth; lengths = map (λ (vs : List ClaimedStructure). length vs) seen }

  abbrev rows_now : List GivenRow
  rows_now = old.given ++ new_row ∷ []

  pub infer_changes : Changes problem (length old.given + 1) moved h.book
  infer_changes = works_changes problem (length old.given + 1) h.given (with_given old.book h.given).usable IsPassedOver 100000 moved h.book (map At h.sites) h.finish h.works

  one_longer : length rows_now ≡ length old.given + 1
  one_longer = length-append old.given (new_row ∷ [])

  given_there : Contains (old.book).sos h.given
  given_there = selected_there problem (old.book).sos (length old.given + 1) h.name h.guide h.given h.cause h.selects

  -- what is usable was, or is the given clause
  was_usable : (p : Numbered) → Contains (h.book).usable p → Contains (old.book).usable p ⊎ (h.given ≡ p)
  was_usable p k = by (in_either p (old.book).usable (h.given ∷ []) (infer_changes.usable p k))
    where
      last : (h.given ≡ p) ⊎ Contains [] p → h.given ≡ p
      last (inl e) = e
      last (inr none) = absurd (omega (arith, none.1))

      by : Contains (old.book).usable p ⊎ Contains (h.given ∷ []) p → Contains (old.book).usable p ⊎ (h.given ≡ p)
      by (inl k) = inl k
      by (inr k) = inr (last (first_or_later p h.given [] k))

  -- what stands in sos did, and isn't the given clause, or is new
  abbrev Stood : Numbered → Type 0
  Stood p = (Contains (old.book).sos p × (p.number ≢ (h.given).number)) ⊎ IsNew problem old.book h.book p.number

  stood : (p : Numbered) → Contains (h.book).sos p → Stood p
  stood p k = by (infer_changes.sos p k)
    where
      by : Contains (leaving_out (h.given ∷ []) (old.book).sos) p ⊎ IsNew problem moved h.book p.number → Stood p
      by (inl k) = inl (left_there problem 0 (h.given ∷ []) (old.book).sos p k, left_apart h.given (old.book).sos p k)
      by (inr k) = inr k

  module _ (fair : IsFair problem old.book old.given) where
    abbrev some : 0 < ratio problem
    some = omega arith

    given_old : (h.given).number < next_number problem old.book
    given_old = fair.numbers h.given (from_sos old.book h.given given_there)

    -- ---- numbers

    numbers_now : (p : Numbered) → Contains (live h.book) p → p.number < next_number problem h.book
    numbers_now p k = by (live_cases h.book p k)
      where
        usable : Contains (old.book).usable p ⊎ (h.given ≡ p) → p.number < next_number problem h.book
        usable (inl k) = let less = fair.numbers p (from_usable old.book p k) in omega (arith, infer_changes.rises)
        usable (inr e) = let same = ap (λ (q : Numbered). q.number) e in omega (arith, infer_changes.rises, given_old)

        sos : Stood p → p.number < next_number problem h.book
        sos (inl k) = let less = fair.numbers p (from_sos old.book p k.0) in omega (arith, infer_changes.rises)
        sos (inr k) = k.1

        by : Contains (h.book).usable p ⊎ Contains (h.book).sos p ⊎ Contains (h.book).passive p → p.number < next_number problem h.book
        by (inl k) = usable (was_usable p k)
        by (inr (inl k)) = sos (stood p k)
        by (inr (inr k)) = let less = fair.numbers p (from_passive old.book p (infer_changes.passive p k)) in omega (arith, infer_changes.rises)

    positive_now : ¬ Bears (h.book).sos 0
    positive_now b = by (stood b.0 b.1)
      where
        by : Stood b.0 → ⊥
        by (inl k) = fair.positive (b.0, k.0, b.2)
        by (inr k) = omega (arith, k.0, b.2)

    kept_now : (r : KeptRow) → Contains (h.book).kept r → r.number < next_number problem h.book
    kept_now r k = by (infer_changes.kept r k)
      where
        by : Contains (old.book).kept r ⊎ ((r.turn ≡ length old.given + 1) × IsNew problem old.book h.book r.number) → r.number < next_number problem h.book
        by (inl k) = let less = fair.rows r k in omega (arith, infer_changes.rises)
        by (inr k) = k.1.1

    turns_now : (r : GivenRow) → Contains rows_now r → r.turn ≤ length rows_now
    turns_now r k = by (in_either r old.given (new_row ∷ []) k)
      where
        last : (new_row ≡ r) ⊎ Contains [] r → r.turn ≤ length rows_now
        last (inl e) = let same = ap (λ (x : GivenRow). x.turn) e in omega (arith, one_longer)
        last (inr none) = absurd (omega (arith, none.1))

        by : Contains old.given r ⊎ Contains (new_row ∷ []) r → r.turn ≤ length rows_now
        by (inl k) = let less = fair.turns r k in omega (arith, one_longer)
        by (inr k) = last (first_or_later r new_row [] k)

    -- ---- a clause that was put in sos before

    module _ (n t : ℕ) (known : n < next_number problem old.book) where
      shrinks : Shrinks (old.book).sos (h.book).sos n
      shrinks k less b = by (stood b.0 b.1)
        where
          by : Stood b.0 → Bears (old.book).sos k
          by (inl there) = (b.0, there.0, b.2)
          by (inr fresh) = absurd (omega (arith, fresh.0, b.2))

      given_gone : ¬ Bears (h.book).sos (h.given).number
      given_gone b = by (stood b.0 b.1)
        where
          by : Stood b.0 → ⊥
          by (inl there) = there.1 b.2
          by (inr fresh) = omega (arith, fresh.0, b.2, given_old)

      -- the oldest has the least number
      oldest : IsLeast number_of IsAny (old.book).sos h.given → (q : Numbered) → Contains (old.book).sos q → (h.given).number ≤ q.number
      oldest least q there = by (compared q.number (h.given).number)
        where
          by : (q.number < (h.given).number) ⊎ (q.number ≡ (h.given).number) ⊎ ((h.given).number < q.number) → (h.given).number ≤ q.number
          by (inl less) = absurd (least.least q there tt (inl less))
          by (inr (inl e)) = omega arith
          by (inr (inr less)) = omega arith

      -- a turn that r divides takes a smaller number, and another turn isn't counted
      bound_goes_on : (h.given).number ≢ n → Bears (old.book).sos n → length old.given / ratio problem + below (old.book).sos n < n + t / ratio problem
          → (length old.given + 1) / ratio problem + below (h.book).sos n < n + t / ratio problem
      bound_goes_on other b bound = by h.selects
        where
          by : Selects problem (old.book).sos (length old.given + 1) h.name h.guide h.given h.cause → (length old.given + 1) / ratio problem + below (h.book).sos n < n + t / ratio problem
          by (inl k) =
              let most = oldest k.1.1 b.0 b.1 in
              let less = below_falls (old.book).sos (h.book).sos n (h.given).number shrinks (omega (arith, most, b.2)) (h.given, given_there, refl) given_gone in
              let more = one_more (ratio problem) (length old.given) some in
              omega (arith, less, more, bound)
          by (inr k) =
              let no_more = below_shrinks (old.book).sos (h.book).sos n shrinks in
              let same = none_more (ratio problem) (length old.given) some k.0 in
              omega (arith, no_more, same, bound)

      waits_on : (h.given).number ≢ n → Waits problem old.book (length old.given) n t → Waits problem h.book (length rows_now) n t
      waits_on other w = record {
        no_usable = λ b. usable b (was_usable b.0 b.1);
        no_passive = λ b. w.no_passive (b.0, infer_changes.passive b.0 b.1, b.2);
        bound = λ b. subst (λ (s : ℕ). s / ratio problem + below (h.book).sos n < n + t / ratio problem) (sym one_longer) (bound b (stood b.0 b.1));
      }
        where
          usable : (b : Bears (h.book).usable n) → Contains (old.book).usable b.0 ⊎ (h.given ≡ b.0) → ⊥
          usable b (inl k) = w.no_usable (b.0, k, b.2)
          usable b (inr e) = other (ap (λ (q : Numbered). q.number) e ∙ b.2)

          bound : (b : Bears (h.book).sos n) → Stood b.0 → (length old.given + 1) / ratio problem + below (h.book).sos n < n + t / ratio problem
          bound b (inl k) = bound_goes_on other (b.0, k.0, b.2) (w.bound (b.0, k.0, b.2))
          bound b (inr k) = absurd (omega (arith, k.0, b.2))

      -- it was given in time, is given now in time, or waits still
      step : WasGivenBy old.given n (last_turn problem n t) ⊎ Waits problem old.book (length old.given) n t → WasGivenBy rows_now n (last_turn problem n t) ⊎ Waits problem h.book (length rows_now) n t
      step (inl k) = inl (k.0, in_first k.0 old.given (new_row ∷ []) k.1, k.2, k.3)
      step (inr w) = by (nat_eq (h.given).number n) refl
        where
          by : (b : Bool) → nat_eq (h.given).number n ≡ b → WasGivenBy rows_now n (last_turn problem n t) ⊎ Waits problem h.book (length rows_now) n t
          by true e =
              let same = eqb-true (h.given).number n e in
              inl (
                new_row,
                in_second new_row old.given (new_row ∷ []) (at_first new_row []),
                same,
                in_time (ratio problem) (length old.given) t n (below (old.book).sos n) some (w.bound (h.given, given_there, same)),
              )
          by false e = inr (waits_on (eqb-false (h.given).number n e) w)

    -- ---- a clause that is put in sos now

    fresh : (n : ℕ) → IsNew problem old.book h.book n → Waits problem h.book (length rows_now) n (length old.given + 1)
    fresh n k = record {
      no_usable = λ b. usable b (was_usable b.0 b.1);
      no_passive = λ b. let less = fair.numbers b.0 (from_passive old.book b.0 (infer_changes.passive b.0 b.1)) in omega (arith, b.2, k.0);
      bound = λ b. subst (λ (s : ℕ). s / ratio problem + below (h.book).sos n < n + (length old.given + 1) / ratio problem) (sym one_longer)
          (let less = below_less (h.book).sos n positive_now (omega (arith, k.0)) in omega arith);
    }
      where
        usable : (b : Bears (h.book).usable n) → Contains (old.book).usable b.0 ⊎ (h.given ≡ b.0) → ⊥
        usable b (inl there) = let less = fair.numbers b.0 (from_usable old.book b.0 there) in omega (arith, b.2, k.0)
        usable b (inr e) = let same = ap (λ (q : Numbered). q.number) e in omega (arith, given_old, b.2, k.0)

    -- ---- the turn

    pub infer_fair : IsFair problem h.book rows_now
    infer_fair = record { numbers = numbers_now; positive = positive_now; rows = kept_now; turns = turns_now; fair = put }
      where
        row_put : (n t : ℕ) (r : KeptRow) → r.number ≡ n → r.turn ≡ t → Contains (old.book).kept r ⊎ ((r.turn ≡ length old.given + 1) × IsNew problem old.book h.book r.number)
            → WasGivenBy rows_now n (last_turn problem n t) ⊎ Waits problem h.book (length rows_now) n t
        row_put n t r number turn (inl k) = step n t (let less = fair.rows r k in omega (arith, number)) (fair.fair n t (inr (r, k, number, turn)))
        row_put n t r number turn (inr k) =
            inr (subst (λ (s : ℕ). Waits problem h.book (length rows_now) n s) (sym k.0 ∙ turn)
            (subst (λ (m : ℕ). Waits problem h.book (length rows_now) m (length old.given + 1)) number (fresh r.number k.1)))

        put : (n t : ℕ) → WasPut problem (h.book).kept n t → WasGivenBy rows_now n (last_turn problem n t) ⊎ Waits problem h.book (length rows_now) n t
        put n t (inl k) = step n t (let less = input_number problem old.book k.0 k.1 in omega (arith, k.3)) (fair.fair n t (inl k))
        put n t (inr k) = row_put n t k.0 k.2 k.3 (infer_changes.kept k.0 k.1)
