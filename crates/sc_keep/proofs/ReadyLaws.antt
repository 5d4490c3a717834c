-- A conclusion that isn't dropped joins the lists, and they stay ready.
use Rattle.std.proofs.Common.{◌≡◌, ◌≢◌, ◌∙◌, sym, subst, refl, ℕ, zero, suc, ◌<◌, Bool, true, false, List, [], ◌∷◌, ◌++◌, nat_eq, append_assoc, Option, None, arith}
use Rattle.std.specs.List.{All, AllByRecursion, AllPairs, IsDistinct}
use Rattle.std.proofs.lemmas.Bool.{eqb-true}
use Rattle.std.proofs.lemmas.Bool.Decides.{Decides-eqb}
use Rattle.std.proofs.lemmas.List.{get_or-map, length-map}
use Rattle.std.proofs.lemmas.Map.Made.{AllPairs-from_IsDistinct}
use Rattle.sc_term.specs.declared.Numbered.{Numbered}
use Rattle.sc_term.specs.declared.Clause.{Clause}
use Rattle.sc_term.specs.declared.Line.{Line}
use Rattle.sc_input_rules.specs.Problem.{Stated}
use Rattle.sc_input_rules.specs.declared.settings.Flags.{Flags}
use Rattle.sc_input_rules.specs.declared.settings.Params.{Params}
use Rattle.sc_core_rules.specs.declared.fate.Fate.{Fate}
use Rattle.sc_core_rules.specs.declared.fate.Processed.{Processed}
use Rattle.sc_core_rules.specs.Book.{Book, live, next_number}
use Rattle.sc_core_rules.specs.Processing.{with_kept, Keeps, MeetsFate}
use Rattle.sc_keep.specs.Dropping.{IsDropped}
use Rattle.sc_keep.specs.Sweep.{HaveDistinctNumbers, numbers}
use Rattle.sc_keep.proofs.FateLaws.{kept_meets}

module _ (flags : Flags) (params : Params) (ps : List Numbered) (c : Clause) (found : Option Fate) (none : found ≡ None) (h : IsDropped flags params ps c found) where
  pub not_dropped : IsDropped flags params ps c None
  not_dropped = subst (IsDropped flags params ps c) none h

-- ---- one more at the end

pub all_pushed : (P : Numbered → Type 0) (ps now : List Numbered) (n : Numbered) → now ≡ ps ++ n ∷ [] → All P ps → P n → All P now
all_pushed P ps now n e h p = subst (All P) (sym e) (pushed ps h)
  where
    pushed : (ps : List Numbered) → All P ps → All P (ps ++ n ∷ [])
    pushed [] h zero d less = p
    pushed [] h (suc k) d less = absurd (omega (arith, less))
    pushed (q ∷ qs) h zero d less = h zero d (omega arith)
    pushed (q ∷ qs) h (suc k) d less = pushed qs (λ k d less. h (suc k) d (omega (arith, less))) k d (omega (arith, less))

differ_pushed : (m : ℕ) (ps : List Numbered) (n : Numbered) → AllByRecursion (λ k. nat_eq m k ≡ false) (numbers ps) → nat_eq m n.number ≡ false → AllByRecursion (λ k. nat_eq m k ≡ false) (numbers (ps ++ n ∷ []))
differ_pushed m [] n h e = (e, tt)
differ_pushed m (p ∷ ps) n h e = (h.0, differ_pushed m ps n h.1 e)

pub less_differs : (m n : ℕ) → m < n → nat_eq m n ≡ false
less_differs m n less = by (nat_eq m n) refl
  where
    by : (b : Bool) → nat_eq m n ≡ b → nat_eq m n ≡ false
    by true e = let same = eqb-true m n e in absurd (omega (arith, same, less))
    by false e = e

distinct_more : (ps : List Numbered) (n : Numbered) → HaveDistinctNumbers ps → All (λ (p : Numbered). p.number < n.number) ps → HaveDistinctNumbers (ps ++ n ∷ [])
unfolding IsDistinct
distinct_more [] n h below = (tt, tt)
distinct_more (p ∷ ps) n h below =
    (differ_pushed p.number ps n h.0 (less_differs p.number n.number (below 0 n (omega arith))), distinct_more ps n h.1 (λ k d less. below (suc k) d (omega (arith, less))))

pub distinct_pushed : (us ss now_us now_ss : List Numbered) (n : Numbered) → now_us ≡ us → now_ss ≡ ss ++ n ∷ [] → HaveDistinctNumbers (us ++ ss) → All (λ (p : Numbered). p.number < n.number) (us ++ ss)
    → HaveDistinctNumbers (now_us ++ now_ss)
distinct_pushed us ss now_us now_ss n same grown h below =
    subst HaveDistinctNumbers (append_assoc us ss (n ∷ []) ∙ (λ i. same_back i ++ grown_back i)) (distinct_more (us ++ ss) n h below)
  where
    same_back : us ≡ now_us
    same_back = sym same

    grown_back : ss ++ n ∷ [] ≡ now_ss
    grown_back = sym grown

-- ---- the fate of a clause that isn't dropped

module _ (problem : Stated) (old mid new : Book) (n : Numbered) (lines : List Line) (turn : ℕ) (out : Processed) (flags : Flags) (params : Params) where
  pub goes_on : (found : Option Fate) → n.number ≡ next_number problem old → problem.flags ≡ flags → problem.params ≡ params → ¬ (n.clause.literals ≡ [])
      → found ≡ None → IsDropped flags params (live old) n.clause found → mid ≡ with_kept problem old n.clause lines turn
      → (problem.flags ≡ flags → Keeps problem mid n new out) → MeetsFate problem old n.clause lines turn new out
  goes_on found number same_flags same_params some none h joined keeps =
      kept_meets problem old n.clause lines turn some new out
      (subst (λ (fs : Flags). IsDropped fs problem.params (live old) n.clause None) (sym same_flags)
      (subst (λ (ps : Params). IsDropped flags ps (live old) n.clause None) (sym same_params) (not_dropped flags params (live old) n.clause found none h)))
      (subst (λ k. Keeps problem (with_kept problem old n.clause lines turn) (record { number = k; clause = n.clause }) new out) number
      (subst (λ b. Keeps problem b n new out) joined (keeps same_flags)))

-- ---- distinct numbers, said of pairs

pub apart : (ps : List Numbered) → HaveDistinctNumbers ps → AllPairs (λ p q. p.number ≢ q.number) ps
apart ps h i j d less within =
    let long = length-map ps (λ (p : Numbered). p.number) in
    let first = get_or-map (λ (p : Numbered). p.number) ps i d d.number (omega (arith, less, within)) in
    let second = get_or-map (λ (p : Numbered). p.number) ps j d d.number within in
    λ e. AllPairs-from_IsDistinct Decides-eqb (numbers ps) h i j d.number less (omega (arith, long, within)) (first ∙ e ∙ sym second)
