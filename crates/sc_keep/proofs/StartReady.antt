-- The lists are ready for a conclusion when the run has started.
use Rattle.std.proofs.Common.{◌≡◌, ◌≢◌, ◌∙◌, sym, ap, subst, refl, ℕ, ◌+◌, ◌<◌, ◌⊎◌, inl, inr, false, List, [], ◌∷◌, ◌++◌, length-append, map, nat_eq, Option, Some, arith}
use Rattle.std.specs.List.{Contains, All}
use Rattle.std.proofs.lemmas.List.Elements.{All-contains}
use Rattle.std.proofs.lemmas.Map.Keys.{IsDistinct-cons, IsDistinct-head, IsDistinct-tail}
use Rattle.sc_term.specs.declared.Clause.{Clause}
use Rattle.sc_term.specs.declared.Line.{Line}
use Rattle.sc_term.specs.declared.Numbered.{Numbered}
use Rattle.sc_term.specs.Numbering.{numbered}
use Rattle.sc_input_rules.specs.Problem.{Stated}
use Rattle.sc_input_rules.specs.WellFormed.{IsProblem}
use Rattle.sc_input_rules.specs.declared.settings.Home.{Home}
use Rattle.sc_input_rules.specs.declared.settings.Home.TheVariants.{Usable, Sos, Passive, Demodulators}
use Rattle.sc_steps.specs.declared.derivations.derivation.Derived.{Derived}
use Rattle.sc_steps.proofs.LineLaws.{number_within}
use Rattle.sc_core_rules.specs.Order.{IsFilter, none, taken, passed}
use Rattle.sc_core_rules.specs.Book.{Book, live, next_number, with_derived}
use Rattle.sc_core_rules.specs.Start.{Starts, numbered_from, input_clauses, IsAtHome}
use Rattle.sc_core_rules.proofs.FilterLaws.{filter_within, in_either}
use Rattle.sc_core_rules.proofs.RunLaws.{input_stands}
use Rattle.sc_core_rules.proofs.SoundLaws.{each}
use Rattle.sc_core_rules.proofs.SoundProcessing.{where_either}
use Rattle.sc_keep.specs.declared.lists.Lists.{Lists}
use Rattle.sc_keep.specs.Lists.{AreReady, book_of}
use Rattle.sc_keep.specs.Rivals.{IsFit}
use Rattle.sc_keep.specs.Sweep.{HaveDistinctNumbers, numbers}
use Rattle.sc_keep.proofs.BookLaws.{fits}
use Rattle.sc_keep.proofs.DistinctLaws.{Differ, differ_each, differ_joined, distinct_joined, none_distinct}
use Rattle.sc_keep.proofs.OthersLaws.{flips}
use Rattle.sc_keep.proofs.ReadyLaws.{less_differs}
use Rattle.sc_keep.proofs.StartedLaws.{all_fit}

-- ---- distinct numbers

differ_filter : (P : Numbered → Type 0) (m n : ℕ) (cs : List Clause) (ps : List Numbered) → m < n → IsFilter P (numbered_from n cs) ps → Differ m ps
differ_filter P m n [] ps less none = tt
differ_filter P m n (c ∷ cs) ps less (taken {ys = qs} p rest) = (less_differs m n less, differ_filter P m (n + 1) cs qs (omega (arith, less)) rest)
differ_filter P m n (c ∷ cs) ps less (passed p rest) = differ_filter P m (n + 1) cs ps (omega (arith, less)) rest

differ_middle : (m : ℕ) (us : List Numbered) (p : Numbered) (ss : List Numbered) → nat_eq m p.number ≡ false → Differ m (us ++ ss) → Differ m (us ++ p ∷ ss)
differ_middle m [] p ss e h = (e, h)
differ_middle m (u ∷ us) p ss e h = (h.0, differ_middle m us p ss e h.1)

middle : (us : List Numbered) (p : Numbered) (ss : List Numbered) → Differ p.number us → Differ p.number ss → HaveDistinctNumbers (us ++ ss) → HaveDistinctNumbers (us ++ p ∷ ss)
middle [] p ss a b h = IsDistinct-cons nat_eq p.number (numbers ss) b h
middle (u ∷ us) p ss a b h =
    IsDistinct-cons nat_eq u.number (numbers (us ++ p ∷ ss))
    (differ_middle u.number us p ss (flips u.number p.number ∙ a.0) (IsDistinct-head nat_eq u.number (numbers (us ++ ss)) h))
    (middle us p ss a.1 b (IsDistinct-tail nat_eq u.number (numbers (us ++ ss)) h))

distinct_filter : (P : Numbered → Type 0) (n : ℕ) (cs : List Clause) (ps : List Numbered) → IsFilter P (numbered_from n cs) ps → HaveDistinctNumbers ps
distinct_filter P n [] ps none = none_distinct
distinct_filter P n (c ∷ cs) ps (taken {ys = qs} p rest) = IsDistinct-cons nat_eq n (numbers qs) (differ_filter P n (n + 1) cs qs (omega arith) rest) (distinct_filter P (n + 1) cs qs rest)
distinct_filter P n (c ∷ cs) ps (passed p rest) = distinct_filter P (n + 1) cs ps rest

module _ (P Q : Numbered → Type 0) (apart : (p : Numbered) → P p → ¬ Q p) where
  both_distinct : (n : ℕ) (cs : List Clause) (us ss : List Numbered) → IsFilter P (numbered_from n cs) us → IsFilter Q (numbered_from n cs) ss → HaveDistinctNumbers (us ++ ss)
  both_distinct n [] us ss none none = none_distinct
  both_distinct n (c ∷ cs) us ss (taken p one) (taken q two) = absurd (apart (record { number = n; clause = c }) p q)
  both_distinct n (c ∷ cs) us ss (taken {ys = vs} p one) (passed q two) =
      IsDistinct-cons nat_eq n (numbers (vs ++ ss)) (differ_joined n vs ss (differ_filter P n (n + 1) cs vs (omega arith) one) (differ_filter Q n (n + 1) cs ss (omega arith) two))
      (both_distinct (n + 1) cs vs ss one two)
  both_distinct n (c ∷ cs) us ss (passed p one) (taken {ys = ws} q two) =
      middle us (record { number = n; clause = c }) ws (differ_filter P n (n + 1) cs us (omega arith) one) (differ_filter Q n (n + 1) cs ws (omega arith) two)
      (both_distinct (n + 1) cs us ws one two)
  both_distinct n (c ∷ cs) us ss (passed p one) (passed q two) = both_distinct (n + 1) cs us ss one two

-- ---- the start

module _ (problem : Stated) (lists : Lists) (goal : Option ℕ) (such : IsProblem problem) (h : Starts problem (book_of lists) goal) where
  record IsOpened (book : Book) : Type 0 where
    pub usable : lists.usable ≡ book.usable
    pub sos : lists.sos ≡ book.sos
    pub passive : lists.passive ≡ book.passive
    pub demods : lists.demods ≡ book.demods

  from_book : (book : Book) (c : Clause) (ls : List Line) → book_of lists ≡ with_derived book c ls → IsOpened book
  from_book book c ls e = record { usable = ap (λ (k : Book). k.usable) e; sos = ap (λ (k : Book). k.sos) e; passive = ap (λ (k : Book). k.passive) e; demods = ap (λ (k : Book). k.demods) e }

  is_book : (book : Book) → book_of lists ≡ book → IsOpened book
  is_book book e = record { usable = ap (λ (k : Book). k.usable) e; sos = ap (λ (k : Book). k.sos) e; passive = ap (λ (k : Book). k.passive) e; demods = ap (λ (k : Book). k.demods) e }

  same : IsOpened h.opened
  same =
      where_either
      (λ a. where_either (λ b. is_book h.opened b.0) (λ b. from_book h.opened b.1.clause b.1.lines b.4) a.2)
      (λ a. is_book h.opened a.0) h.ends

  listed : (home : Home) (ps qs : List Numbered) → ps ≡ qs → IsFilter (IsAtHome problem home) (input_clauses problem) qs → (p : Numbered) → Contains ps p → Contains (input_clauses problem) p × IsAtHome problem home p
  listed home ps qs e f p k = filter_within (IsAtHome problem home) p (input_clauses problem) qs f (subst (λ (rs : List Numbered). Contains rs p) e k)

  fit : (home : Home) (ps : List Numbered) → ((p : Numbered) → Contains ps p → Contains (input_clauses problem) p × IsAtHome problem home p) → All IsFit ps
  fit home ps among = each IsFit ps (λ p k. All-contains IsFit (input_clauses problem) p (all_fit problem.inputs (input_clauses problem) refl (fits problem.symbols problem.inputs such.inputs)) (among p k).0)

  usable_listed : (p : Numbered) → Contains lists.usable p → Contains (input_clauses problem) p × IsAtHome problem Usable p
  usable_listed = listed Usable lists.usable (h.opened).usable same.usable h.opens.usable

  sos_listed : (p : Numbered) → Contains lists.sos p → Contains (input_clauses problem) p × IsAtHome problem Sos p
  sos_listed = listed Sos lists.sos (h.opened).sos same.sos h.opens.sos

  passive_listed : (p : Numbered) → Contains lists.passive p → Contains (input_clauses problem) p × IsAtHome problem Passive p
  passive_listed = listed Passive lists.passive (h.opened).passive same.passive h.opens.passive

  demods_listed : (p : Numbered) → Contains lists.demods p → Contains (input_clauses problem) p × IsAtHome problem Demodulators p
  demods_listed = listed Demodulators lists.demods (h.opened).demods same.demods h.opens.demods

  is_below : (p : Numbered) → Contains (input_clauses problem) p → p.number < next_number problem (book_of lists)
  is_below p k =
      let within = number_within problem.inputs p.number p.clause (input_stands problem p k) in
      let long = length-append problem.inputs (map (λ (d : Derived). d.clause) lists.derived) in
      omega (arith, within.1, long)

  -- a clause of usable or sos is none of passive
  no_passive : (p q : Numbered) (home : Home) → IsAtHome problem home p → ¬ (home ≡ Passive) → IsAtHome problem Passive q → p.number ≢ q.number
  no_passive p q home a differ b e =
      let f : Some home ≡ Some Passive = sym a ∙ ap (numbered problem.homes) e ∙ b in
      let g : home ≡ Passive = cc in
      differ g

  usable_apart : ¬ (◌≡◌ {A = Home} Usable Passive)
  usable_apart e = cc

  sos_apart : ¬ (◌≡◌ {A = Home} Sos Passive)
  sos_apart e = cc

  apart_from : (p : Numbered) → Contains lists.usable p ⊎ Contains lists.sos p → (q : Numbered) → Contains lists.passive q → p.number ≢ q.number
  apart_from p (inl k) q there = no_passive p q Usable (usable_listed p k).1 usable_apart (passive_listed q there).1
  apart_from p (inr k) q there = no_passive p q Sos (sos_listed p k).1 sos_apart (passive_listed q there).1

  apart : (p : Numbered) → IsAtHome problem Usable p → ¬ IsAtHome problem Sos p
  apart p a b = let e : Some Usable ≡ Some Sos = sym a ∙ b in cc

  front_distinct : HaveDistinctNumbers (lists.usable ++ lists.sos)
  front_distinct = subst HaveDistinctNumbers (λ i. sym same.usable i ++ sym same.sos i)
      (both_distinct (IsAtHome problem Usable) (IsAtHome problem Sos) apart 1 problem.inputs (h.opened).usable (h.opened).sos h.opens.usable h.opens.sos)

  passive_distinct : HaveDistinctNumbers lists.passive
  passive_distinct = subst HaveDistinctNumbers (sym same.passive) (distinct_filter (IsAtHome problem Passive) 1 problem.inputs (h.opened).passive h.opens.passive)

  front_below : (p : Numbered) → Contains lists.usable p ⊎ Contains lists.sos p → p.number < next_number problem (book_of lists)
  front_below p (inl k) = is_below p (usable_listed p k).0
  front_below p (inr k) = is_below p (sos_listed p k).0

  live_below : (p : Numbered) → Contains (lists.usable ++ lists.sos) p ⊎ Contains lists.passive p → p.number < next_number problem (book_of lists)
  live_below p (inl k) = front_below p (in_either p lists.usable lists.sos k)
  live_below p (inr k) = is_below p (passive_listed p k).0

  pub starts_ready : AreReady lists (next_number problem (book_of lists))
  starts_ready = record {
    usable = fit Usable lists.usable usable_listed;
    sos = fit Sos lists.sos sos_listed;
    passive = fit Passive lists.passive passive_listed;
    distinct = distinct_joined (lists.usable ++ lists.sos) lists.passive front_distinct passive_distinct
        (λ p k. differ_each p.number lists.passive (apart_from p (in_either p lists.usable lists.sos k)));
    below = each (λ (p : Numbered). p.number < next_number problem (book_of lists)) (live (book_of lists)) (λ p k. live_below p (in_either p (lists.usable ++ lists.sos) lists.passive k));
    demods_below = each (λ (p : Numbered). p.number < next_number problem (book_of lists)) lists.demods (λ p k. is_below p (demods_listed p k).0);
  }
