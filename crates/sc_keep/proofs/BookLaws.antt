-- What the book keeps.
use Rattle.std.proofs.Common.{◌≡◌, ◌∙◌, sym, ap, refl, ℕ, suc, ◌+◌, List, [], ◌∷◌, ◌++◌, Option, Some, All, length, length-append, map, take, slice_get, arith, subst, ◌<◌}
use Rattle.std.specs.List.{AllByRecursion}
use Rattle.std.proofs.Math.Seq.{take-suc}
use Rattle.std.proofs.lemmas.Option.{slice_get_within, get_or_from_slice_get}
use Rattle.std.proofs.lemmas.List.{length-map}
use Rattle.std.proofs.lemmas.List.Elements.{All-nil, All-cons}
use Rattle.sc_steps.specs.declared.derivations.derivation.Derived.{Derived}
use Rattle.sc_term.specs.declared.Clause.{Clause}
use Rattle.sc_term.specs.declared.symbol.Symbol.{Symbol}
use Rattle.sc_input_rules.specs.Problem.{Stated}
use Rattle.sc_input_rules.specs.WellFormed.{IsInput, IsProblem}
use Rattle.std.specs.List.{Contains}
use Rattle.sc_term.specs.declared.Numbered.{Numbered}
use Rattle.sc_term.specs.declared.Line.{Line}
use Rattle.sc_term.specs.Numbering.{numbered}
use Rattle.sc_term.specs.Proof.{AreSteps}
use Rattle.sc_demod.specs.Standing.{ChecksWith}
use Rattle.sc_core_rules.specs.Rewriting.{IsDemodulator}
use Rattle.sc_core_rules.specs.Turn.{with_given}
use Rattle.sc_core_rules.specs.Book.{Book, IsDerived, IsSound, live, next_number, numbered_clauses}
use Rattle.sc_keep.specs.declared.lists.Lists.{Lists}
use Rattle.sc_keep.specs.Lists.{AreReady, book_of}
use Rattle.sc_keep.specs.State.{empty_book}
use Rattle.sc_keep.specs.Sweep.{HaveDistinctNumbers}
use Rattle.sc_keep.proofs.DistinctLaws.{none_distinct}
use Rattle.sc_keep.proofs.StaysReady.{give_stays_ready}
use Rattle.sc_core_rules.specs.Start.{Starts}
use Rattle.sc_core_rules.specs.Run.{started}
use Rattle.sc_core_rules.proofs.DerivedRun.{run_derived}
use Rattle.sc_core_rules.proofs.SoundLaws.{StandsIn, at}
use Rattle.sc_keep.specs.Rivals.{IsFit, IsFitClause}

-- ---- copies

pub one_copied : {A : Type 0} (xs now mid : List A) (i : ℕ) (x : A) → slice_get xs i ≡ Some x → mid ≡ take i xs → now ≡ mid ++ x ∷ [] → now ≡ take (i + 1) xs
one_copied {A} xs now mid i x at so_far more =
    let less = slice_get_within xs i x at in
    let one : take (suc i) xs ≡ take i xs ++ (x ∷ []) = take-suc xs i x less ∙ ap (λ (y : A). take i xs ++ y ∷ []) (get_or_from_slice_get xs i x x at) in
    let same : i + 1 ≡ suc i = omega arith in
    more ∙ ap (λ (ys : List A). ys ++ x ∷ []) so_far ∙ sym one ∙ ap (λ k. take k xs) (sym same)

-- ---- numbers

pub clauses_long : (problem : Stated) (book : Book) → length (numbered_clauses problem book) ≡ length problem.inputs + length book.derived
clauses_long problem book =
    let f = λ (d : Derived). d.clause in
    let long = length-append problem.inputs (map f book.derived) in
    let count = length-map book.derived f in
    omega (arith, long, count)

-- ---- the start

pub fits : (symbols : List Symbol) (cs : List Clause) → AllByRecursion (IsInput symbols) cs → All IsFitClause cs
fits symbols [] h = All-nil IsFitClause
fits symbols (c ∷ cs) h =
    let light = h.0.light in
    All-cons IsFitClause c cs (h.0.canonical, record { light = omega (arith, light); shallow = h.0.shallow }) (fits symbols cs h.1)

pub starts_derived : (problem : Stated) (book : Book) (goal : Option ℕ) → IsProblem problem → Starts problem book goal → IsDerived problem book
starts_derived problem book goal such h = run_derived problem [] (started book goal) such (record { book = book; goal = goal; starts = h; goes = refl })

-- ---- a clause is given

pub give_ready : (problem : Stated) (old new : Lists) (p : Numbered) → Contains old.sos p → book_of new ≡ with_given (book_of old) p → AreReady old (next_number problem (book_of old))
    → AreReady new (next_number problem (book_of new))
give_ready problem old new p there is h =
    subst (AreReady new) (ap (λ (b : Book). next_number problem b) (sym is)) (give_stays_ready old new (next_number problem (book_of old)) p there is h)

-- ---- before the start

pub none_ready : (problem : Stated) (lists : Lists) → book_of lists ≡ empty_book → AreReady lists (next_number problem (book_of lists))
none_ready problem lists e =
    let us : lists.usable ≡ [] = ap (λ (b : Book). b.usable) e in
    let ss : lists.sos ≡ [] = ap (λ (b : Book). b.sos) e in
    let ps : lists.passive ≡ [] = ap (λ (b : Book). b.passive) e in
    let all : [] ≡ (lists.usable ++ lists.sos) ++ lists.passive = λ i. (sym us i ++ sym ss i) ++ sym ps i in
    let Below = λ (q : Numbered). q.number < next_number problem (book_of lists) in
    record {
      usable = subst (All IsFit) (sym us) (All-nil IsFit);
      sos = subst (All IsFit) (sym ss) (All-nil IsFit);
      passive = subst (All IsFit) (sym ps) (All-nil IsFit);
      distinct = subst HaveDistinctNumbers all none_distinct;
      below = subst (All Below) all (All-nil Below);
      demods_below = subst (All Below) (sym (ap (λ (b : Book). b.demods) e)) (All-nil Below);
    }

pub none_sound : (problem : Stated) (book : Book) → book ≡ empty_book → IsSound problem book
none_sound problem book e =
    subst (IsSound problem) (sym e) (record {
      under_numbers = All-nil (λ (p : Numbered). numbered (numbered_clauses problem empty_book) p.number ≡ Some p.clause);
      demodulators = All-nil (λ (d : Numbered). IsDemodulator d.clause);
    })

-- ---- a conclusion

pub checks_with_lists : (problem : Stated) (lists : Lists) (lines : List Line) → IsSound problem (book_of lists) → AreSteps (numbered_clauses problem (book_of lists)) lines
    → ChecksWith (live (book_of lists) ++ lists.demods) lines
checks_with_lists problem lists lines sound steps =
    (numbered_clauses problem (book_of lists), (λ p k. at (StandsIn problem (book_of lists)) (live (book_of lists) ++ lists.demods) p sound.under_numbers k), steps)
