-- One run is meant.
use Rattle.std.proofs.Common.{◌≡◌, ◌∙◌, sym, ap, subst, ℕ, suc, ◌+◌, ◌⊎◌, inl, inr, List, [], ◌∷◌, ◌++◌, map, Option, Some, arith, slice_get}
use Rattle.std.specs.List.{Contains}
use Rattle.sc_term.specs.declared.Clause.{Clause}
use Rattle.sc_term.specs.Numbering.{numbered}
use Rattle.sc_input_rules.specs.Problem.{Stated}
use Rattle.sc_term.specs.declared.Numbered.{Numbered}
use Rattle.sc_input_rules.specs.declared.settings.Home.{Home}
use Rattle.sc_input_rules.specs.declared.settings.Home.TheVariants.{Usable, Sos, Passive, Demodulators}
use Rattle.sc_steps.specs.declared.derivations.derivation.Derived.{Derived}
use Rattle.sc_core_rules.specs.Rewriting.{IsDemodulator}
use Rattle.sc_core_rules.specs.Book.{Book, IsSound, live, with_derived}
use Rattle.sc_core_rules.specs.Conflict.{Conflicts}
use Rattle.sc_core_rules.specs.Start.{numbered_from, input_clauses, IsAtHome, AreAtHome, OpensBook, IsEarlierRival, EndsStart, EndsWith, Starts}
use Rattle.sc_input_rules.specs.WellFormed.{IsProblem}
use Rattle.sc_core_rules.specs.Selection.{Seen}
use Rattle.sc_core_rules.specs.Turn.{Run}
use Rattle.sc_core_rules.specs.Run.{GoesOver, started, RunIsOne}
use Rattle.sc_term.proofs.ContainsLaws.{first_or_later}
use Rattle.sc_core_rules.proofs.FilterLaws.{filter_is_one, filter_within, in_either}
use Rattle.sc_core_rules.proofs.NumberLaws.{numbered-suc}
use Rattle.sc_core_rules.proofs.SimplifyLaws.{NumbersTell, least_one}
use Rattle.sc_core_rules.proofs.ProcessLaws.{where_case, conflict_one, same_numbered}
use Rattle.sc_steps.proofs.LineLaws.{number_in_whole}
use Rattle.sc_core_rules.proofs.SoundLaws.{StandsIn, derived_sound, each}
use Rattle.sc_core_rules.proofs.SoundProcessing.{where_either}
use Rattle.sc_core_rules.proofs.DemodulatorLaws.{home_of_demodulators}
use Rattle.sc_core_rules.proofs.TurnLaws.{turns_one, turns_sound}

-- ---- input clauses stand under their numbers

placed : (n : ℕ) (cs : List Clause) (p : Numbered) → Contains (numbered_from n cs) p → (k : ℕ) × (p.number ≡ n + k) × (slice_get cs k ≡ Some p.clause)
placed n [] p h = absurd (omega (arith, h.1))
placed n (c ∷ cs) p h = by (λ k. placed (n + 1) cs p k) (first_or_later p (record { number = n; clause = c }) (numbered_from (n + 1) cs) h)
  where
    by : (Contains (numbered_from (n + 1) cs) p → (k : ℕ) × (p.number ≡ n + 1 + k) × (slice_get cs k ≡ Some p.clause))
        → (record { number = n; clause = c } ≡ p) ⊎ Contains (numbered_from (n + 1) cs) p → (k : ℕ) × (p.number ≡ n + k) × (slice_get (c ∷ cs) k ≡ Some p.clause)
    by below (inl e) = (0, (let f = ap (λ (q : Numbered). q.number) e in omega (arith, f)), ap (λ (q : Numbered). Some q.clause) e)
    by below (inr k) = let found = below k in (suc found.0, omega (arith, found.1), found.2)

pub input_stands : (problem : Stated) (p : Numbered) → Contains (input_clauses problem) p → numbered problem.inputs p.number ≡ Some p.clause
input_stands problem p h =
    let at = placed 1 problem.inputs p h in
    let e : p.number ≡ suc at.0 = omega (arith, at.1) in
    ap (numbered problem.inputs) e ∙ numbered-suc problem.inputs at.0 ∙ at.2

inputs_tell : (problem : Stated) → NumbersTell (input_clauses problem)
inputs_tell problem x y h k e = same_numbered problem.inputs x y (input_stands problem x h) (input_stands problem y k) e

-- ---- the start

opens_one : (problem : Stated) (book other : Book) → OpensBook problem book → OpensBook problem other → book ≡ other
opens_one problem book other h k =
    let home = λ (place : Home) (ps qs : List Numbered) (a : AreAtHome problem place ps) (b : AreAtHome problem place qs). filter_is_one (IsAtHome problem place) (input_clauses problem) ps qs a b in
    let usable : book.usable ≡ other.usable = home Usable book.usable other.usable h.usable k.usable in
    let sos : book.sos ≡ other.sos = home Sos book.sos other.sos h.sos k.sos in
    let passive : book.passive ≡ other.passive = home Passive book.passive other.passive h.passive k.passive in
    let demods : book.demods ≡ other.demods = home Demodulators book.demods other.demods h.demods k.demods in
    let derived : book.derived ≡ other.derived = h.no_derived ∙ sym k.no_derived in
    let kept : book.kept ≡ other.kept = h.no_kept ∙ sym k.no_kept in
    λ i. record { derived = derived i; usable = usable i; sos = sos i; passive = passive i; demods = demods i; kept = kept i }

-- an input clause whose home is the list demodulators is a demodulator
demodulator_there : (problem : Stated) → IsProblem problem → (p : Numbered) → Contains (input_clauses problem) p → IsAtHome problem Demodulators p → IsDemodulator p.clause
demodulator_there problem such p h home =
    let at = placed 1 problem.inputs p h in
    let e : p.number ≡ suc at.0 = omega (arith, at.1) in
    home_of_demodulators problem.homes problem.inputs at.0 p.clause such.demodulators (sym (numbered-suc problem.homes at.0) ∙ sym (ap (numbered problem.homes) e) ∙ home) at.2

pub opened_sound : (problem : Stated) (book : Book) → IsProblem problem → OpensBook problem book → IsSound problem book
opened_sound problem book such h = record {
  under_numbers = each (StandsIn problem book) (live book ++ book.demods) (λ p k. stands p (from p (in_either p (live book) book.demods k)));
  demodulators = each (λ d. IsDemodulator d.clause) book.demods (λ d k. let at = filter_within (IsAtHome problem Demodulators) d (input_clauses problem) book.demods h.demods k in demodulator_there problem such d at.0 at.1);
}
  where
    stands : (p : Numbered) → Contains (input_clauses problem) p → StandsIn problem book p
    stands p k = number_in_whole problem.inputs (map (λ (d : Derived). d.clause) book.derived) p.number p.clause (input_stands problem p k)

    one : (p : Numbered) → Contains book.usable p ⊎ Contains book.sos p → Contains (input_clauses problem) p
    one p (inl k) = (filter_within (IsAtHome problem Usable) p (input_clauses problem) book.usable h.usable k).0
    one p (inr k) = (filter_within (IsAtHome problem Sos) p (input_clauses problem) book.sos h.sos k).0

    two : (p : Numbered) → Contains (book.usable ++ book.sos) p ⊎ Contains book.passive p → Contains (input_clauses problem) p
    two p (inl k) = one p (in_either p book.usable book.sos k)
    two p (inr k) = (filter_within (IsAtHome problem Passive) p (input_clauses problem) book.passive h.passive k).0

    from : (p : Numbered) → Contains (live book) p ⊎ Contains book.demods p → Contains (input_clauses problem) p
    from p (inl k) = two p (in_either p (book.usable ++ book.sos) book.passive k)
    from p (inr k) = (filter_within (IsAtHome problem Demodulators) p (input_clauses problem) book.demods h.demods k).0

ends_with_one : (problem : Stated) (opened : Book) (n : Numbered) (book other : Book) (goal aim : Option ℕ) → EndsWith problem opened n book goal → EndsWith problem opened n other aim → (book ≡ other) × (goal ≡ aim)
ends_with_one problem opened n book other goal aim = where_case (λ h k. (h.0 ∙ sym k.0, h.1 ∙ sym k.1))
    (λ h k.
    let m : h.0 ≡ k.0 = least_one (IsEarlierRival problem n) (input_clauses problem) h.0 k.0 (inputs_tell problem) h.2 k.2 in
    let made : h.1 ≡ k.1 = conflict_one n k.0 h.1 k.1 (subst (λ (q : Numbered). Conflicts n q h.1) m h.3) k.3 in
    (h.4 ∙ ap (λ (d : Derived). with_derived opened d.clause d.lines) made ∙ sym k.4, h.5 ∙ sym k.5))

starts_one : (problem : Stated) (book other : Book) (goal aim : Option ℕ) → Starts problem book goal → Starts problem other aim → (book ≡ other) × (goal ≡ aim)
starts_one problem book other goal aim h k =
    let opened : h.opened ≡ k.opened = opens_one problem h.opened k.opened h.opens k.opens in
    where_case
    (λ a b.
    let n : a.0 ≡ b.0 = least_one (EndsStart problem) (input_clauses problem) a.0 b.0 (inputs_tell problem) a.1 b.1 in
    ends_with_one problem k.opened b.0 book other goal aim
    (subst (λ (p : Numbered). EndsWith problem k.opened p book goal) n (subst (λ (o : Book). EndsWith problem o a.0 book goal) opened a.2)) b.2)
    (λ a b. (a.0 ∙ opened ∙ sym b.0, a.1 ∙ sym b.1)) h.ends k.ends

pub starts_sound : (problem : Stated) (book : Book) (goal : Option ℕ) → IsProblem problem → Starts problem book goal → IsSound problem book
starts_sound problem book goal such h =
    let opened = opened_sound problem h.opened such h.opens in
    where_either
    (λ a. where_either (λ b. subst (IsSound problem) (sym b.0) opened) (λ b. subst (IsSound problem) (sym b.4) (derived_sound problem h.opened b.1.clause b.1.lines opened)) a.2)
    (λ a. subst (IsSound problem) (sym a.0) opened) h.ends

-- ---- the run

goes_over_one : (problem : Stated) (looks : List Seen) (old new other : Run) → IsSound problem old.book → GoesOver problem old looks new → GoesOver problem old looks other → new ≡ other
goes_over_one problem [] old new other sound h k = h ∙ sym k
goes_over_one problem (look ∷ looks) old new other sound h k =
    let mid : h.0 ≡ k.0 = where_case (λ a b. a ∙ sym b) (turns_one problem old look h.0 k.0 sound) h.1 k.1 in
    let there : IsSound problem (k.0).book = where_either (λ a. subst (λ (r : Run). IsSound problem r.book) (sym a) sound) (turns_sound problem old look k.0 sound) k.1 in
    goes_over_one problem looks k.0 new other there (subst (λ (r : Run). GoesOver problem r looks new) mid h.2) k.2

pub run_is_one : RunIsOne
run_is_one problem looks run other such h k =
    let start = starts_one problem h.book k.book h.goal k.goal h.starts k.starts in
    goes_over_one problem looks (started k.book k.goal) run other (starts_sound problem k.book k.goal such k.starts)
    (subst (λ (g : Option ℕ). GoesOver problem (started k.book g) looks run) start.1 (subst (λ (b : Book). GoesOver problem (started b h.goal) looks run) start.0 h.goes)) k.goes
