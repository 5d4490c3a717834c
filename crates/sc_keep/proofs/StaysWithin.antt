-- Every clause that has a number is within the limits, at the start and after a conclusion was processed.
use Rattle.std.proofs.Common.{◌≡◌, sym, subst, ℕ, ◌≤◌, inl, inr, List, [], ◌∷◌, sum, map, Option, arith}
use Rattle.std.specs.List.{All, AllByRecursion, Contains}
use Rattle.std.proofs.lemmas.List.Elements.{All-append, All-cons, All-nil}
use Rattle.sc_term.specs.declared.Clause.{Clause}
use Rattle.sc_term.specs.declared.Line.{Line}
use Rattle.sc_term.specs.declared.Literal.{Literal}
use Rattle.sc_term.specs.declared.Numbered.{Numbered}
use Rattle.sc_term.specs.Term.{largest}
use Rattle.sc_term.specs.Clause.{IsWithinLimits, literal_depth, literal_weight}
use Rattle.sc_input_rules.specs.Problem.{Stated}
use Rattle.sc_input_rules.specs.WellFormed.{IsInput, IsProblem}
use Rattle.sc_term.specs.declared.symbol.Symbol.{Symbol}
use Rattle.sc_steps.specs.declared.derivations.derivation.Derived.{Derived}
use Rattle.sc_core_rules.specs.declared.fate.Processed.{Processed}
use Rattle.sc_core_rules.specs.Book.{Book, IsSound, live, next_number, numbered_clauses, with_derived}
use Rattle.sc_core_rules.specs.Conflict.{Conflicts}
use Rattle.sc_core_rules.specs.Processing.{with_kept, Keeps, Sweeps, MeetsFate}
use Rattle.sc_core_rules.specs.Start.{Starts, OpensBook, EndsWith, input_clauses}
use Rattle.sc_core_rules.proofs.ConflictLaws.{conflict_empty}
use Rattle.sc_core_rules.proofs.DerivedBook.{all_stand}
use Rattle.sc_core_rules.proofs.ProcessLaws.{Becomes}
use Rattle.sc_core_rules.proofs.RunLaws.{input_stands}
use Rattle.sc_core_rules.proofs.SoundLaws.{grown, kept_sound, kept_stands}
use Rattle.sc_core_rules.proofs.SoundProcessing.{where_either}
use Rattle.sc_keep.specs.State.{AreAllWithin, empty_book}

abbrev Within : Clause → Type 0
Within c = IsWithinLimits c

empty_within : (c : Clause) → c.literals ≡ [] → IsWithinLimits c
empty_within c e = record {
  light = subst (λ (ls : List Literal). sum (map literal_weight ls) ≤ 10000) (sym e) (omega arith);
  shallow = subst (λ (ls : List Literal). largest (map literal_depth ls) ≤ 256) (sym e) (omega arith);
}

inputs_within : (symbols : List Symbol) (cs : List Clause) → AllByRecursion (IsInput symbols) cs → All Within cs
inputs_within symbols [] h = All-nil Within
inputs_within symbols (c ∷ cs) h =
    let light = h.0.light in
    All-cons Within c cs (record { light = omega (arith, light); shallow = h.0.shallow }) (inputs_within symbols cs h.1)

module _ (problem : Stated) where
  one_within : (book : Book) (c : Clause) (lines : List Line) → AreAllWithin problem book → IsWithinLimits c → AreAllWithin problem (with_derived book c lines)
  one_within book c lines h w =
      subst (All Within) (sym (grown problem book c lines)) (All-append Within (numbered_clauses problem book) (c ∷ []) h (All-cons Within c [] w (All-nil Within)))

  -- ---- a conclusion

  module _ (old new : Book) (c : Clause) (lines : List Line) (turn : ℕ) (out : Processed) (sound : IsSound problem old) (within : IsWithinLimits c) (h : AreAllWithin problem old) where
    abbrev n : Numbered
    n = record { number = next_number problem old; clause = c }

    abbrev with_it : Book
    with_it = with_kept problem old c lines turn

    joined : AreAllWithin problem with_it
    joined = one_within old c lines h within

    swept : Sweeps problem with_it n new out → AreAllWithin problem new
    swept s = by s.becomes
      where
        by : Becomes problem with_it n new s.subsumed s.rewritten → AreAllWithin problem new
        by (inl k) = subst (AreAllWithin problem) (sym k.1.1) joined
        by (inr k) = subst (AreAllWithin problem) (sym k.1.1) joined

    conflicting : (m : Numbered) (made : Derived) → IsSound problem with_it → Contains (live with_it) m → Conflicts n m made → new ≡ with_derived with_it made.clause made.lines
        → AreAllWithin problem new
    conflicting m made is_sound there k e =
        subst (AreAllWithin problem) (sym e)
        (one_within with_it made.clause made.lines joined
        (empty_within made.clause (conflict_empty (numbered_clauses problem with_it) n m made (kept_stands problem old c lines turn) (all_stand problem with_it is_sound m there) k)))

    kept : Keeps problem with_it n new out → AreAllWithin problem new
    kept = where_either (λ k. conflicting k.0 k.1 (kept_sound problem old c lines turn sound) k.2.listed k.3 k.4) swept

    pub stay_within : MeetsFate problem old c lines turn new out → AreAllWithin problem new
    stay_within = where_either (λ k. subst (AreAllWithin problem) (sym k.0) (one_within old c lines h within))
        (where_either (λ k. subst (AreAllWithin problem) (sym k.0) h)
        (where_either (λ k. subst (AreAllWithin problem) (sym k.0) h)
        (where_either (λ k. subst (AreAllWithin problem) (sym k.0) h)
        (where_either (λ k. subst (AreAllWithin problem) (sym k.2.0) h) kept))))

  -- ---- the start

  module _ (such : IsProblem problem) where
    opened_within : (book : Book) → OpensBook problem book → AreAllWithin problem book
    opened_within book opens =
        All-append Within problem.inputs (map (λ (d : Derived). d.clause) book.derived) (inputs_within problem.symbols problem.inputs such.inputs)
        (subst (λ (ds : List Derived). All Within (map (λ (d : Derived). d.clause) ds)) (sym opens.no_derived) (All-nil Within))

    ended_within : (opened book : Book) (n : Numbered) (goal : Option ℕ) → Contains (input_clauses problem) n → OpensBook problem opened → EndsWith problem opened n book goal → AreAllWithin problem book
    ended_within opened book n goal there opens =
        where_either (λ k. subst (AreAllWithin problem) (sym k.0) (opened_within opened opens))
        (λ k. subst (AreAllWithin problem) (sym k.4)
        (one_within opened k.1.clause k.1.lines (opened_within opened opens)
        (empty_within k.1.clause (conflict_empty problem.inputs n k.0 k.1 (input_stands problem n there) (input_stands problem k.0 k.2.listed) k.3))))

    pub starts_within : (book : Book) (goal : Option ℕ) → Starts problem book goal → AreAllWithin problem book
    starts_within book goal h =
        where_either (λ k. ended_within h.opened book k.0 goal k.1.listed h.opens k.2)
        (λ k. subst (AreAllWithin problem) (sym k.0) (opened_within h.opened h.opens)) h.ends

-- ---- before it

pub none_within : (problem : Stated) (book : Book) → book ≡ empty_book → IsProblem problem → AreAllWithin problem book
none_within problem book e such =
    All-append Within problem.inputs (map (λ (d : Derived). d.clause) book.derived) (inputs_within problem.symbols problem.inputs such.inputs)
    (subst (λ (b : Book). All Within (map (λ (d : Derived). d.clause) b.derived)) (sym e) (All-nil Within))
