-- What becomes of a conclusion.
use Rattle.std.specs.Prelude.{◌≡◌, ◌≢◌, ◌<◌, ℕ, ◌+◌, List, [], ◌∷◌, ◌++◌, Contains, Some, length, map, true}
use Rattle.sc_term.specs.declared.Clause.{Clause}
use Rattle.sc_term.specs.declared.Line.{Line}
use Rattle.sc_input_rules.specs.Problem.{Stated}
use Rattle.sc_term.specs.declared.Numbered.{Numbered}
use Rattle.sc_steps.specs.declared.derivations.derivation.Derived.{Derived}
use Rattle.sc_core_rules.specs.declared.fate.Fate.{Fate}
use Rattle.sc_core_rules.specs.declared.fate.Fate.TheVariants.{Kept, Empty, Taut, Heavy, Long, Subsumed}
use Rattle.sc_core_rules.specs.declared.fate.Processed.{Processed}
use Rattle.sc_term.specs.Subsumption.{Subsumes, IsTautology}
use Rattle.sc_core_rules.specs.Rewriting.{number_of, HasRedex, BecomesDemodulator}
use Rattle.sc_core_rules.specs.Simplification.{Simplifies}
use Rattle.sc_steps.specs.Derivation.{last_clause}
use Rattle.sc_core_rules.specs.Book.{IsSound, Book, next_number, live, weight_in, with_derived, with_deleted}
use Rattle.sc_core_rules.specs.Conflict.{IsUnit, Conflicts}
use Rattle.sc_core_rules.specs.Order.{Where, With, AreInOrder, IsLeast}

-- this fate, with nothing deleted
abbrev pub only_fate : Fate → Processed
only_fate fate = record { fate = fate; gone = []; again = [] }

-- the conclusion is dropped with this fate, and the book stays
abbrev pub Drops : Book → Book → Processed → Fate → Type 0
Drops old new out fate = (new ≡ old) × (out ≡ only_fate fate)

-- ---- a kept clause

-- the clause joins the end of sos with the next number
abbrev pub with_kept : Stated → Book → Clause → List Line → ℕ → Book
with_kept problem old c lines turn = record (with_derived old c lines) {
  sos = old.sos ++ record { number = next_number problem old; clause = c } ∷ [];
  kept = old.kept ++ record { number = next_number problem old; turn = turn; weight = weight_in problem c; clause = c } ∷ [];
}

-- m is another live unit that conflicts with n
abbrev pub IsRival : Numbered → Numbered → Type 0
IsRival n m = (m.number ≢ n.number) × ((made : Derived) × Conflicts n m made)

-- those of usable and sos other than n of which P holds, in rising order of number
abbrev pub AreOthers : Book → Numbered → (Clause → Type 0) → List Numbered → Type 0
AreOthers book n P ps = AreInOrder number_of (λ p. Contains (book.usable ++ book.sos) p × (p.number ≢ n.number) × P p.clause) ps

-- n joins the demodulators
abbrev pub with_demodulator : Book → Numbered → Book
with_demodulator book n = record book { demods = book.demods ++ n ∷ [] }

-- with `back_sub` the clauses that n subsumes are deleted; with `dynamic_demod` n may become a demodulator, and then,
-- with `back_demod`, the clauses with a redex by it are deleted and processed again
pub record Sweeps (problem : Stated) (old : Book) (n : Numbered) (new : Book) (out : Processed) : Type 0 where
  pub subsumed : List Numbered
  pub are_subsumed : With problem.flags.back_sub (AreOthers old n (Subsumes n.clause) subsumed) (subsumed ≡ [])
  pub rewritten : List Numbered
  pub becomes :
      Where ((problem.flags.dynamic_demod ≡ true) × BecomesDemodulator n.clause)
      (With problem.flags.back_demod (AreOthers (with_deleted old subsumed) n (λ c. HasRedex c n) rewritten) (rewritten ≡ [])
      × (new ≡ with_demodulator (with_deleted (with_deleted old subsumed) rewritten) n))
      ((rewritten ≡ []) × (new ≡ with_deleted old subsumed))
  pub told : out ≡ record { fate = Kept n.number; gone = map (λ (p : Numbered). p.number) (subsumed ++ rewritten); again = map (λ (p : Numbered). p.number) rewritten }

-- a unit that has a rival gives the empty clause with the least one; another clause sweeps
abbrev pub Keeps : Stated → Book → Numbered → Book → Processed → Type 0
Keeps problem old n new out =
    Where (IsUnit n × ((m : Numbered) × Contains (live old) m × IsRival n m))
    ((m : Numbered) × (made : Derived) × IsLeast number_of (IsRival n) (live old) m × Conflicts n m made
    × (new ≡ with_derived old made.clause made.lines) × (out ≡ only_fate (Empty (n.number + 1))))
    (Sweeps problem old n new out)

-- ---- every fate

-- the simplified clause c with its lines meets its fate: the first of these that applies
abbrev pub MeetsFate : Stated → Book → Clause → List Line → ℕ → Book → Processed → Type 0
MeetsFate problem old c lines turn new out =
    Where (c.literals ≡ []) ((new ≡ with_derived old c lines) × (out ≡ only_fate (Empty (next_number problem old))))
    (Where (IsTautology c) (Drops old new out Taut)
    (Where (problem.params.max_weight < weight_in problem c) (Drops old new out Heavy)
    (Where (problem.params.max_literals < length c.literals) (Drops old new out Long)
    (Where ((problem.flags.for_sub ≡ true) × ((m : Numbered) × Contains (live old) m × Subsumes m.clause c))
    ((m : Numbered) × IsLeast number_of (λ p. Subsumes p.clause c) (live old) m × Drops old new out (Subsumed m.number))
    (Keeps problem (with_kept problem old c lines turn) (record { number = next_number problem old; clause = c }) new out)))))

-- the conclusion with the lines of its derivation is simplified and meets its fate in this turn
pub record Processes (problem : Stated) (old : Book) (lines : List Line) (turn : ℕ) (new : Book) (out : Processed) : Type 0 where
  pub simplified : List Line
  pub simplifies : Simplifies problem.flags problem.params.demod_limit old.demods (live old) lines simplified
  pub clause : Clause
  pub clause_last : last_clause simplified ≡ Some clause
  pub fated : MeetsFate problem old clause simplified turn new out

-- one book and one fate are meant
abbrev pub ProcessingIsOne : Type 0
ProcessingIsOne = (problem : Stated) (old : Book) (lines : List Line) (turn : ℕ) (new other : Book) (out another : Processed) → IsSound problem old
    → Processes problem old lines turn new out → Processes problem old lines turn other another → (new ≡ other) × (out ≡ another)
