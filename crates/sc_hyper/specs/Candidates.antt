-- The literals of electrons.
use Rattle.std.specs.Prelude.{◌≡◌, ◌≤◌, ℕ, ◌+◌, List, [], ◌∷◌, Some, Contains, AllPairs, slice_get, length}
use Rattle.sc_term.specs.declared.Literal.{Literal}
use Rattle.sc_term.specs.declared.Clause.{Clause}
use Rattle.sc_term.specs.declared.Numbered.{Numbered}
use Rattle.sc_term.specs.Clause.{width, literal_width}
use Rattle.sc_term.specs.Numbering.{numbered}
use Rattle.sc_core_rules.specs.Order.{IsBefore, AreInOrder}
use Rattle.sc_resolve.specs.Extending.{Below}
use Rattle.sc_hyper.specs.declared.candidates.Candidate.{Candidate}

-- the numbers of a candidate: the electron and the literal
abbrev pub candidate_numbers : Candidate → List ℕ
candidate_numbers c = c.number ∷ c.lit ∷ []

-- a literal of a usable clause that fits
pub record IsCandidate (Fits : Clause → Type 0) (usable : List Numbered) (c : Candidate) : Type 0 where
  pub electron : Numbered
  pub listed : Contains usable electron
  pub fits : Fits electron.clause
  pub number : c.number ≡ electron.number
  pub wide : c.wide ≡ width electron.clause
  pub there : numbered electron.clause.literals c.lit ≡ Some c.literal

-- all candidates, in order
abbrev pub AreCandidates : (Clause → Type 0) → List Numbered → List Candidate → Type 0
AreCandidates Fits usable cs = AreInOrder candidate_numbers (IsCandidate Fits usable) cs

-- the clause has one literal
abbrev pub IsSingle : Clause → Type 0
IsSingle c = length c.literals ≡ 1

-- each comes before those behind it
abbrev pub DoRise : List Candidate → Type 0
DoRise cs = AllPairs (λ c d. IsBefore (candidate_numbers c) (candidate_numbers d)) cs

-- the clause and its literal have few variables
pub record IsNarrow (c : Candidate) : Type 0 where
  pub literal : literal_width c.literal ≤ 10000
  pub clause : c.wide ≤ 10000

-- the candidate of the electron's literal at k
abbrev pub IsOfElectron : Numbered → ℕ → Candidate → Type 0
IsOfElectron e k c =
    (l : Literal) × (slice_get e.clause.literals k ≡ Some l) × (c ≡ record { number = e.number; lit = k + 1; wide = width e.clause; literal = l })

-- a candidate of the usable clause at k
abbrev pub IsOfUsable : (Clause → Type 0) → List Numbered → ℕ → Candidate → Type 0
IsOfUsable Fits usable k c = (e : Numbered) × (slice_get usable k ≡ Some e) × Fits e.clause × Below (IsOfElectron e) (length e.clause.literals) c

-- it is literal 1
abbrev pub IsFirst : Candidate → Type 0
IsFirst c = c.lit ≡ 1
