-- The steps of a proof, and when lines are one.
use Rattle.std.specs.Prelude.{◌≡◌, ◌<◌, ◌≤◌, ℕ, ◌+◌, ◌-◌, List, [], ◌∷◌, ◌++◌, true, not, IsSomeAnd, Some, option_map, length, take, Option}
use Rattle.std.specs.List.{Contains}
use Rattle.sc_term.specs.declared.Literal.{Literal}
use Rattle.sc_term.specs.declared.Clause.{Clause}
use Rattle.sc_term.specs.declared.Step.{Step}
use Rattle.sc_term.specs.declared.Step.TheVariants.{Input, Instance, Resolve, Merge, Para, Flip}
use Rattle.sc_term.specs.declared.Side.{Side}
use Rattle.sc_term.specs.declared.Side.TheVariants.{Left, Right}
use Rattle.sc_term.specs.declared.Term.{Term}
use Rattle.sc_term.specs.declared.Line.{Line}
use Rattle.sc_term.specs.Numbering.{numbered, without, with_element}
use Rattle.sc_term.specs.Path.{IsReplaced}
use Rattle.sc_term.specs.Refuted.{atom_of, equals, equation}
use Rattle.sc_term.specs.Clause.{instance, width}

-- the two have opposite signs and the same atom
abbrev pub AreOpposite : Literal → Literal → Type 0
AreOpposite l m = (l.positive ≡ not m.positive) × (atom_of l ≡ atom_of m)

abbrev pub IsResolvent : Clause → ℕ → Clause → ℕ → Clause → Type 0
IsResolvent left a right b c =
    IsSomeAnd (numbered left.literals a) (λ l. IsSomeAnd (numbered right.literals b) (λ m.
    AreOpposite l m × (c.literals ≡ without left.literals a ++ without right.literals b)))

-- literal a equals an earlier one, and is left out
abbrev pub IsMerged : Clause → ℕ → Clause → Type 0
IsMerged of a c =
    IsSomeAnd (numbered of.literals a) (λ l.
    Contains (take (a - 1) of.literals) l × (c.literals ≡ without of.literals a))

-- the chosen side of an equation of s and t, and the other one
abbrev pub chosen : Side → Term → Term → Term
chosen Left s t = s
chosen Right s t = t

abbrev pub other : Side → Term → Term → Term
other Left s t = t
other Right s t = s

-- literal a of `from` is a positive equation, whose chosen side is the subterm of literal b of `into` at the path:
-- the other side takes its place, and the rest of `from` follows
abbrev pub IsParamodulant : Clause → ℕ → Side → Clause → ℕ → List ℕ → Clause → Type 0
IsParamodulant from a side into b path c =
    (s : Term) × (t : Term) × (numbered from.literals a ≡ Some (equation true s t))
    × IsSomeAnd (numbered into.literals b) (λ m.
    (args : List Term) × IsReplaced m.args path (chosen side s t) (other side s t) args
    × (c.literals ≡ with_element into.literals b (record m { args = args }) ++ without from.literals a))

-- the two sides of literal a, which is an equation, are exchanged
abbrev pub IsFlipped : Clause → ℕ → Clause → Type 0
IsFlipped of a c =
    IsSomeAnd (numbered of.literals a) (λ l. (s : Term) × (t : Term) × (l.pred ≡ equals) × (l.args ≡ s ∷ t ∷ [])
    × (c.literals ≡ with_element of.literals a (record l { args = t ∷ s ∷ [] })))

-- the clause of line number n
abbrev pub clause_of : List Line → ℕ → Option Clause
clause_of lines n = option_map (λ (l : Line). l.clause) (numbered lines n)

-- the clause follows from the input clauses and the earlier lines by the step
abbrev pub Follows : List Clause → List Line → Clause → Step → Type 0
Follows inputs earlier c (Input k) = numbered inputs k ≡ Some c
Follows inputs earlier c (Instance j terms) =
    IsSomeAnd (clause_of earlier j) (λ of. (length terms ≡ width of) × (c ≡ instance terms of))
Follows inputs earlier c (Resolve j a k b) =
    IsSomeAnd (clause_of earlier j) (λ left. IsSomeAnd (clause_of earlier k) (λ right. IsResolvent left a right b c))
Follows inputs earlier c (Para j a side k b path) =
    IsSomeAnd (clause_of earlier j) (λ from. IsSomeAnd (clause_of earlier k) (λ into. IsParamodulant from a side into b path c))
Follows inputs earlier c (Flip j a) = IsSomeAnd (clause_of earlier j) (λ of. IsFlipped of a c)
Follows inputs earlier c (Merge j a) = IsSomeAnd (clause_of earlier j) (λ of. IsMerged of a c)

abbrev pub IsStep : List Clause → List Line → Line → Type 0
IsStep inputs earlier line = Follows inputs earlier line.clause line.step

-- line number k is a step from the lines before it
abbrev pub IsStepAt : List Clause → List Line → ℕ → Type 0
IsStepAt inputs lines k = IsSomeAnd (numbered lines k) (λ line. IsStep inputs (take (k - 1) lines) line)

-- every line is a step from the lines before it
abbrev pub AreSteps : List Clause → List Line → Type 0
AreSteps inputs lines = (k : ℕ) → k < length lines → IsStepAt inputs lines (k + 1)

-- the last clause is false
abbrev pub EndsFalse : List Line → Type 0
EndsFalse lines = IsSomeAnd (clause_of lines (length lines)) (λ c. c.literals ≡ [])

pub record IsProof (inputs : List Clause) (lines : List Line) : Type 0 where
  pub steps : AreSteps inputs lines
  pub ends : EndsFalse lines

-- the first line that isn't a step, or else, where the last clause isn't false, the line after the last
pub record IsFirstFault (inputs : List Clause) (lines : List Line) (k : ℕ) : Type 0 where
  pub earlier : (i : ℕ) → i + 1 < k → IsStepAt inputs lines (i + 1)
  pub at : (k ≤ length lines → ¬ IsStepAt inputs lines k) × (length lines < k → ¬ EndsFalse lines)
  pub within : (0 < k) × (k ≤ length lines + 1)
