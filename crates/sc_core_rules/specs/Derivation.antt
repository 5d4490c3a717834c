-- How the lines of a derivation go on: a step, the `input` line of a clause, the `instance` line of its part, the
-- canonical form.
use Rattle.std.specs.Prelude.{◌≡◌, ◌<◌, ◌⊎◌, ℕ, List, [], ◌∷◌, ◌++◌, length, Some, IsSomeAnd, Contains, slice_get}
use Rattle.sc_term.specs.declared.Term.{Term, Var}
use Rattle.sc_term.specs.declared.Clause.{Clause}
use Rattle.sc_term.specs.declared.Line.{Line}
use Rattle.sc_term.specs.declared.Step.{Step}
use Rattle.sc_term.specs.declared.Step.TheVariants.{Input, Instance}
use Rattle.sc_term.specs.Clause.{instance, width, variables, IsCanonical}
use Rattle.sc_term.specs.Proof.{Follows}
use Rattle.sc_term.specs.declared.Numbered.{Numbered}
use Rattle.sc_term.specs.JointInstance.{canonical}
use Rattle.sc_steps.specs.Derivation.{IsInputAt, last_clause}
use Rattle.sc_core_rules.specs.Order.{Where}

-- one line is added, which follows by the step from the earlier ones alone
abbrev pub Adds : List Line → Step → List Line → Type 0
Adds before step after = (c : Clause) × Follows [] before c step × (after ≡ before ++ record { step = step; clause = c } ∷ [])

-- ---- a clause by its number

-- line k is the first `input` line of clause n
abbrev pub IsFirstInput : List Line → ℕ → ℕ → Type 0
IsFirstInput lines n k = IsInputAt lines n k × ((j : ℕ) → j < k → ¬ IsInputAt lines n j)

-- line k has the clause by its number. The line is added where there is none
abbrev pub AddsInput : List Line → Numbered → List Line → ℕ → Type 0
AddsInput before p after k =
    (IsFirstInput before p.number k × (after ≡ before))
    ⊎ (((j : ℕ) → ¬ IsInputAt before p.number j)
    × (after ≡ before ++ record { step = Input p.number; clause = p.clause } ∷ []) × (k ≡ length after))

-- ---- an instance of it

-- the terms that take the clause to the part: as many as its width, and x0 for a variable that doesn't occur
pub record AreTermsTo (c part : Clause) (terms : List Term) : Type 0 where
  pub many : length terms ≡ width c
  pub gives : instance terms c ≡ part
  pub rest : (n : ℕ) → n < width c → ¬ Contains (variables c) n → slice_get terms n ≡ Some (Var 0)

-- line k has the part, an instance of the clause. An `instance` line is added where the part isn't the clause itself
abbrev pub AddsPart : List Line → Numbered → Clause → List Line → ℕ → Type 0
AddsPart before p part after k =
    (mid : List Line) × (j : ℕ) × AddsInput before p mid j
    × Where (part ≡ p.clause)
    ((after ≡ mid) × (k ≡ j))
    ((terms : List Term) × AreTermsTo p.clause part terms × Adds mid (Instance j terms) after × (k ≡ length after))

-- the same for each parent in order; ks are the lines of the parts
abbrev pub AddsParts : List Line → List Numbered → List Clause → List Line → List ℕ → Type 0
AddsParts before [] [] after ks = (after ≡ before) × (ks ≡ [])
AddsParts before (p ∷ ps) (part ∷ parts) after (k ∷ ks) = (mid : List Line) × AddsPart before p part mid k × AddsParts mid ps parts after ks
AddsParts before (p ∷ ps) (part ∷ parts) after [] = ⊥
AddsParts before (p ∷ ps) [] after ks = ⊥
AddsParts before [] (part ∷ parts) after ks = ⊥

-- ---- its end

-- an `instance` line to the canonical form of the last clause is added, unless that is canonical already
abbrev pub EndsCanonical : List Line → List Line → Type 0
EndsCanonical before after = IsSomeAnd (last_clause before) (λ c.
    Where (IsCanonical c)
    (after ≡ before)
    ((terms : List Term) × AreTermsTo c (canonical c) terms × Adds before (Instance (length before) terms) after))
