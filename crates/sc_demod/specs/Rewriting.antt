-- A clause rewritten once.
use Rattle.std.specs.Prelude.{◌≡◌, ◌<◌, ℕ, List, Contains, AllPairs, Some}
use Rattle.sc_term.specs.declared.Term.{Term}
use Rattle.sc_term.specs.declared.Literal.{Literal}
use Rattle.sc_term.specs.declared.Clause.{Clause}
use Rattle.sc_term.specs.declared.Line.{Line}
use Rattle.sc_term.specs.declared.Numbered.{Numbered}
use Rattle.sc_term.specs.Clause.{instance, IsWithinLimits}
use Rattle.sc_term.specs.Numbering.{numbered, with_element}
use Rattle.sc_term.specs.Path.{IsReplaced}
use Rattle.sc_steps.specs.Derivation.{last_clause}
use Rattle.sc_core_rules.specs.Rewriting.{IsEquation, IsDemodulator, RewritesOnce}
use Rattle.sc_demod.specs.Standing.{Agrees}
use Rattle.sc_demod.specs.Finding.{FindsIn}

-- demodulators whose numbers rise
pub record AreDemods (ds : List Numbered) : Type 0 where
  pub rising : AllPairs (λ p q. p.number < q.number) ds
  pub all : (d : Numbered) → Contains ds d → IsDemodulator d.clause

-- `input` lines of the numbers have these clauses
abbrev pub AllAgree : List Line → List Numbered → Type 0
AllAgree lines ds = (d : Numbered) → Contains ds d → Agrees lines d

-- in literal b of the clause the redex at the path is replaced by the value
pub record IsPutIn (c : Clause) (b : ℕ) (path : List ℕ) (redex value : Term) (d : Clause) : Type 0 where
  pub literal : Literal
  pub literal_there : numbered c.literals b ≡ Some literal
  pub args : List Term
  pub replaced : IsReplaced literal.args path redex value args
  pub put : d.literals ≡ with_element c.literals b (record literal { args = args })

-- the first redex of the clause is replaced by the first demodulator that fits, within the limits
pub record IsChange (demods : List Numbered) (c : Clause) (b : ℕ) (path : List ℕ) (place : ℕ) (terms : List Term) (part after : Clause) : Type 0 where
  pub found : FindsIn demods c.literals b path place terms
  pub part_is : part ≡ instance terms ((found.found.fits.demodulator).clause)
  pub value : Term
  pub is_value : IsEquation part (found.found.redex) value
  pub put : IsPutIn c b path (found.found.redex) value after
  pub part_within : IsWithinLimits part
  pub after_within : IsWithinLimits after

-- no lines that end with the clause are rewritten
abbrev pub IsIrreducible : List Numbered → Clause → Type 0
IsIrreducible demods c = (before after : List Line) → last_clause before ≡ Some c → AllAgree before demods → ¬ RewritesOnce demods before after

-- the lines are rewritten once, and end with the clause, which is within the limits
pub record IsRewritten (demods : List Numbered) (before after : List Line) (c : Clause) : Type 0 where
  pub once : RewritesOnce demods before after
  pub ends : last_clause after ≡ Some c
  pub within : IsWithinLimits c
