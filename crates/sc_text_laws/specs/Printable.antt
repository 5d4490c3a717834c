-- Which lines are read back from the text that they are printed as.
use Rattle.std.specs.Prelude.{◌≡◌, ◌≢◌, ◌<◌, ◌≤◌, ◌^◌, ℕ, Bool, true, false, not, ◌&&◌, List, [], ◌∷◌, drop, length, ◌==◌, IsTrue}
use Rattle.std.specs.List.{list_all, AllByRecursion}
use Rattle.sc_term.specs.declared.Term.{Term}
use Rattle.sc_term.specs.declared.Clause.{Clause}
use Rattle.sc_term.specs.declared.Step.{Step}
use Rattle.sc_term.specs.declared.Step.TheVariants.{Input, Instance, Resolve, Merge, Para, Flip}
use Rattle.sc_term.specs.declared.Line.{Line}
use Rattle.sc_term.specs.Term.{term_weight, term_depth, term_width}
use Rattle.sc_term.specs.Clause.{weight, depth, width}
use Rattle.sc_term.specs.declared.symbol.Symbol.{Symbol}
use Rattle.sc_term.specs.Symbol.{IsSignature, role_number}
use Rattle.sc_input_rules.specs.Tokens.{is_word_byte}
use Rattle.sc_input_rules.specs.Numbering.{is_variable}
use Rattle.sc_input_rules.specs.WellFormed.{IsOver, term_is_over}

-- ---- names

-- a letter, a digit or `_`
abbrev pub is_name_byte : ℕ → Bool
is_name_byte b = is_word_byte b && not (b == 36)

abbrev pub is_name : List ℕ → Bool
is_name [] = false
is_name (b ∷ bs) = list_all is_name_byte (b ∷ bs)

-- a function without arguments whose name is that of a variable
abbrev pub is_named_as_variable : Symbol → Bool
is_named_as_variable s = role_number s.role == 0 && is_variable (record { at = 0; name = s.name; arity = s.arity })

pub record IsNamed (s : Symbol) : Type 0 where
  pub name : is_name s.name ≡ true
  pub constant : is_named_as_variable s ≡ false

-- a signature in which each symbol but `=`, which is the first, has such a name
pub record AreNamed (symbols : List Symbol) : Type 0 where
  pub signature : IsSignature symbols
  pub names : AllByRecursion IsNamed (drop 1 symbols)

-- ---- clauses and terms

pub record IsPrintableClause (symbols : List Symbol) (c : Clause) : Type 0 where
  pub over : IsOver symbols c
  pub light : weight c ≤ 10000
  pub shallow : depth c ≤ 256
  pub narrow : width c ≤ 65536

pub record IsPrintableTerm (symbols : List Symbol) (t : Term) : Type 0 where
  pub over : IsTrue (term_is_over symbols t)
  pub light : term_weight t ≤ 10000
  pub shallow : term_depth t ≤ 256
  pub narrow : term_width t ≤ 65536

-- ---- steps and lines

abbrev pub IsShort : ℕ → Type 0
IsShort n = n < 2 ^ 32

abbrev pub AreShort : List ℕ → Type 0
AreShort ns = AllByRecursion IsShort ns

-- its numbers fit 32 bits, its terms are over the symbols, and its path isn't empty
abbrev pub IsPrintableStep : List Symbol → Step → Type 0
IsPrintableStep symbols (Input k) = IsShort k
IsPrintableStep symbols (Instance j terms) = IsShort j × AllByRecursion (IsPrintableTerm symbols) terms
IsPrintableStep symbols (Resolve j a k b) = AreShort (j ∷ a ∷ k ∷ b ∷ [])
IsPrintableStep symbols (Merge j a) = AreShort (j ∷ a ∷ [])
IsPrintableStep symbols (Para j a side k b path) = AreShort (j ∷ a ∷ k ∷ b ∷ []) × AreShort path × (path ≢ [])
IsPrintableStep symbols (Flip j a) = AreShort (j ∷ a ∷ [])

pub record IsPrintableLine (symbols : List Symbol) (line : Line) : Type 0 where
  pub step : IsPrintableStep symbols line.step
  pub clause : IsPrintableClause symbols line.clause

pub record IsPrintable (symbols : List Symbol) (lines : List Line) : Type 0 where
  pub named : AreNamed symbols
  pub few : length lines < 2 ^ 32
  pub each : AllByRecursion (IsPrintableLine symbols) lines
