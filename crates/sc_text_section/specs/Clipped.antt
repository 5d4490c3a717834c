-- Lines as code answers them: a number greater than those of 32 bits stands as the greatest of these.
use Rattle.std.specs.Prelude.{ℕ, min, List, map, Ok}
use Rattle.sc_term.specs.declared.Term.{Term, fold-Term}
use Rattle.sc_term.specs.declared.Term.TheVariants.{Var, App}
use Rattle.sc_term.specs.declared.Term.TheOpen.{Term-F}
use Rattle.sc_term.specs.declared.Term.TheOpen as at
use Rattle.sc_term.specs.declared.Literal.{Literal}
use Rattle.sc_term.specs.declared.Clause.{Clause}
use Rattle.sc_term.specs.declared.Step.{Step}
use Rattle.sc_term.specs.declared.Step.TheVariants.{Input, Instance, Resolve, Merge, Para, Flip}
use Rattle.sc_term.specs.declared.Line.{Line}
use Rattle.sc_input_rules.specs.Reader.{Read, ◌>>=◌}

-- a number that is greater than 4294967295 stands as that number
abbrev pub clipped : ℕ → ℕ
clipped n = min n 4294967295

-- each variable of a term with its number clipped
abbrev pub clipped_at : Term-F Term → Term
clipped_at (at.Var n) = Var (clipped n)
clipped_at (at.App f args) = App f args

abbrev pub clipped_term : Term → Term
clipped_term = fold-Term Term clipped_at

abbrev pub clipped_literal : Literal → Literal
clipped_literal l = record l { args = map clipped_term l.args }

abbrev pub clipped_clause : Clause → Clause
clipped_clause c = record { literals = map clipped_literal c.literals }

-- each number of a step clipped, and those of its path and terms
abbrev pub clipped_step : Step → Step
clipped_step (Input k) = Input (clipped k)
clipped_step (Instance j terms) = Instance (clipped j) (map clipped_term terms)
clipped_step (Resolve j a k b) = Resolve (clipped j) (clipped a) (clipped k) (clipped b)
clipped_step (Merge j a) = Merge (clipped j) (clipped a)
clipped_step (Para j a side k b path) = Para (clipped j) (clipped a) side (clipped k) (clipped b) (map clipped path)
clipped_step (Flip j a) = Flip (clipped j) (clipped a)

abbrev pub clipped_line : Line → Line
clipped_line l = record { step = clipped_step l.step; clause = clipped_clause l.clause }

-- what is read, seen by f
abbrev pub seen_by : {A B : Type 0} → (A → B) → Read A → Read B
seen_by f read = read >>= λ r. Ok (f r.0, r.1)

-- lines that are read, clipped
abbrev pub clipped_lines : Read (List Line) → Read (List Line)
clipped_lines read = read >>= λ r. Ok (map clipped_line r.0, r.1)
