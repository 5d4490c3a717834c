-- Measures, instances and the canonical form of a clause.
use Rattle.std.specs.Prelude.{◌≡◌, ◌≤◌, ℕ, ◌+◌, List, [], ◌∷◌, sum, map, nat_eq, if◌then◌else◌}
use Rattle.std.specs.List.{list_any}
use Rattle.sc_term.specs.declared.Term.{Term}
use Rattle.sc_term.specs.declared.Literal.{Literal}
use Rattle.sc_term.specs.declared.Clause.{Clause}
use Rattle.sc_term.specs.Term.{largest, joined, term_weight, term_depth, term_width, term_variables, term_instance}

-- the predicate counts one, the sign nothing
abbrev pub literal_weight : Literal → ℕ
literal_weight l = 1 + sum (map term_weight l.args)

abbrev pub weight : Clause → ℕ
weight c = sum (map literal_weight c.literals)

abbrev pub literal_depth : Literal → ℕ
literal_depth l = 1 + largest (map term_depth l.args)

abbrev pub depth : Clause → ℕ
depth c = largest (map literal_depth c.literals)

abbrev pub literal_width : Literal → ℕ
literal_width l = largest (map term_width l.args)

abbrev pub width : Clause → ℕ
width c = largest (map literal_width c.literals)

abbrev pub literal_instance : List Term → Literal → Literal
literal_instance terms l = record l { args = map (term_instance terms) l.args }

abbrev pub instance : List Term → Clause → Clause
instance terms c = record { literals = map (literal_instance terms) c.literals }

-- the limits on what is made
pub record IsWithinLimits (c : Clause) : Type 0 where
  pub light : weight c ≤ 10000
  pub shallow : depth c ≤ 256

-- the variables in the order in which they occur
abbrev pub variables : Clause → List ℕ
variables c = joined (map (λ (l : Literal). joined (map term_variables l.args)) c.literals)

-- each number once, where it stands first: `seen` stand before
abbrev pub firsts_after : List ℕ → List ℕ → List ℕ
firsts_after seen [] = []
firsts_after seen (n ∷ ns) = if list_any (nat_eq n) seen then firsts_after seen ns else n ∷ firsts_after (n ∷ seen) ns

abbrev pub firsts : List ℕ → List ℕ
firsts ns = firsts_after [] ns

-- n, n + 1, ..
abbrev pub counting_from : ℕ → List ℕ → List ℕ
counting_from n [] = []
counting_from n (x ∷ xs) = n ∷ counting_from (n + 1) xs

-- the variables are numbered from 0 by first occurrence
abbrev pub IsCanonical : Clause → Type 0
IsCanonical c = let order = firsts (variables c) in order ≡ counting_from 0 order
