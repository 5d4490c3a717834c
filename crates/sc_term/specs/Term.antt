-- Measures and instances of a term. Each is given by what it is at a variable, and at a symbol from what it is at
-- the arguments.
use Rattle.std.specs.Prelude.{ℕ, ◌+◌, List, [], ◌∷◌, sum, max, slice_index_or}
use Rattle.std.specs.List.{fold}
use Rattle.std.specs.List.{flat_map}
use Rattle.sc_term.specs.declared.Term.{Term, Var, fold-Term}
use Rattle.sc_term.specs.declared.Term.TheVariants.{App}
use Rattle.sc_term.specs.declared.Term.TheOpen.{Term-F}
use Rattle.sc_term.specs.declared.Term.TheOpen as at

-- the largest number of a list, 0 of none
abbrev pub largest : List ℕ → ℕ
largest ns = fold max 0 ns

-- the lists, one after another
abbrev pub joined : {X : Type 0} → List (List X) → List X
joined xss = flat_map (λ xs. xs) xss

-- how many symbols and variables occur
abbrev pub weight_step : Term-F ℕ → ℕ
weight_step (at.Var n) = 1
weight_step (at.App f weights) = 1 + sum weights

abbrev pub term_weight : Term → ℕ
term_weight = fold-Term ℕ weight_step

-- how deep symbols nest
abbrev pub depth_step : Term-F ℕ → ℕ
depth_step (at.Var n) = 1
depth_step (at.App f depths) = 1 + largest depths

abbrev pub term_depth : Term → ℕ
term_depth = fold-Term ℕ depth_step

-- 1 more than the greatest variable, 0 without one
abbrev pub width_step : Term-F ℕ → ℕ
width_step (at.Var n) = n + 1
width_step (at.App f widths) = largest widths

abbrev pub term_width : Term → ℕ
term_width = fold-Term ℕ width_step

-- the variables in the order in which they occur
abbrev pub variables_step : Term-F (List ℕ) → List ℕ
variables_step (at.Var n) = n ∷ []
variables_step (at.App f variables) = joined variables

abbrev pub term_variables : Term → List ℕ
term_variables = fold-Term (List ℕ) variables_step

-- term n of the list, or else the variable itself
abbrev pub value_of : List Term → ℕ → Term
value_of terms n = slice_index_or terms n (Var n)

-- what s gives for each variable in its place
abbrev pub under_step : (ℕ → Term) → Term-F Term → Term
under_step s (at.Var n) = s n
under_step s (at.App f args) = App f args

abbrev pub term_under : (ℕ → Term) → Term → Term
term_under s = fold-Term Term (under_step s)

-- term n of the list in place of variable n
abbrev pub instance_step : List Term → Term-F Term → Term
instance_step terms = under_step (value_of terms)

abbrev pub term_instance : List Term → Term → Term
term_instance terms = fold-Term Term (instance_step terms)
