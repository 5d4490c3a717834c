-- The limits that a clause has in problems and in texts that are read back.
use Rattle.std.specs.Prelude.{ℕ, Bool, List, [], ◌∷◌, Option, Some, None, option_map, slice_get, nat_lt, nat_le, if◌then◌else◌}
use Rattle.sc_input_rules.specs.declared.token.Token.{Token}
use Rattle.sc_input_rules.specs.Token.{at_of}
use Rattle.sc_input_rules.specs.Measures.{weight_so_far, depth_so_far, arguments_so_far}

-- how many arguments a name may have, how many clauses and symbols a problem, and what a clause may weigh and how deep it may be
pub record Bounds : Type 0 where
  pub arity : ℕ
  pub clauses : ℕ
  pub weight : ℕ
  pub depth : ℕ
  pub symbols : ℕ

abbrev pub when : {X : Type 0} → Bool → Option X → Option X
when test x = if test then x else None

-- where the last token begins, and the first
abbrev pub last_at : List Token → Option ℕ
last_at [] = None
last_at (t ∷ []) = Some (at_of t)
last_at (t ∷ u ∷ tokens) = last_at (u ∷ tokens)

abbrev pub first_at : List Token → Option ℕ
first_at tokens = option_map at_of (slice_get tokens 0)

-- Each of these is asked of the tokens of a clause so far.

-- the `,` before an argument too many
abbrev pub arity_told : Bounds → List Token → Option ℕ
arity_told bounds tokens = when (nat_le bounds.arity (arguments_so_far tokens)) (last_at tokens)

-- the word, `=` or `!=` that makes the weight too great
abbrev pub weight_told : Bounds → List Token → Option ℕ
weight_told bounds tokens = when (nat_lt bounds.weight (weight_so_far tokens)) (last_at tokens)

-- the token that makes the atom too deep
abbrev pub depth_told : Bounds → List Token → Option ℕ
depth_told bounds tokens = when (nat_lt bounds.depth (depth_so_far tokens)) (last_at tokens)
