-- What the counters of a clause so far hold.
use Rattle.std.specs.Prelude.{◌≡◌, ℕ, min, max, ◌||◌, List, [], ◌∷◌, map, reverse, if◌then◌else◌}
use Rattle.std.specs.List.{list_any, after_last}
use Rattle.sc_input_rules.specs.declared.token.Token.{Token}
use Rattle.sc_input_rules.specs.declared.token.Sign.TheVariants.{Bar, Minus}
use Rattle.sc_input_rules.specs.Token.{is_sign}
use Rattle.sc_input_rules.specs.ClauseGrammar.{is_equality}
use Rattle.sc_input_rules.specs.Measures.{weight_so_far, greatest_level, around_behind, last_literal, open_commas}
use Rattle.sc_input_limits.specs.declared.count.Part.{Part}
use Rattle.sc_input_limits.specs.declared.count.Part.TheVariants.{Start, Signed, Inside}
use Rattle.sc_input_limits.specs.declared.count.AtomCount.{AtomCount}
use Rattle.sc_input_limits.specs.declared.count.LiteralCount.{LiteralCount}
use Rattle.sc_input_limits.specs.declared.count.ClauseCount.{ClauseCount}

-- an atom so far
pub record AtomCounted (atom : List Token) (a : AtomCount) : Type 0 where
  pub around : a.around ≡ around_behind 0 atom
  pub level : a.level ≡ greatest_level 0 atom
  pub equality : a.equality ≡ list_any is_equality atom

-- from one count of an atom to that with one token more
pub record AtomGrows (t : Token) (before after : AtomCount) : Type 0 where
  pub around : after.around ≡ around_behind before.around (t ∷ [])
  pub level : after.level ≡ max before.level (greatest_level before.around (t ∷ []))
  pub equality : after.equality ≡ (before.equality || is_equality t)

-- where the next token of the literal stands
abbrev pub part_behind : List Token → Part
part_behind [] = Start
part_behind (t ∷ []) = if is_sign Minus t then Signed else Inside
part_behind (t ∷ u ∷ tokens) = Inside

-- the last literal of a clause so far
pub record LiteralCounted (tokens : List Token) (l : LiteralCount) : Type 0 where
  pub part : l.part ≡ part_behind (after_last (is_sign Bar) tokens)
  pub atom : AtomCounted (last_literal tokens) l.atom

-- counts of commas, up to 8
abbrev pub low : List ℕ → List ℕ
low commas = map (λ n. min n 8) commas

-- a clause so far
pub record Counted (tokens : List Token) (c : ClauseCount) : Type 0 where
  pub weight : c.weight ≡ weight_so_far tokens
  pub literal : LiteralCounted tokens c.literal
  pub commas : c.commas ≡ reverse (low (open_commas [] tokens))
