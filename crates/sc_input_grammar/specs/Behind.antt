-- What is read, behind what was read before.
use Rattle.std.specs.Prelude.{ℕ, ◌+◌, List, ◌++◌, length, flat_map, Ok}
use Rattle.sc_input_rules.specs.declared.token.Token.{Token}
use Rattle.sc_input_rules.specs.declared.token.Sign.TheVariants.{Minus}
use Rattle.sc_input_rules.specs.declared.written.WrittenLiteral.{WrittenLiteral}
use Rattle.sc_input_rules.specs.Reader.{Read, ◌>>=◌, the_sign}
use Rattle.sc_input_rules.specs.Syntax.{Side}
use Rattle.sc_input_rules.specs.ClauseGrammar.{bracketed_or, negative_atom, negated}

-- a list behind another
abbrev pub behind : {A : Type 0} → List A → Read (List A) → Read (List A)
behind front read = read >>= λ r. Ok (front ++ r.0, r.1)

-- sides behind names: how many sides, and the names in a row
abbrev pub sides_behind : ℕ → Side → Read (List Side) → Read (ℕ × Side)
sides_behind count front read = read >>= λ r. Ok ((count + length r.0, front ++ flat_map (λ s. s) r.0), r.1)

-- - side; - ( equation )
abbrev pub negative_literal : List Token → Read WrittenLiteral
negative_literal tokens = the_sign Minus tokens >>= λ minus. bracketed_or negative_atom minus.1 >>= λ l. Ok (negated l.0, l.1)
