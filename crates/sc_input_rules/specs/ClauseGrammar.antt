-- The productions side, equation, literal and clause.
use Rattle.std.specs.Prelude.{ℕ, zero, suc, Bool, true, false, not, List, [], ◌∷◌, ◌++◌, length, Ok, codes, flat_map}
use Rattle.sc_input_rules.specs.declared.token.Token.{Token}
use Rattle.sc_input_rules.specs.declared.token.Token.TheVariants.{Punctuation}
use Rattle.sc_input_rules.specs.declared.token.Sign.TheVariants.{Open, Close, Comma, Bar, Minus, Equal, Unequal}
use Rattle.sc_input_rules.specs.Token.{is_sign, is_word}
use Rattle.sc_input_rules.specs.Reader.{Read, ◌>>=◌, unexpected, next_is, the_sign, a_name, separated}
use Rattle.sc_input_rules.specs.declared.written.WrittenLiteral.{WrittenLiteral}
use Rattle.sc_input_rules.specs.Syntax.{Side, WrittenClause}

-- one or more of something, in parentheses
abbrev pub bracketed : {A : Type 0} → (List Token → Read A) → List Token → Read A
bracketed inside tokens = do
  opening ← the_sign Open tokens
  value ← inside opening.1
  close ← the_sign Close value.1
  Ok (value.0, close.1)

-- none without an opening parenthesis
abbrev pub arguments : (List Token → Read (List Side)) → List Token → Read (List Side)
arguments inside tokens = elim (next_is (is_sign Open) tokens) [ true ↦ bracketed inside tokens | false ↦ Ok ([], tokens) ]

-- word; word ( sides )
abbrev pub side_within : ℕ → List Token → Read Side
side_within zero tokens = unexpected tokens
side_within (suc n) tokens = do
  name ← a_name tokens
  args ← arguments (separated Comma (side_within n) n) name.1
  Ok (record { at = name.0.at; name = name.0.text; arity = length args.0 } ∷ flat_map (λ s. s) args.0, args.1)

abbrev pub side : List Token → Read Side
side tokens = side_within (length tokens) tokens

-- ---- literals

abbrev pub equation_of : Bool → ℕ → Side → Side → WrittenLiteral
equation_of positive at left right =
    record { positive = positive; predicate = record { at = at; name = codes "="; arity = 2 }; arguments = left ++ right }

-- what follows the left side of an equation
abbrev pub right_of : Side → List Token → Read WrittenLiteral
right_of left (Punctuation at Equal ∷ tokens) = side tokens >>= λ right. Ok (equation_of true at left right.0, right.1)
right_of left (Punctuation at Unequal ∷ tokens) = side tokens >>= λ right. Ok (equation_of false at left right.0, right.1)
right_of left tokens = unexpected tokens

abbrev pub equation : List Token → Read WrittenLiteral
equation tokens = side tokens >>= λ left. right_of left.0 left.1

-- a side that is a whole literal
abbrev pub atom_of : Bool → Side → List Token → Read WrittenLiteral
atom_of positive [] tokens = unexpected tokens
atom_of positive (o ∷ os) tokens = Ok (record { positive = positive; predicate = o; arguments = os }, tokens)

abbrev pub is_equality : Token → Bool
is_equality (Punctuation at Equal) = true
is_equality (Punctuation at Unequal) = true
is_equality t = false

abbrev pub plain_literal : List Token → Read WrittenLiteral
plain_literal tokens = side tokens >>= λ first.
    elim (next_is is_equality first.1) [ true ↦ right_of first.0 first.1 | false ↦ atom_of true first.0 first.1 ]

abbrev pub bracketed_or : (List Token → Read WrittenLiteral) → List Token → Read WrittenLiteral
bracketed_or other tokens = elim (next_is (is_sign Open) tokens) [ true ↦ bracketed equation tokens | false ↦ other tokens ]

abbrev pub negative_atom : List Token → Read WrittenLiteral
negative_atom tokens = side tokens >>= λ s. atom_of true s.0 s.1

abbrev pub negated : WrittenLiteral → WrittenLiteral
negated l = record l { positive = not l.positive }

-- side; equation; ( equation ); - side; - ( equation )
abbrev pub literal : List Token → Read WrittenLiteral
literal tokens =
    elim (next_is (is_sign Minus) tokens) [
      | true ↦ the_sign Minus tokens >>= λ minus. bracketed_or negative_atom minus.1 >>= λ l. Ok (negated l.0, l.1)
      | false ↦ bracketed_or plain_literal tokens
    ]

abbrev pub without_first : List Token → Read WrittenClause
without_first [] = unexpected []
without_first (t ∷ tokens) = Ok ([], tokens)

-- `$F`, or literals with `|` between them
abbrev pub clause : List Token → Read WrittenClause
clause tokens =
    elim (next_is (is_word (codes "$F")) tokens) [
      | true ↦ without_first tokens
      | false ↦ separated Bar literal (length tokens) tokens
    ]
