-- Literals and clauses as trees, each with the tokens that spell it and the written form that is read of those.
use Rattle.std.proofs.Common.{ℕ, Bool, true, false, List, [], ◌∷◌, ◌++◌, map}
use Rattle.std.specs.Prelude.{codes, flat_map}
use Rattle.std.specs.List.{AllByRecursion}
use Rattle.sc_input_rules.specs.declared.token.Token.{Token}
use Rattle.sc_input_rules.specs.declared.token.Token.TheVariants.{Word, Punctuation}
use Rattle.sc_input_rules.specs.declared.token.Sign.{Sign}
use Rattle.sc_input_rules.specs.declared.token.Sign.TheVariants.{Open, Close, Bar, Minus, Equal, Unequal}
use Rattle.sc_input_rules.specs.declared.written.WrittenLiteral.{WrittenLiteral}
use Rattle.sc_input_rules.specs.Syntax.{WrittenClause}
use Rattle.sc_input_rules.specs.ClauseGrammar.{equation_of, negated}
use Rattle.sc_input_rules.proofs.Spelling.{Head, Sides, side_tokens, side_of, occurrence, occurrences, IsName, AreNames}

-- two sides, and the sign between them
pub record Equated : Type 0 where
  pub positive : Bool
  pub at : ℕ
  pub left_head : Head
  pub left_args : Sides
  pub right_head : Head
  pub right_args : Sides

pub data Atom : Type 0 where
  Plain : Head → Sides → Atom
  Equation : Equated → Atom

-- what stands round an atom
pub data Wrapping : Type 0 where
  Bare : Wrapping
  Negative : ℕ → Wrapping
  Brackets : ℕ → ℕ → Wrapping
  NegativeBrackets : ℕ → ℕ → ℕ → Wrapping

pub record LiteralTree : Type 0 where
  pub wrapping : Wrapping
  pub atom : Atom

-- `$F`, or a literal and others, each behind a bar
pub data ClauseTree : Type 0 where
  Falsum : ℕ → ClauseTree
  Literals : LiteralTree → List (ℕ × LiteralTree) → ClauseTree

-- ---- tokens

abbrev pub equal_sign : Bool → Sign
equal_sign true = Equal
equal_sign false = Unequal

abbrev pub atom_tokens : Atom → List Token
atom_tokens (Plain h args) = side_tokens h args
atom_tokens (Equation e) = side_tokens e.left_head e.left_args ++ Punctuation e.at (equal_sign e.positive) ∷ side_tokens e.right_head e.right_args

abbrev pub opening_tokens : Wrapping → List Token
opening_tokens Bare = []
opening_tokens (Negative at) = Punctuation at Minus ∷ []
opening_tokens (Brackets o c) = Punctuation o Open ∷ []
opening_tokens (NegativeBrackets at o c) = Punctuation at Minus ∷ Punctuation o Open ∷ []

abbrev pub closing_tokens : Wrapping → List Token
closing_tokens Bare = []
closing_tokens (Negative at) = []
closing_tokens (Brackets o c) = Punctuation c Close ∷ []
closing_tokens (NegativeBrackets at o c) = Punctuation c Close ∷ []

abbrev pub literal_tokens : LiteralTree → List Token
literal_tokens l = opening_tokens l.wrapping ++ (atom_tokens l.atom ++ closing_tokens l.wrapping)

abbrev pub behind_bar : ℕ × LiteralTree → List Token
behind_bar b = Punctuation b.0 Bar ∷ literal_tokens b.1

abbrev pub clause_tokens : ClauseTree → List Token
clause_tokens (Falsum at) = Word at (codes "$F") ∷ []
clause_tokens (Literals l bs) = literal_tokens l ++ flat_map behind_bar bs

-- ---- as written

abbrev pub atom_written : Atom → WrittenLiteral
atom_written (Plain h args) = record { positive = true; predicate = occurrence h args; arguments = occurrences args }
atom_written (Equation e) = equation_of e.positive e.at (side_of e.left_head e.left_args) (side_of e.right_head e.right_args)

abbrev pub wrapped : Wrapping → WrittenLiteral → WrittenLiteral
wrapped Bare l = l
wrapped (Negative at) l = negated l
wrapped (Brackets o c) l = l
wrapped (NegativeBrackets at o c) l = negated l

abbrev pub literal_written : LiteralTree → WrittenLiteral
literal_written l = wrapped l.wrapping (atom_written l.atom)

abbrev pub clause_written : ClauseTree → WrittenClause
clause_written (Falsum at) = []
clause_written (Literals l bs) = literal_written l ∷ map (λ (b : ℕ × LiteralTree). literal_written b.1) bs

-- ---- what may stand there

abbrev pub Fits : Wrapping → Atom → Type 0
Fits Bare a = Unit {0}
Fits (Negative at) (Plain h args) = Unit {0}
Fits (Negative at) (Equation e) = ⊥
Fits (Brackets o c) (Plain h args) = ⊥
Fits (Brackets o c) (Equation e) = Unit {0}
Fits (NegativeBrackets at o c) (Plain h args) = ⊥
Fits (NegativeBrackets at o c) (Equation e) = Unit {0}

abbrev pub HasNames : Atom → Type 0
HasNames (Plain h args) = IsName h × AreNames args
HasNames (Equation e) = (IsName e.left_head × AreNames e.left_args) × (IsName e.right_head × AreNames e.right_args)

abbrev pub IsSpelt : LiteralTree → Type 0
IsSpelt l = Fits l.wrapping l.atom × HasNames l.atom

abbrev pub IsSpeltClause : ClauseTree → Type 0
IsSpeltClause (Falsum at) = Unit {0}
IsSpeltClause (Literals l bs) = IsSpelt l × AllByRecursion (λ (b : ℕ × LiteralTree). IsSpelt b.1) bs
