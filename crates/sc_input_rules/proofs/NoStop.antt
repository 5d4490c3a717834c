-- What holds of words and of the signs of literals holds of all tokens that spell a literal.
use Rattle.std.proofs.Common.{◌≡◌, refl, ℕ, Bool, true, false, List, [], ◌∷◌, ◌++◌}
use Rattle.std.specs.Prelude.{codes, flat_map}
use Rattle.std.specs.List.{AllByRecursion}
use Rattle.sc_term.proofs.SubstitutionLaws.{all_join}
use Rattle.sc_input_rules.specs.declared.token.Token.{Token}
use Rattle.sc_input_rules.specs.declared.token.Token.TheVariants.{Word, Punctuation}
use Rattle.sc_input_rules.specs.declared.token.Sign.TheVariants.{Open, Close, Comma, Stop, Bar, Minus}
use Rattle.sc_input_rules.specs.Token.{is_sign}
use Rattle.sc_input_rules.proofs.Spelling.{Head, Sides, Empty, Entry, in_brackets, behind_comma, tokens_of, side_tokens}
use Rattle.sc_input_rules.proofs.ClauseSpelling.{Atom, Plain, Equation, Wrapping, Bare, Negative, Brackets, NegativeBrackets, LiteralTree, ClauseTree, Falsum, Literals, equal_sign, atom_tokens, opening_tokens, closing_tokens, literal_tokens, behind_bar, clause_tokens}
use Rattle.sc_input_rules.proofs.Standing.{HasNoStop}

pub record OfLiterals (P : Token → Type 0) : Type 0 where
  pub word : (at : ℕ) (text : List ℕ) → P (Word at text)
  pub opening : (at : ℕ) → P (Punctuation at Open)
  pub closing : (at : ℕ) → P (Punctuation at Close)
  pub comma : (at : ℕ) → P (Punctuation at Comma)
  pub minus : (at : ℕ) → P (Punctuation at Minus)
  pub equal : (positive : Bool) (at : ℕ) → P (Punctuation at (equal_sign positive))

module _ (P : Token → Type 0) (p : OfLiterals P) where
  brackets_all : (h : Head) (args : Sides) (ts : List Token) → AllByRecursion P ts → AllByRecursion P (in_brackets h args ts)
  brackets_all h Empty ts k = tt
  brackets_all h (Entry g args comma others) ts k = (p.opening h.opening, all_join P ts (Punctuation h.closing Close ∷ []) k (p.closing h.closing, tt))

  comma_all : (at : ℕ) (others : Sides) (ts : List Token) → AllByRecursion P ts → AllByRecursion P (behind_comma at others ts)
  comma_all at Empty ts k = tt
  comma_all at (Entry g args comma others) ts k = (p.comma at, k)

  pub sides_all : (f : Sides) → AllByRecursion P (tokens_of f)
  sides_all Empty = tt
  sides_all (Entry h args comma others) = (
    p.word h.at h.text,
    all_join P (in_brackets h args (tokens_of args)) (behind_comma comma others (tokens_of others))
        (brackets_all h args (tokens_of args) (sides_all args)) (comma_all comma others (tokens_of others) (sides_all others)),
  )

  pub side_all : (h : Head) (args : Sides) → AllByRecursion P (side_tokens h args)
  side_all h args = (p.word h.at h.text, brackets_all h args (tokens_of args) (sides_all args))

  pub atom_all : (a : Atom) → AllByRecursion P (atom_tokens a)
  atom_all (Plain h args) = side_all h args
  atom_all (Equation e) =
      all_join P (side_tokens e.left_head e.left_args) (Punctuation e.at (equal_sign e.positive) ∷ side_tokens e.right_head e.right_args)
      (side_all e.left_head e.left_args) (p.equal e.positive e.at, side_all e.right_head e.right_args)

  opening_all : (w : Wrapping) → AllByRecursion P (opening_tokens w)
  opening_all Bare = tt
  opening_all (Negative at) = (p.minus at, tt)
  opening_all (Brackets o c) = (p.opening o, tt)
  opening_all (NegativeBrackets at o c) = (p.minus at, (p.opening o, tt))

  closing_all : (w : Wrapping) → AllByRecursion P (closing_tokens w)
  closing_all Bare = tt
  closing_all (Negative at) = tt
  closing_all (Brackets o c) = (p.closing c, tt)
  closing_all (NegativeBrackets at o c) = (p.closing c, tt)

  pub literal_all : (l : LiteralTree) → AllByRecursion P (literal_tokens l)
  literal_all l =
      all_join P (opening_tokens l.wrapping) (atom_tokens l.atom ++ closing_tokens l.wrapping) (opening_all l.wrapping)
      (all_join P (atom_tokens l.atom) (closing_tokens l.wrapping) (atom_all l.atom) (closing_all l.wrapping))

  pub bars_all : ((at : ℕ) → P (Punctuation at Bar)) → (bs : List (ℕ × LiteralTree)) → AllByRecursion P (flat_map behind_bar bs)
  bars_all bar [] = tt
  bars_all bar (b ∷ bs) = (bar b.0, all_join P (literal_tokens b.1) (flat_map behind_bar bs) (literal_all b.1) (bars_all bar bs))

  pub clause_all : ((at : ℕ) → P (Punctuation at Bar)) → (c : ClauseTree) → AllByRecursion P (clause_tokens c)
  clause_all bar (Falsum at) = (p.word at (codes "$F"), tt)
  clause_all bar (Literals l bs) = all_join P (literal_tokens l) (flat_map behind_bar bs) (literal_all l) (bars_all bar bs)

not_stop : OfLiterals (λ t. is_sign Stop t ≡ false)
not_stop = record { word = λ at text. refl; opening = λ at. refl; closing = λ at. refl; comma = λ at. refl; minus = λ at. refl; equal = λ b at. by b at }
  where
    by : (b : Bool) (at : ℕ) → is_sign Stop (Punctuation at (equal_sign b)) ≡ false
    by true at = refl
    by false at = refl

not_bar : OfLiterals (λ t. is_sign Bar t ≡ false)
not_bar = record { word = λ at text. refl; opening = λ at. refl; closing = λ at. refl; comma = λ at. refl; minus = λ at. refl; equal = λ b at. by b at }
  where
    by : (b : Bool) (at : ℕ) → is_sign Bar (Punctuation at (equal_sign b)) ≡ false
    by true at = refl
    by false at = refl

pub clause_no_stop : (c : ClauseTree) → HasNoStop (clause_tokens c)
clause_no_stop c = clause_all (λ t. is_sign Stop t ≡ false) not_stop (λ at. refl) c

pub literal_no_bar : (l : LiteralTree) → AllByRecursion (λ t. is_sign Bar t ≡ false) (literal_tokens l)
literal_no_bar l = literal_all (λ t. is_sign Bar t ≡ false) not_bar l
