-- No production of a clause leaves more tokens than it was given.
use Rattle.std.proofs.Common.{ℕ, zero, suc, Bool, true, List, [], ◌∷◌, length, Ok, arith}
use Rattle.std.specs.Prelude.{codes}
use Rattle.sc_input_rules.specs.declared.token.Token.{Token}
use Rattle.sc_input_rules.specs.declared.token.Token.TheVariants.{Word, Punctuation, Refused}
use Rattle.sc_input_rules.specs.declared.token.Sign.TheVariants.{Open, Close, Comma, Stop, Bar, Minus, Equal, Unequal, Colon}
use Rattle.sc_input_rules.specs.Token.{is_sign, is_word}
use Rattle.sc_input_rules.specs.Reader.{Read, ◌>>=◌, next_is, the_sign, a_name, separated}
use Rattle.sc_input_rules.specs.declared.written.WrittenLiteral.{WrittenLiteral}
use Rattle.sc_input_rules.specs.Syntax.{Side}
use Rattle.sc_input_rules.specs.ClauseGrammar.{bracketed, arguments, side_within, side, right_of, equation, atom_of, is_equality, plain_literal, bracketed_or, negative_atom, negated, literal, without_first, clause}
use Rattle.sc_input_rules.proofs.Shrinking.{Shrinks, in_turn, within, either_way, the_sign-shrinks, a_name-shrinks, separated-shrinks}

pub bracketed-shrinks : {A : Type 0} (inside : List Token → Read A) → Shrinks inside → Shrinks (bracketed inside)
bracketed-shrinks inside h tokens =
    in_turn (length tokens) (the_sign Open tokens) _ (the_sign-shrinks Open tokens) (λ o le.
    in_turn (length tokens) (inside o.1) _ (within inside _ o.1 h le) (λ v le'.
    in_turn (length tokens) (the_sign Close v.1) _ (within (the_sign Close) _ v.1 (the_sign-shrinks Close) le') (λ c le''. le'')))

pub arguments-shrinks : (inside : List Token → Read (List Side)) → Shrinks inside → Shrinks (arguments inside)
arguments-shrinks inside h tokens =
    either_way (length tokens) (next_is (is_sign Open) tokens) (bracketed inside tokens) (Ok ([], tokens)) (bracketed-shrinks inside h tokens) (omega arith)

pub side_within-shrinks : (n : ℕ) → Shrinks (side_within n)
side_within-shrinks zero tokens = omega arith
side_within-shrinks (suc n) tokens =
    in_turn (length tokens) (a_name tokens) _ (a_name-shrinks tokens) (λ name le.
    in_turn (length tokens) (arguments (separated Comma (side_within n) n) name.1) _
    (within (arguments (separated Comma (side_within n) n)) _ name.1 (arguments-shrinks (separated Comma (side_within n) n) (separated-shrinks Comma (side_within n) n (side_within-shrinks n))) le) (λ args le'. le'))

pub side-shrinks : Shrinks side
side-shrinks tokens = side_within-shrinks (length tokens) tokens

pub right_of-shrinks : (left : Side) → Shrinks (right_of left)
right_of-shrinks left [] = omega arith
right_of-shrinks left (Word at text ∷ tokens) = omega arith
right_of-shrinks left (Refused at kind ∷ tokens) = omega arith
right_of-shrinks left (Punctuation at Equal ∷ tokens) = in_turn _ (side tokens) _ (within side _ tokens side-shrinks (omega arith)) (λ r le. le)
right_of-shrinks left (Punctuation at Unequal ∷ tokens) = in_turn _ (side tokens) _ (within side _ tokens side-shrinks (omega arith)) (λ r le. le)
right_of-shrinks left (Punctuation at Open ∷ tokens) = omega arith
right_of-shrinks left (Punctuation at Close ∷ tokens) = omega arith
right_of-shrinks left (Punctuation at Comma ∷ tokens) = omega arith
right_of-shrinks left (Punctuation at Stop ∷ tokens) = omega arith
right_of-shrinks left (Punctuation at Bar ∷ tokens) = omega arith
right_of-shrinks left (Punctuation at Minus ∷ tokens) = omega arith
right_of-shrinks left (Punctuation at Colon ∷ tokens) = omega arith

pub equation-shrinks : Shrinks equation
equation-shrinks tokens = in_turn (length tokens) (side tokens) _ (side-shrinks tokens) (λ l le. within (right_of l.0) _ l.1 (right_of-shrinks l.0) le)

pub atom_of-shrinks : (positive : Bool) (s : Side) → Shrinks (atom_of positive s)
atom_of-shrinks positive [] tokens = omega arith
atom_of-shrinks positive (o ∷ os) tokens = omega arith

pub plain_literal-shrinks : Shrinks plain_literal
plain_literal-shrinks tokens =
    in_turn (length tokens) (side tokens) _ (side-shrinks tokens) (λ s le.
    either_way _ (next_is is_equality s.1) (right_of s.0 s.1) (atom_of true s.0 s.1) (within (right_of s.0) _ s.1 (right_of-shrinks s.0) le) (within (atom_of true s.0) _ s.1 (atom_of-shrinks true s.0) le))

pub bracketed_or-shrinks : (other : List Token → Read WrittenLiteral) → Shrinks other → Shrinks (bracketed_or other)
bracketed_or-shrinks other h tokens =
    either_way (length tokens) (next_is (is_sign Open) tokens) (bracketed equation tokens) (other tokens) (bracketed-shrinks equation equation-shrinks tokens) (h tokens)

pub negative_atom-shrinks : Shrinks negative_atom
negative_atom-shrinks tokens = in_turn (length tokens) (side tokens) _ (side-shrinks tokens) (λ s le. within (atom_of true s.0) _ s.1 (atom_of-shrinks true s.0) le)

pub literal-shrinks : Shrinks literal
literal-shrinks tokens =
    either_way (length tokens) (next_is (is_sign Minus) tokens)
    (the_sign Minus tokens >>= λ minus. bracketed_or negative_atom minus.1 >>= λ l. Ok (negated l.0, l.1)) (bracketed_or plain_literal tokens)
    (in_turn (length tokens) (the_sign Minus tokens) _ (the_sign-shrinks Minus tokens) (λ m le.
    in_turn (length tokens) (bracketed_or negative_atom m.1) _ (within (bracketed_or negative_atom) _ m.1 (bracketed_or-shrinks negative_atom negative_atom-shrinks) le) (λ l le'. le')))
    (bracketed_or-shrinks plain_literal plain_literal-shrinks tokens)

pub without_first-shrinks : Shrinks without_first
without_first-shrinks [] = omega arith
without_first-shrinks (t ∷ tokens) = omega arith

pub clause-shrinks : Shrinks clause
clause-shrinks tokens =
    either_way (length tokens) (next_is (is_word (codes "$F")) tokens) (without_first tokens) (separated Bar literal (length tokens) tokens)
    (without_first-shrinks tokens) (separated-shrinks Bar literal (length tokens) literal-shrinks tokens)
