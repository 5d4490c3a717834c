-- The first tokens decide how literals and clauses are read.
use Rattle.std.proofs.Common.{refl, ℕ, ◌≤◌, Bool, true, false, List, [], ◌∷◌, ◌++◌, length, Ok, arith}
use Rattle.std.specs.Prelude.{codes}
use Rattle.sc_input_rules.specs.declared.token.Token.{Token}
use Rattle.sc_input_rules.specs.declared.token.Token.TheVariants.{Word, Punctuation, Refused}
use Rattle.sc_input_rules.specs.declared.token.Sign.TheVariants.{Open, Close, Comma, Stop, Bar, Minus, Equal, Unequal, Colon}
use Rattle.sc_input_rules.specs.declared.written.WrittenLiteral.{WrittenLiteral}
use Rattle.sc_input_rules.specs.Token.{is_sign, is_word}
use Rattle.sc_input_rules.specs.Reader.{Read, unexpected, next_is, the_sign, separated}
use Rattle.sc_input_rules.specs.Syntax.{Side}
use Rattle.sc_input_rules.specs.ClauseGrammar.{bracketed, side_within, side, right_of, equation, equation_of, atom_of, is_equality, plain_literal, bracketed_or, negative_atom, negated, literal, without_first, clause}
use Rattle.sc_input_rules.proofs.Shrinking.{Shrinks, separated-shrinks}
use Rattle.sc_input_rules.proofs.ShrinkingOfClauses.{side_within-shrinks, right_of-shrinks, without_first-shrinks, literal-shrinks}
use Rattle.sc_input_rules.proofs.Prefix.{Agrees, Good, good_from, good_sign, taken, not_allowed}
use Rattle.sc_input_rules.proofs.PrefixInTurn.{takes_none, bound, good_bind, good_pure, good_next, good_separated}
use Rattle.sc_input_rules.proofs.PrefixOfSides.{good_bracketed, good_side}

-- a production whose bound is the number of its tokens
pub good_whole : {A : Type 0} (p : ℕ → List Token → Read A) → ((n : ℕ) → Shrinks (p n)) → ((n m : ℕ) → Good n m (p n) (p m)) → (n m : ℕ) → Good n m (λ ts. p (length ts) ts) (λ ts. p (length ts) ts)
good_whole p h g n m =
    record {
      short = λ ts. h (length ts) ts;
      long = λ ts. h (length ts) ts;
      agrees = λ front more e e'. (g (length front) (length (front ++ more))).agrees front more (omega arith) (omega arith);
    }

good_whole_side : (n m : ℕ) → Good n m side side
good_whole_side n m = good_whole side_within side_within-shrinks good_side n m

-- one production, then a value
pub good_map : {A B : Type 0} (n m : ℕ) (p : List Token → Read A) (f : A → B) → Good n m p p → Good n m (λ ts. bound (p ts) (λ a ts. Ok (f a, ts))) (λ ts. bound (p ts) (λ a ts. Ok (f a, ts)))
good_map n m p f g = good_bind n m n m 0 p p (λ a ts. Ok (f a, ts)) (λ a ts. Ok (f a, ts)) (omega arith) (omega arith) g (takes_none p g.short) (λ a. good_pure n m (f a))

-- one production after another, whatever they take
pub good_then : {A B : Type 0} (n m : ℕ) (p : List Token → Read A) (k : A → List Token → Read B) → Good n m p p → ((a : A) → Good n m (k a) (k a)) → Good n m (λ ts. bound (p ts) k) (λ ts. bound (p ts) k)
good_then n m p k g h = good_bind n m n m 0 p p k k (omega arith) (omega arith) g (takes_none p g.short) h

right_agrees : (n m : ℕ) (left : Side) (t : Token) (front more : List Token) → length (t ∷ front) ≤ n → length (t ∷ (front ++ more)) ≤ m → Agrees more (right_of left (t ∷ front)) (right_of left (t ∷ (front ++ more)))
right_agrees n m left (Word at text) front more e e' = refl
right_agrees n m left (Refused at kind) front more e e' = refl
right_agrees n m left (Punctuation at Equal) front more e e' = (good_map n m side (equation_of true at left) (good_whole_side n m)).agrees front more (omega (arith, e)) (omega (arith, e'))
right_agrees n m left (Punctuation at Unequal) front more e e' = (good_map n m side (equation_of false at left) (good_whole_side n m)).agrees front more (omega (arith, e)) (omega (arith, e'))
right_agrees n m left (Punctuation at Open) front more e e' = refl
right_agrees n m left (Punctuation at Close) front more e e' = refl
right_agrees n m left (Punctuation at Comma) front more e e' = refl
right_agrees n m left (Punctuation at Stop) front more e e' = refl
right_agrees n m left (Punctuation at Bar) front more e e' = refl
right_agrees n m left (Punctuation at Minus) front more e e' = refl
right_agrees n m left (Punctuation at Colon) front more e e' = refl

good_right_of : (n m : ℕ) (left : Side) → Good n m (right_of left) (right_of left)
good_right_of n m left = good_from n m (right_of left) (right_of left) (right_of-shrinks left) (right_of-shrinks left) (λ t front more e e'. right_agrees n m left t front more e e')

good_equation : (n m : ℕ) → Good n m equation equation
good_equation n m = good_then n m side right_of (good_whole_side n m) (λ left. good_right_of n m left)

good_unexpected : {A : Type 0} (n m : ℕ) → Good {A = A} n m unexpected unexpected
good_unexpected n m = good_from n m unexpected unexpected (λ ts. omega arith) (λ ts. omega arith) (λ t front more e e'. not_allowed t front more)

good_atom_of : (n m : ℕ) (positive : Bool) (s : Side) → Good n m (atom_of positive s) (atom_of positive s)
good_atom_of n m positive [] = good_unexpected n m
good_atom_of n m positive (o ∷ os) = good_pure n m (record { positive = positive; predicate = o; arguments = os })

good_plain_literal : (n m : ℕ) → Good n m plain_literal plain_literal
good_plain_literal n m =
    good_then n m side (λ s ts. elim (next_is is_equality ts) [ true ↦ right_of s ts | false ↦ atom_of true s ts ]) (good_whole_side n m)
    (λ s. good_next n m is_equality (right_of s) (right_of s) (atom_of true s) (atom_of true s) (good_right_of n m s) (good_atom_of n m true s))

good_bracketed_or : (n m : ℕ) (other : List Token → Read WrittenLiteral) → Good n m other other → Good n m (bracketed_or other) (bracketed_or other)
good_bracketed_or n m other g = good_next n m (is_sign Open) (bracketed equation) (bracketed equation) other other (good_bracketed n m equation equation (good_equation n m)) g

good_negative_atom : (n m : ℕ) → Good n m negative_atom negative_atom
good_negative_atom n m = good_then n m side (atom_of true) (good_whole_side n m) (λ s. good_atom_of n m true s)

pub good_literal : (n m : ℕ) → Good n m literal literal
good_literal n m =
    let negative = good_bracketed_or n m negative_atom (good_negative_atom n m) in
    let plain = good_bracketed_or n m plain_literal (good_plain_literal n m) in
    good_next n m (is_sign Minus) (λ ts. bound (the_sign Minus ts) (λ u ts. bound (bracketed_or negative_atom ts) (λ l ts. Ok (negated l, ts)))) (λ ts. bound (the_sign Minus ts) (λ u ts. bound (bracketed_or negative_atom ts) (λ l ts. Ok (negated l, ts))))
    (bracketed_or plain_literal) (bracketed_or plain_literal)
    (good_then n m (the_sign Minus) (λ u ts. bound (bracketed_or negative_atom ts) (λ l ts. Ok (negated l, ts))) (good_sign n m Minus) (λ u. good_map n m (bracketed_or negative_atom) negated negative)) plain

good_without_first : (n m : ℕ) → Good n m without_first without_first
good_without_first n m = good_from n m without_first without_first without_first-shrinks without_first-shrinks (λ t front more e e'. taken [] front more)

good_literals : (n m : ℕ) → Good n m (λ ts. separated Bar literal (length ts) ts) (λ ts. separated Bar literal (length ts) ts)
good_literals n m = good_whole (separated Bar literal) (λ n. separated-shrinks Bar literal n literal-shrinks) (λ n m. good_separated n m Bar literal literal n m (omega arith) (omega arith) (good_literal n m)) n m

pub good_clause : (n m : ℕ) → Good n m clause clause
good_clause n m = good_next n m (is_word (codes "$F")) without_first without_first (λ ts. separated Bar literal (length ts) ts) (λ ts. separated Bar literal (length ts) ts) (good_without_first n m) (good_literals n m)
