-- The tokens that spell a clause are read as that clause.
use Rattle.std.proofs.Common.{◌≡◌, ◌∙◌, ap, refl, ℕ, zero, suc, ◌+◌, ◌≤◌, Bool, true, false, List, [], ◌∷◌, ◌++◌, length, append_assoc, Ok, Err, arith}
use Rattle.std.specs.Prelude.{codes, flat_map}
use Rattle.std.proofs.lemmas.List.{append-nil, length-append}
use Rattle.sc_input_rules.specs.declared.token.Token.{Token}
use Rattle.sc_input_rules.specs.declared.token.Token.TheVariants.{Punctuation}
use Rattle.sc_input_rules.specs.declared.token.Sign.TheVariants.{Open, Close, Bar}
use Rattle.sc_input_rules.specs.Token.{is_sign, is_word}
use Rattle.sc_input_rules.specs.Reader.{Read, ◌>>=◌, next_is, the_sign, separated}
use Rattle.sc_input_rules.specs.declared.written.WrittenLiteral.{WrittenLiteral}
use Rattle.sc_input_rules.specs.Syntax.{Side, WrittenClause}
use Rattle.sc_input_rules.specs.ClauseGrammar.{bracketed, side, equation_of, right_of, equation, atom_of, is_equality, plain_literal, bracketed_or, negated, literal, without_first, clause}
use Rattle.sc_input_rules.specs.ProblemLimits.{written}
use Rattle.sc_input_rules.proofs.Spelling.{Head, Sides, side_tokens, side_of, IsName, AreNames}
use Rattle.sc_input_rules.proofs.ClauseSpelling.{Equated, Atom, Plain, Equation, Wrapping, Bare, Negative, Brackets, NegativeBrackets, LiteralTree, ClauseTree, Falsum, Literals, equal_sign, atom_tokens, literal_tokens, behind_bar, clause_tokens, atom_written, literal_written, clause_written, HasNames, Fits, IsSpelt, IsSpeltClause}
use Rattle.sc_input_rules.proofs.Taken.{Gives}
use Rattle.sc_input_rules.proofs.SidesBack.{IsNotNext, side_back}

-- ---- equations

with_left : Bool → ℕ → Side → Read Side → Read WrittenLiteral
with_left positive at s r = r >>= λ right. Ok (equation_of positive at s right.0, right.1)

right_back : (positive : Bool) (at : ℕ) (s : Side) (h : Head) (args : Sides) (left : List Token) → IsName h → AreNames args → IsNotNext Open left
    → Gives (right_of s (Punctuation at (equal_sign positive) ∷ (side_tokens h args ++ left))) (equation_of positive at s (side_of h args)) left
unfolding with_left
right_back true at s h args left n ns e = ap (with_left true at s) (side_back h args left n ns e)
right_back false at s h args left n ns e = ap (with_left false at s) (side_back h args left n ns e)

sign_not_open : (positive : Bool) (at : ℕ) (ts : List Token) → IsNotNext Open (Punctuation at (equal_sign positive) ∷ ts)
sign_not_open true at ts = refl
sign_not_open false at ts = refl

sign_is_equality : (positive : Bool) (at : ℕ) → is_equality (Punctuation at (equal_sign positive)) ≡ true
sign_is_equality true at = refl
sign_is_equality false at = refl

-- the left side, and what is left behind it
left_back : (e : Equated) (left : List Token) → HasNames (Equation e)
    → Gives (side (atom_tokens (Equation e) ++ left)) (side_of e.left_head e.left_args) (Punctuation e.at (equal_sign e.positive) ∷ (side_tokens e.right_head e.right_args ++ left))
left_back e left names =
    let behind = Punctuation e.at (equal_sign e.positive) ∷ side_tokens e.right_head e.right_args in
    ap side (append_assoc (side_tokens e.left_head e.left_args) behind left)
    ∙ side_back e.left_head e.left_args (behind ++ left) names.0.0 names.0.1 (sign_not_open e.positive e.at (side_tokens e.right_head e.right_args ++ left))

then_right : Read Side → Read WrittenLiteral
then_right r = r >>= λ l. right_of l.0 l.1

equation_back : (e : Equated) (left : List Token) → HasNames (Equation e) → IsNotNext Open left → Gives (equation (atom_tokens (Equation e) ++ left)) (atom_written (Equation e)) left
unfolding then_right
equation_back e left names opening =
    ap then_right (left_back e left names) ∙ right_back e.positive e.at (side_of e.left_head e.left_args) e.right_head e.right_args left names.1.0 names.1.1 opening

-- ---- literals

then_either : Read Side → Read WrittenLiteral
then_either r = r >>= λ first. elim (next_is is_equality first.1) [ true ↦ right_of first.0 first.1 | false ↦ atom_of true first.0 first.1 ]

plain_atom_back : (a : Atom) (left : List Token) → HasNames a → IsNotNext Open left → next_is is_equality left ≡ false → Gives (plain_literal (atom_tokens a ++ left)) (atom_written a) left
unfolding then_either
plain_atom_back (Plain h args) left names opening e =
    ap then_either (side_back h args left names.0 names.1 opening) ∙ ap (λ (b : Bool). elim b [ true ↦ right_of (side_of h args) left | false ↦ atom_of true (side_of h args) left ]) e
plain_atom_back (Equation q) left names opening e =
    let s = side_of q.left_head q.left_args in
    let us = Punctuation q.at (equal_sign q.positive) ∷ (side_tokens q.right_head q.right_args ++ left) in
    ap then_either (left_back q left names)
    ∙ ap (λ (b : Bool). elim b [ true ↦ right_of s us | false ↦ atom_of true s us ]) (sign_is_equality q.positive q.at)
    ∙ right_back q.positive q.at (side_of q.left_head q.left_args) q.right_head q.right_args left names.1.0 names.1.1 opening

then_close : Read WrittenLiteral → Read WrittenLiteral
then_close r = r >>= λ value. the_sign Close value.1 >>= λ close. Ok (value.0, close.1)

bracketed_back : (o c : ℕ) (e : Equated) (left : List Token) → HasNames (Equation e)
    → Gives (bracketed equation (Punctuation o Open ∷ ((atom_tokens (Equation e) ++ Punctuation c Close ∷ []) ++ left))) (atom_written (Equation e)) left
unfolding then_close
bracketed_back o c e left names =
    ap (λ (ts : List Token). then_close (equation ts)) (append_assoc (atom_tokens (Equation e)) (Punctuation c Close ∷ []) left)
    ∙ ap then_close (equation_back e (Punctuation c Close ∷ left) names refl)

then_negated : Read WrittenLiteral → Read WrittenLiteral
then_negated r = r >>= λ l. Ok (negated l.0, l.1)

then_atom : Read Side → Read WrittenLiteral
then_atom r = r >>= λ s. atom_of true s.0 s.1

atom_first : (a : Atom) (ts : List Token) → bracketed_or plain_literal (atom_tokens a ++ ts) ≡ plain_literal (atom_tokens a ++ ts)
atom_first (Plain h args) ts = refl
atom_first (Equation e) ts = refl

atom_is_unsigned : (a : Atom) (ts : List Token) → literal (atom_tokens a ++ ts) ≡ bracketed_or plain_literal (atom_tokens a ++ ts)
atom_is_unsigned (Plain h args) ts = refl
atom_is_unsigned (Equation e) ts = refl

literal_by : (w : Wrapping) (a : Atom) (left : List Token) → Fits w a → HasNames a → IsNotNext Open left → next_is is_equality left ≡ false
    → Gives (literal (literal_tokens (record { wrapping = w; atom = a }) ++ left)) (literal_written (record { wrapping = w; atom = a })) left
unfolding then_negated then_atom
literal_by Bare a left fits names opening e =
    ap (λ (ts : List Token). literal (ts ++ left)) (append-nil (atom_tokens a)) ∙ atom_is_unsigned a left ∙ atom_first a left ∙ plain_atom_back a left names opening e
literal_by (Negative at) (Plain h args) left fits names opening e =
    ap (λ (ts : List Token). then_negated (then_atom (side (ts ++ left)))) (append-nil (side_tokens h args))
    ∙ ap (λ (r : Read Side). then_negated (then_atom r)) (side_back h args left names.0 names.1 opening)
literal_by (Negative at) (Equation q) left fits names opening e = absurd fits
literal_by (Brackets o c) (Plain h args) left fits names opening e = absurd fits
literal_by (Brackets o c) (Equation q) left fits names opening e = bracketed_back o c q left names
literal_by (NegativeBrackets at o c) (Plain h args) left fits names opening e = absurd fits
literal_by (NegativeBrackets at o c) (Equation q) left fits names opening e = ap then_negated (bracketed_back o c q left names)

pub literal_back : (l : LiteralTree) (left : List Token) → IsSpelt l → IsNotNext Open left → next_is is_equality left ≡ false → Gives (literal (literal_tokens l ++ left)) (literal_written l) left
literal_back l left spelt opening e = literal_by l.wrapping l.atom left spelt.0 spelt.1 opening e

-- ---- clauses

after_literal : ℕ → Read WrittenLiteral → Read WrittenClause
after_literal n r = r >>= λ first.
    elim (next_is (is_sign Bar) first.1) [
      | true ↦ the_sign Bar first.1 >>= λ s. separated Bar literal n s.1 >>= λ others. Ok (first.0 ∷ others.0, others.1)
      | false ↦ Ok (first.0 ∷ [], first.1)
    ]

with_first : WrittenLiteral → Read WrittenClause → Read WrittenClause
with_first l r = r >>= λ others. Ok (l ∷ others.0, others.1)

literals_back : (n : ℕ) (l : LiteralTree) (bs : List (ℕ × LiteralTree)) → length (flat_map behind_bar bs) + 1 ≤ n → IsSpeltClause (Literals l bs)
    → Gives (separated Bar literal n (clause_tokens (Literals l bs))) (clause_written (Literals l bs)) []
unfolding after_literal with_first
literals_back zero l bs le spelt = absurd (omega arith)
literals_back (suc n) l [] le spelt = ap (after_literal n) (literal_back l [] spelt.0 refl refl)
literals_back (suc n) l (b ∷ bs) le spelt =
    let sum = length-append (literal_tokens b.1) (flat_map behind_bar bs) in
    ap (after_literal n) (literal_back l (flat_map behind_bar (b ∷ bs)) spelt.0 refl refl) ∙ ap (with_first (literal_written l)) (literals_back n b.1 bs (omega arith) (spelt.1.0, spelt.1.1))

first_by : (w : Wrapping) (a : Atom) (ts : List Token) → HasNames a → next_is (is_word (codes "$F")) (literal_tokens (record { wrapping = w; atom = a }) ++ ts) ≡ false
first_by Bare (Plain h args) ts names = names.0
first_by Bare (Equation e) ts names = names.0.0
first_by (Negative at) a ts names = refl
first_by (Brackets o c) a ts names = refl
first_by (NegativeBrackets at o c) a ts names = refl

some_token : (w : Wrapping) (a : Atom) → 1 ≤ length (literal_tokens (record { wrapping = w; atom = a }))
some_token Bare (Plain h args) = omega arith
some_token Bare (Equation e) = omega arith
some_token (Negative at) a = omega arith
some_token (Brackets o c) a = omega arith
some_token (NegativeBrackets at o c) a = omega arith

pub literal_has_tokens : (l : LiteralTree) → 1 ≤ length (literal_tokens l)
literal_has_tokens l = some_token l.wrapping l.atom

pub clause_back : (c : ClauseTree) → IsSpeltClause c → Gives (clause (clause_tokens c)) (clause_written c) []
clause_back (Falsum at) spelt = refl
clause_back (Literals l bs) spelt =
    let ts = clause_tokens (Literals l bs) in
    let sum = length-append (literal_tokens l) (flat_map behind_bar bs) in
    let some = literal_has_tokens l in
    ap (λ (b : Bool). elim b [ true ↦ without_first ts | false ↦ separated Bar literal (length ts) ts ]) (first_by l.wrapping l.atom (flat_map behind_bar bs) spelt.0.1)
    ∙ literals_back (length ts) l bs (omega arith) spelt

pub written_back : (c : ClauseTree) → IsSpeltClause c → written (clause_tokens c) ≡ clause_written c
written_back c spelt = ap (λ (r : Read WrittenClause). elim r [ Ok c ↦ c.0 | Err f ↦ [] ]) (clause_back c spelt)
