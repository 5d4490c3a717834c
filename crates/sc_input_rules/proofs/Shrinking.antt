-- No production leaves more tokens than it was given.
use Rattle.std.proofs.Common.{ℕ, zero, suc, ◌≤◌, Bool, true, false, List, [], ◌∷◌, length, Ok, Err, arith}
use Rattle.std.specs.Prelude.{codes}
use Rattle.sc_input_rules.specs.declared.token.Token.{Token}
use Rattle.sc_input_rules.specs.declared.token.Token.TheVariants.{Word, Punctuation, Refused}
use Rattle.sc_input_rules.specs.declared.token.Sign.{Sign}
use Rattle.sc_input_rules.specs.Token.{is_sign, same_text}
use Rattle.sc_input_rules.specs.Reader.{Read, ◌>>=◌, unexpected, next_is, the_sign, the_word, a_word, a_name, Name, separated, repeated, is_listed, refused_name, a_listed_name}

-- the tokens left, whether it failed or not
abbrev pub left_of : {A : Type 0} → Read A → List Token
left_of (Ok r) = r.1
left_of (Err f) = f.left

abbrev pub LeavesAtMost : {A : Type 0} → ℕ → Read A → Type 0
LeavesAtMost n r = length (left_of r) ≤ n

abbrev pub Shrinks : {A : Type 0} → (List Token → Read A) → Type 0
Shrinks p = (tokens : List Token) → LeavesAtMost (length tokens) (p tokens)

-- one production after another
pub in_turn : {A B : Type 0} (n : ℕ) (r : Read A) (f : A × List Token → Read B) → LeavesAtMost n r → ((v : A × List Token) → length v.1 ≤ n → LeavesAtMost n (f v)) → LeavesAtMost n (r >>= f)
in_turn n (Ok v) f h k = k v h
in_turn n (Err f') f h k = h

pub within : {A : Type 0} (p : List Token → Read A) (n : ℕ) (tokens : List Token) → Shrinks p → length tokens ≤ n → LeavesAtMost n (p tokens)
within p n tokens h le = let e = h tokens in omega (arith, e, le)

-- one of two
pub either_way : {A : Type 0} (n : ℕ) (b : Bool) (x y : Read A) → LeavesAtMost n x → LeavesAtMost n y → LeavesAtMost n (elim b [ true ↦ x | false ↦ y ])
either_way n true x y h k = h
either_way n false x y h k = k

-- ---- one token

pub the_sign-shrinks : (s : Sign) → Shrinks (the_sign s)
the_sign-shrinks s [] = omega arith
the_sign-shrinks s (t ∷ tokens) = either_way (length (t ∷ tokens)) (is_sign s t) (Ok (tt, tokens)) (unexpected (t ∷ tokens)) (omega arith) (omega arith)

pub a_word-shrinks : Shrinks a_word
a_word-shrinks [] = omega arith
a_word-shrinks (Word at text ∷ tokens) = omega arith
a_word-shrinks (Punctuation at s ∷ tokens) = omega arith
a_word-shrinks (Refused at kind ∷ tokens) = omega arith

pub the_word-shrinks : (name : List ℕ) → Shrinks (the_word name)
the_word-shrinks name tokens =
    in_turn (length tokens) (a_word tokens) _ (a_word-shrinks tokens) (λ w le. either_way _ (same_text name w.0.text) (Ok (tt {0}, w.1)) (unexpected tokens) le (omega arith))

pub a_name-shrinks : Shrinks a_name
a_name-shrinks tokens =
    in_turn (length tokens) (a_word tokens) _ (a_word-shrinks tokens) (λ w le. either_way _ (same_text (codes "$F") w.0.text) (unexpected tokens) (Ok w) (omega arith) le)

pub refused_name-shrinks : (b : Bool) (tokens : List Token) → LeavesAtMost {A = Name} (length tokens) (refused_name b tokens)
refused_name-shrinks true tokens = omega arith
refused_name-shrinks false tokens = omega arith

pub a_listed_name-shrinks : (names unsupported : List (List ℕ)) → Shrinks (a_listed_name names unsupported)
a_listed_name-shrinks names unsupported tokens =
    in_turn (length tokens) (a_word tokens) _ (a_word-shrinks tokens)
    (λ w le. either_way _ (is_listed names w.0) (Ok w) (refused_name (is_listed unsupported w.0) tokens) le (refused_name-shrinks (is_listed unsupported w.0) tokens))

-- ---- several

pub separated-shrinks : {A : Type 0} (s : Sign) (one : List Token → Read A) (n : ℕ) → Shrinks one → Shrinks (separated s one n)
separated-shrinks s one zero h tokens = omega arith
separated-shrinks s one (suc n) h tokens =
    in_turn (length tokens) (one tokens) _ (h tokens) (λ first le.
    either_way (length tokens) (next_is (is_sign s) first.1)
    (the_sign s first.1 >>= λ t. separated s one n t.1 >>= λ others. Ok (first.0 ∷ others.0, others.1)) (Ok (first.0 ∷ [], first.1))
    (in_turn (length tokens) (the_sign s first.1) _ (within (the_sign s) _ first.1 (the_sign-shrinks s) le) (λ t le'.
    in_turn (length tokens) (separated s one n t.1) _ (within (separated s one n) _ t.1 (separated-shrinks s one n h) le') (λ others le''. le''))) le)

pub repeated-shrinks : {A : Type 0} (ends : List Token → Bool) (one : List Token → Read A) (n : ℕ) → Shrinks one → Shrinks (repeated ends one n)
repeated-shrinks ends one zero h tokens = either_way (length tokens) (ends tokens) (Ok ([], tokens)) (unexpected tokens) (omega arith) (omega arith)
repeated-shrinks ends one (suc n) h tokens =
    either_way (length tokens) (ends tokens) (Ok ([], tokens)) (one tokens >>= λ first. repeated ends one n first.1 >>= λ others. Ok (first.0 ∷ others.0, others.1)) (omega arith)
    (in_turn (length tokens) (one tokens) _ (h tokens) (λ first le.
    in_turn (length tokens) (repeated ends one n first.1) _ (within (repeated ends one n) _ first.1 (repeated-shrinks ends one n h) le) (λ others le'. le')))
