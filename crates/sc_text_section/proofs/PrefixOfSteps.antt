-- The first tokens decide how the steps and clauses of a proof section are read.
use Rattle.std.proofs.Common.{refl, ℕ, ◌≤◌, Bool, true, false, ◌&&◌, List, [], ◌∷◌, ◌++◌, map, length, Ok, arith}
use Rattle.std.specs.Prelude.{codes, flat_map}
use Rattle.std.specs.List.{list_all}
use Rattle.std.specs.Str.Parse.{digits_value}
use Rattle.sc_term.specs.declared.Step.{Step}
use Rattle.sc_term.specs.declared.Step.TheVariants.{Input, Instance, Resolve, Merge, Para, Flip}
use Rattle.sc_term.specs.declared.Side.{Side}
use Rattle.sc_term.specs.declared.Side.TheVariants.{Left, Right}
use Rattle.sc_term.specs.declared.Term.{Term}
use Rattle.sc_term.specs.declared.Clause.{Clause}
use Rattle.sc_term.specs.declared.symbol.Symbol.{Symbol}
use Rattle.sc_input_rules.specs.declared.token.Token.{Token}
use Rattle.sc_input_rules.specs.declared.token.Token.TheVariants.{Word, Punctuation, Refused}
use Rattle.sc_input_rules.specs.declared.token.Sign.TheVariants.{Close, Comma, Stop}
use Rattle.sc_input_rules.specs.Token.{is_sign, is_word, same_text}
use Rattle.sc_input_rules.specs.Tokens.{is_digit}
use Rattle.sc_input_rules.specs.Reader.{Read, unexpected, the_sign, the_word, a_word, separated}
use Rattle.sc_input_rules.specs.Syntax.{WrittenClause, Side as WrittenSide}
use Rattle.sc_input_rules.specs.ClauseGrammar.{bracketed, side_within, side, clause}
use Rattle.sc_input_rules.specs.Numbering.{terms_of, literal_of}
use Rattle.sc_input_rules.proofs.Shrinking.{LeavesAtMost, Shrinks, in_turn, either_way, within, a_word-shrinks, separated-shrinks}
use Rattle.sc_input_rules.proofs.ShrinkingOfClauses.{bracketed-shrinks, side_within-shrinks, side-shrinks}
use Rattle.sc_input_rules.proofs.Prefix.{Agrees, Good, good_from, good_sign, taken, one_of_two}
use Rattle.sc_input_rules.proofs.PrefixInTurn.{Takes, OkBy, bound, good_pure, good_next, good_separated}
use Rattle.sc_input_rules.proofs.PrefixOfSides.{good_bracketed, good_side}
use Rattle.sc_input_rules.proofs.PrefixOfClauses.{good_whole, good_map, good_then, good_clause}
use Rattle.sc_input_rules.proofs.PrefixOfItems.{good_the_word}
use Rattle.sc_text_rules.specs.TextWords.{a_number_such, a_number, text_variable}
use Rattle.sc_text_rules.specs.ProofGrammar.{text_clause, text_terms, a_side, input_step, instance_step, resolve_step, of_line_and_literal, para_step, step_named, a_step}

-- ---- numbers

number-shrinks : (test : ℕ → Bool) → Shrinks (a_number_such test)
number-shrinks test ts =
    in_turn (length ts) (a_word ts) _ (a_word-shrinks ts)
    (λ w le. either_way _ (list_all is_digit w.0.text && test (digits_value 10 w.0.text)) (Ok (digits_value 10 w.0.text, w.1)) (unexpected ts) le (omega arith))

number_agrees : (test : ℕ → Bool) (t : Token) (front more : List Token) → Agrees more (a_number_such test (t ∷ front)) (a_number_such test (t ∷ (front ++ more)))
number_agrees test (Word at text) front more =
    let n = digits_value 10 text in
    one_of_two more (list_all is_digit text && test n) (Ok (n, front)) (Ok (n, front ++ more)) (unexpected (Word at text ∷ front)) (unexpected (Word at text ∷ (front ++ more))) (taken n front more) refl
number_agrees test (Punctuation at s) front more = refl
number_agrees test (Refused at kind) front more = refl

pub good_such : (n m : ℕ) (test : ℕ → Bool) → Good n m (a_number_such test) (a_number_such test)
good_such n m test = good_from n m _ _ (number-shrinks test) (number-shrinks test) (λ t front more e e'. number_agrees test t front more)

good_number : (n m : ℕ) → Good n m a_number a_number
good_number n m = good_such n m (λ k. true)

pub takes_such : (test : ℕ → Bool) → Takes 1 (a_number_such test)
takes_such test [] = tt
takes_such test (Punctuation at s ∷ ts) = tt
takes_such test (Refused at kind ∷ ts) = tt
takes_such test (Word at text ∷ ts) = by (list_all is_digit text && test (digits_value 10 text))
  where
    by : (b : Bool) → OkBy {A = ℕ} 1 (length (Word at text ∷ ts)) (elim b [ true ↦ Ok (digits_value 10 text, ts) | false ↦ unexpected (Word at text ∷ ts) ])
    by true = omega arith
    by false = tt

-- ---- clauses and terms

abbrev clause_of : List Symbol → WrittenClause → Clause
clause_of symbols c = record { literals = map (literal_of text_variable symbols) c }

pub good_text_clause : (n m : ℕ) (symbols : List Symbol) → Good n m (text_clause symbols) (text_clause symbols)
good_text_clause n m symbols =
    good_then n m clause (λ c ts. bound (the_sign Stop ts) (λ u ts. Ok (clause_of symbols c, ts))) (good_clause n m) (λ c. good_map n m (the_sign Stop) (λ u. clause_of symbols c) (good_sign n m Stop))

good_whole_side : (n m : ℕ) → Good n m side side
good_whole_side n m = good_whole side_within side_within-shrinks good_side n m

good_sides : (n m : ℕ) → Good n m (λ ts. separated Comma side (length ts) ts) (λ ts. separated Comma side (length ts) ts)
good_sides n m =
    good_whole (separated Comma side) (λ n. separated-shrinks Comma side n side-shrinks) (λ n m. good_separated n m Comma side side n m (omega arith) (omega arith) (good_whole_side n m)) n m

abbrev terms_from : List Symbol → List WrittenSide → List Term
terms_from symbols ss = flat_map (terms_of text_variable symbols) ss

good_terms : (n m : ℕ) (symbols : List Symbol) → Good n m (text_terms symbols) (text_terms symbols)
good_terms n m symbols =
    let some = λ (ts : List Token). bound (separated Comma side (length ts) ts) (λ ss ts. Ok (terms_from symbols ss, ts)) in
    good_next n m (is_sign Close) (λ ts. Ok ([], ts)) (λ ts. Ok ([], ts)) some some (good_pure n m [])
    (good_map n m (λ ts. separated Comma side (length ts) ts) (terms_from symbols) (good_sides n m))

-- ---- steps

good_a_side : (n m : ℕ) → Good n m a_side a_side
good_a_side n m =
    let left : List Token → Read Side = λ ts. bound (the_word (codes "left") ts) (λ u ts. Ok (Left, ts)) in
    let right : List Token → Read Side = λ ts. bound (the_word (codes "right") ts) (λ u ts. Ok (Right, ts)) in
    good_next n m (is_word (codes "left")) left left right right
    (good_map n m (the_word (codes "left")) (λ u. Left) (good_the_word n m (codes "left"))) (good_map n m (the_word (codes "right")) (λ u. Right) (good_the_word n m (codes "right")))

good_input : (n m : ℕ) → Good n m input_step input_step
good_input n m = good_map n m a_number (λ k. Input k) (good_number n m)

good_instance : (n m : ℕ) (symbols : List Symbol) → Good n m (instance_step symbols) (instance_step symbols)
good_instance n m symbols =
    good_then n m a_number (λ j ts. bound (bracketed (text_terms symbols) ts) (λ terms ts. Ok (Instance j terms, ts))) (good_number n m) (λ j.
    good_map n m (bracketed (text_terms symbols)) (λ terms. Instance j terms) (good_bracketed n m (text_terms symbols) (text_terms symbols) (good_terms n m symbols)))

abbrev resolve_3 : ℕ → ℕ → ℕ → List Token → Read Step
resolve_3 j a k ts = bound (a_number ts) (λ b ts. Ok (Resolve j a k b, ts))

abbrev resolve_2 : ℕ → ℕ → List Token → Read Step
resolve_2 j a ts = bound (a_number ts) (resolve_3 j a)

abbrev resolve_1 : ℕ → List Token → Read Step
resolve_1 j ts = bound (a_number ts) (resolve_2 j)

good_resolve : (n m : ℕ) → Good n m resolve_step resolve_step
good_resolve n m =
    good_then n m a_number resolve_1 (good_number n m) (λ j.
    good_then n m a_number (resolve_2 j) (good_number n m) (λ a.
    good_then n m a_number (resolve_3 j a) (good_number n m) (λ k.
    good_map n m a_number (λ b. Resolve j a k b) (good_number n m))))

good_line_and_literal : (n m : ℕ) (step : ℕ → ℕ → Step) → Good n m (of_line_and_literal step) (of_line_and_literal step)
good_line_and_literal n m step =
    good_then n m a_number (λ j ts. bound (a_number ts) (λ a ts. Ok (step j a, ts))) (good_number n m) (λ j. good_map n m a_number (step j) (good_number n m))

abbrev path_at : List Token → Read (List ℕ)
path_at ts = bracketed (separated Comma a_number (length ts)) ts

abbrev path_within : ℕ → List Token → Read (List ℕ)
path_within n = bracketed (separated Comma a_number n)

path-shrinks : (n : ℕ) → Shrinks (path_within n)
path-shrinks n = bracketed-shrinks (separated Comma a_number n) (separated-shrinks Comma a_number n (number-shrinks (λ k. true)))

good_path_within : (n m : ℕ) → Good n m (path_within n) (path_within m)
good_path_within n m =
    good_bracketed n m (separated Comma a_number n) (separated Comma a_number m) (good_separated n m Comma a_number a_number n m (omega arith) (omega arith) (good_number n m))

good_path : (n m : ℕ) → Good n m path_at path_at
good_path n m = good_whole path_within path-shrinks good_path_within n m

abbrev para_5 : ℕ → ℕ → Side → ℕ → ℕ → List Token → Read Step
para_5 j a s k b ts = bound (path_at ts) (λ path ts. Ok (Para j a s k b path, ts))

abbrev para_4 : ℕ → ℕ → Side → ℕ → List Token → Read Step
para_4 j a s k ts = bound (a_number ts) (para_5 j a s k)

abbrev para_3 : ℕ → ℕ → Side → List Token → Read Step
para_3 j a s ts = bound (a_number ts) (para_4 j a s)

abbrev para_2 : ℕ → ℕ → List Token → Read Step
para_2 j a ts = bound (a_side ts) (para_3 j a)

abbrev para_1 : ℕ → List Token → Read Step
para_1 j ts = bound (a_number ts) (para_2 j)

good_para : (n m : ℕ) → Good n m para_step para_step
good_para n m =
    good_then n m a_number para_1 (good_number n m) (λ j.
    good_then n m a_number (para_2 j) (good_number n m) (λ a.
    good_then n m a_side (para_3 j a) (good_a_side n m) (λ s.
    good_then n m a_number (para_4 j a s) (good_number n m) (λ k.
    good_then n m a_number (para_5 j a s k) (good_number n m) (λ b.
    good_map n m path_at (λ path. Para j a s k b path) (good_path n m))))))

-- A word that names no step fails at itself, so what follows from it is said with the tokens from it on.

module _ (symbols : List Symbol) (name : List ℕ) (whole rest : List Token) (n : ℕ) (all : length whole ≤ n) (le : length rest ≤ n) where
  named_leaves : (word : List ℕ) (p : List Token → Read Step) (other : Read Step) → Shrinks p → LeavesAtMost n other → LeavesAtMost n (elim (same_text name word) [ true ↦ p rest | false ↦ other ])
  named_leaves word p other h k = either_way n (same_text name word) (p rest) other (within p n rest h le) k

  step_named-leaves : LeavesAtMost n (step_named symbols name rest whole)
  step_named-leaves =
      named_leaves (codes "input") input_step _ (good_input 0 0).short
      (named_leaves (codes "instance") (instance_step symbols) _ (good_instance 0 0 symbols).short
      (named_leaves (codes "resolve") resolve_step _ (good_resolve 0 0).short
      (named_leaves (codes "merge") (of_line_and_literal (λ j a. Merge j a)) _ (good_line_and_literal 0 0 (λ j a. Merge j a)).short
      (named_leaves (codes "para") para_step _ (good_para 0 0).short
      (named_leaves (codes "flip") (of_line_and_literal (λ j a. Flip j a)) (unexpected whole) (good_line_and_literal 0 0 (λ j a. Flip j a)).short all)))))

step-shrinks : (symbols : List Symbol) → Shrinks (a_step symbols)
step-shrinks symbols ts = in_turn (length ts) (a_word ts) _ (a_word-shrinks ts) (λ name le. step_named-leaves symbols name.0.text ts name.1 (length ts) (omega arith) le)

module _ (n m : ℕ) (symbols : List Symbol) (at : ℕ) (name : List ℕ) (front more : List Token) (e : length (Word at name ∷ front) ≤ n) (e' : length (Word at name ∷ (front ++ more)) ≤ m) where
  named_agrees : (word : List ℕ) (p : List Token → Read Step) (other other' : Read Step) → Good n m p p → Agrees more other other'
      → Agrees more (elim (same_text name word) [ true ↦ p front | false ↦ other ]) (elim (same_text name word) [ true ↦ p (front ++ more) | false ↦ other' ])
  named_agrees word p other other' g k = one_of_two more (same_text name word) (p front) (p (front ++ more)) other other' (g.agrees front more (omega (arith, e)) (omega (arith, e'))) k

  step_named-agrees : Agrees more (step_named symbols name front (Word at name ∷ front)) (step_named symbols name (front ++ more) (Word at name ∷ (front ++ more)))
  step_named-agrees =
      named_agrees (codes "input") input_step _ _ (good_input n m)
      (named_agrees (codes "instance") (instance_step symbols) _ _ (good_instance n m symbols)
      (named_agrees (codes "resolve") resolve_step _ _ (good_resolve n m)
      (named_agrees (codes "merge") (of_line_and_literal (λ j a. Merge j a)) _ _ (good_line_and_literal n m (λ j a. Merge j a))
      (named_agrees (codes "para") para_step _ _ (good_para n m)
      (named_agrees (codes "flip") (of_line_and_literal (λ j a. Flip j a)) (unexpected (Word at name ∷ front)) (unexpected (Word at name ∷ (front ++ more))) (good_line_and_literal n m (λ j a. Flip j a)) refl)))))

step_agrees : (n m : ℕ) (symbols : List Symbol) (t : Token) (front more : List Token) → length (t ∷ front) ≤ n → length (t ∷ (front ++ more)) ≤ m → Agrees more (a_step symbols (t ∷ front)) (a_step symbols (t ∷ (front ++ more)))
step_agrees n m symbols (Word at name) front more e e' = step_named-agrees n m symbols at name front more e e'
step_agrees n m symbols (Punctuation at s) front more e e' = refl
step_agrees n m symbols (Refused at kind) front more e e' = refl

pub good_step : (n m : ℕ) (symbols : List Symbol) → Good n m (a_step symbols) (a_step symbols)
good_step n m symbols = good_from n m _ _ (step-shrinks symbols) (step-shrinks symbols) (λ t front more e e'. step_agrees n m symbols t front more e e')
