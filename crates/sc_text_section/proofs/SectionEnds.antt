-- What a proof section leaves is an end of what it was given.
use Rattle.std.proofs.Common.{ℕ, zero, suc, ◌+◌, Bool, true, false, ◌&&◌, List, [], ◌∷◌, length, Ok}
use Rattle.std.specs.Prelude.{codes, flat_map, ◌==◌}
use Rattle.std.specs.List.{list_all}
use Rattle.std.specs.Str.Parse.{digits_value}
use Rattle.sc_term.specs.declared.Step.{Step}
use Rattle.sc_term.specs.declared.Step.TheVariants.{Merge, Flip}
use Rattle.sc_term.specs.declared.Side.TheVariants.{Left, Right}
use Rattle.sc_term.specs.declared.Line.{Line}
use Rattle.sc_term.specs.declared.symbol.Symbol.{Symbol}
use Rattle.sc_input_rules.specs.declared.token.Token.{Token}
use Rattle.sc_input_rules.specs.declared.token.Sign.TheVariants.{Close, Comma, Stop, Colon}
use Rattle.sc_input_rules.specs.Token.{is_sign, same_text}
use Rattle.sc_input_rules.specs.Tokens.{is_digit}
use Rattle.sc_input_rules.specs.Reader.{Read, ◌>>=◌, unexpected, next_is, the_sign, the_word, a_word, separated}
use Rattle.sc_input_rules.specs.ClauseGrammar.{bracketed, side, clause}
use Rattle.sc_input_rules.specs.ProblemGrammar.{next_is_word}
use Rattle.sc_input_rules.specs.Numbering.{terms_of}
use Rattle.sc_input_rules.proofs.Ends.{IsEnd, Leaves, LeavesEnd, all_left, in_turn, behind, either, the_sign-end, a_word-end, the_word-end, separated-end, bracketed-end, side-end, clause-end}
use Rattle.sc_text_rules.specs.TextWords.{a_number_such, a_number, the_number, text_variable}
use Rattle.sc_text_rules.specs.ProofGrammar.{text_clause, text_terms, a_side, input_step, instance_step, resolve_step, of_line_and_literal, para_step, step_named, a_step, a_line, lines_within, the_heading, proof_section, alone}

-- ---- one after another

-- one production, and then another that goes on from what it leaves
pub one_then : {A B : Type 0} (whole ts : List Token) (p : List Token → Read A) (f : A × List Token → Read B) → LeavesEnd p → IsEnd whole ts → ((v : A × List Token) → IsEnd whole v.1 → Leaves whole (f v)) → Leaves whole (p ts >>= f)
one_then whole ts p f h e k = in_turn whole (p ts) f (behind p whole ts h e) k

number_such-end : (test : ℕ → Bool) → LeavesEnd (a_number_such test)
number_such-end test ts =
    in_turn ts (a_word ts) _ (a_word-end ts)
    (λ w e. either ts (list_all is_digit w.0.text && test (digits_value 10 w.0.text)) (Ok (digits_value 10 w.0.text, w.1)) (unexpected ts) e (all_left ts))

number-end : LeavesEnd a_number
number-end = number_such-end (λ n. true)

-- ---- clauses and terms

pub text_clause-end : (symbols : List Symbol) → LeavesEnd (text_clause symbols)
text_clause-end symbols ts = one_then ts ts clause _ clause-end (all_left ts) (λ c e. one_then ts c.1 (the_sign Stop) _ (the_sign-end Stop) e (λ s e'. e'))

text_terms-end : (symbols : List Symbol) → LeavesEnd (text_terms symbols)
text_terms-end symbols ts =
    either ts (next_is (is_sign Close) ts) (Ok ([], ts)) (separated Comma side (length ts) ts >>= λ ss. Ok (flat_map (terms_of text_variable symbols) ss.0, ss.1)) (all_left ts)
    (one_then ts ts (separated Comma side (length ts)) _ (separated-end Comma side (length ts) side-end) (all_left ts) (λ ss e. e))

-- ---- steps

a_side-end : LeavesEnd a_side
a_side-end ts =
    either ts (next_is_word (codes "left") ts) (the_word (codes "left") ts >>= λ w. Ok (Left, w.1)) (the_word (codes "right") ts >>= λ w. Ok (Right, w.1))
    (one_then ts ts (the_word (codes "left")) _ (the_word-end (codes "left")) (all_left ts) (λ w e. e))
    (one_then ts ts (the_word (codes "right")) _ (the_word-end (codes "right")) (all_left ts) (λ w e. e))

input-end : LeavesEnd input_step
input-end ts = one_then ts ts a_number _ number-end (all_left ts) (λ k e. e)

instance-end : (symbols : List Symbol) → LeavesEnd (instance_step symbols)
instance-end symbols ts =
    one_then ts ts a_number _ number-end (all_left ts) (λ j e.
    one_then ts j.1 (bracketed (text_terms symbols)) _ (bracketed-end (text_terms symbols) (text_terms-end symbols)) e (λ terms e'. e'))

resolve-end : LeavesEnd resolve_step
resolve-end ts =
    one_then ts ts a_number _ number-end (all_left ts) (λ j e.
    one_then ts j.1 a_number _ number-end e (λ a e'.
    one_then ts a.1 a_number _ number-end e' (λ k e''.
    one_then ts k.1 a_number _ number-end e'' (λ b e'''. e'''))))

of_line_and_literal-end : (step : ℕ → ℕ → Step) → LeavesEnd (of_line_and_literal step)
of_line_and_literal-end step ts = one_then ts ts a_number _ number-end (all_left ts) (λ j e. one_then ts j.1 a_number _ number-end e (λ a e'. e'))

para-end : LeavesEnd para_step
para-end ts =
    one_then ts ts a_number _ number-end (all_left ts) (λ j e.
    one_then ts j.1 a_number _ number-end e (λ a e'.
    one_then ts a.1 a_side _ a_side-end e' (λ s e''.
    one_then ts s.1 a_number _ number-end e'' (λ k e'''.
    one_then ts k.1 a_number _ number-end e''' (λ b e''''.
    one_then ts b.1 (bracketed (separated Comma a_number (length b.1))) _ (bracketed-end (separated Comma a_number (length b.1)) (separated-end Comma a_number (length b.1) number-end)) e'''' (λ path e'''''. e'''''))))))

module _ (symbols : List Symbol) (name : List ℕ) (ts rest : List Token) (e : IsEnd ts rest) where
  named : (word : List ℕ) (p : List Token → Read Step) (other : Read Step) → LeavesEnd p → Leaves ts other → Leaves ts (elim (same_text name word) [ true ↦ p rest | false ↦ other ])
  named word p other h k = either ts (same_text name word) (p rest) other (behind p ts rest h e) k

  step_named-end : Leaves ts (step_named symbols name rest ts)
  step_named-end =
      named (codes "input") input_step _ input-end
      (named (codes "instance") (instance_step symbols) _ (instance-end symbols)
      (named (codes "resolve") resolve_step _ resolve-end
      (named (codes "merge") (of_line_and_literal (λ j a. Merge j a)) _ (of_line_and_literal-end (λ j a. Merge j a))
      (named (codes "para") para_step _ para-end
      (named (codes "flip") (of_line_and_literal (λ j a. Flip j a)) (unexpected ts) (of_line_and_literal-end (λ j a. Flip j a)) (all_left ts))))))

a_step-end : (symbols : List Symbol) → LeavesEnd (a_step symbols)
a_step-end symbols ts = one_then ts ts a_word _ a_word-end (all_left ts) (λ name e. step_named-end symbols name.0.text ts name.1 e)

-- ---- lines

a_line-end : (symbols : List Symbol) (number : ℕ) → LeavesEnd (a_line symbols number)
a_line-end symbols number ts =
    one_then ts ts (the_number number) _ (number_such-end (λ k. k == number)) (all_left ts) (λ n e.
    one_then ts n.1 (a_step symbols) _ (a_step-end symbols) e (λ step e'.
    one_then ts step.1 (the_sign Colon) _ (the_sign-end Colon) e' (λ colon e''.
    one_then ts colon.1 (text_clause symbols) _ (text_clause-end symbols) e'' (λ c e'''. e'''))))

lines-end : (n : ℕ) (symbols : List Symbol) (number : ℕ) → LeavesEnd (lines_within n symbols number)
lines-end zero symbols number ts = all_left ts
lines-end (suc n) symbols number ts =
    either ts (next_is_word (codes "end_of_proof") ts) (Ok ([], ts))
    (a_line symbols number ts >>= λ first. lines_within n symbols (number + 1) first.1 >>= λ others. Ok (first.0 ∷ others.0, others.1)) (all_left ts)
    (one_then ts ts (a_line symbols number) _ (a_line-end symbols number) (all_left ts) (λ first e.
    one_then ts first.1 (lines_within n symbols (number + 1)) _ (lines-end n symbols (number + 1)) e (λ others e'. e')))

pub the_heading-end : (name : List ℕ) → LeavesEnd (the_heading name)
the_heading-end name ts = one_then ts ts (the_word name) _ (the_word-end name) (all_left ts) (λ w e. behind (the_sign Stop) ts w.1 (the_sign-end Stop) e)

pub proof_section-end : (symbols : List Symbol) → LeavesEnd (proof_section symbols)
proof_section-end symbols ts =
    one_then ts ts (the_heading (codes "proof")) _ (the_heading-end (codes "proof")) (all_left ts) (λ begin e.
    one_then ts begin.1 (lines_within (length begin.1) symbols 1) _ (lines-end (length begin.1) symbols 1) e (λ lines e'.
    one_then ts lines.1 (the_heading (codes "end_of_proof")) _ (the_heading-end (codes "end_of_proof")) e' (λ end e''. e'')))

nothing_behind-end : (whole : List Token) (lines : List Line) (left : List Token) → IsEnd whole left → Leaves whole (alone (Ok (lines, left)))
nothing_behind-end whole lines [] e = e
nothing_behind-end whole lines (t ∷ ts) e = e

pub section-end : (symbols : List Symbol) → LeavesEnd (λ tokens. alone (proof_section symbols tokens))
section-end symbols ts = in_turn ts (proof_section symbols ts) _ (proof_section-end symbols ts) (λ r e. nothing_behind-end ts r.0 r.1 e)
