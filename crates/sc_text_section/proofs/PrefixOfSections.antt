-- The first tokens decide how a proof section is read.
use Rattle.std.proofs.Common.{ℕ, zero, suc, ◌+◌, ◌≤◌, List, [], ◌∷◌, length, Ok, Err, arith}
use Rattle.std.specs.Prelude.{codes, ◌==◌}
use Rattle.sc_term.specs.declared.Step.{Step}
use Rattle.sc_term.specs.declared.Line.{Line}
use Rattle.sc_term.specs.declared.symbol.Symbol.{Symbol}
use Rattle.sc_input_rules.specs.declared.token.Token.{Token}
use Rattle.sc_input_rules.specs.declared.token.Sign.TheVariants.{Stop, Colon}
use Rattle.sc_input_rules.specs.Token.{is_word}
use Rattle.sc_input_rules.specs.Reader.{Read, ◌>>=◌, next_is, the_sign, the_word}
use Rattle.sc_input_rules.proofs.Shrinking.{LeavesAtMost, Shrinks, in_turn, either_way, within}
use Rattle.sc_input_rules.proofs.Prefix.{Good, good_from, good_sign, not_allowed}
use Rattle.sc_input_rules.proofs.PrefixInTurn.{Takes, OkBy, takes_none, bound, good_bind, good_pure, good_next}
use Rattle.sc_input_rules.proofs.PrefixOfClauses.{good_whole, good_map, good_then}
use Rattle.sc_input_rules.proofs.PrefixOfItems.{good_the_word}
use Rattle.sc_text_rules.specs.TextWords.{the_number}
use Rattle.sc_text_rules.specs.ProofGrammar.{text_clause, a_step, a_line, lines_within, the_heading, proof_section, alone}
use Rattle.sc_text_section.proofs.PrefixOfSteps.{good_such, takes_such, good_text_clause, good_step}

-- ---- lines

abbrev line_3 : List Symbol → Step → List Token → Read Line
line_3 symbols step ts = bound (text_clause symbols ts) (λ c ts. Ok (record { step = step; clause = c }, ts))

abbrev line_2 : List Symbol → Step → List Token → Read Line
line_2 symbols step ts = bound (the_sign Colon ts) (λ u. line_3 symbols step)

abbrev line_1 : List Symbol → List Token → Read Line
line_1 symbols ts = bound (a_step symbols ts) (line_2 symbols)

good_line : (n m : ℕ) (symbols : List Symbol) (number : ℕ) → Good n m (a_line symbols number) (a_line symbols number)
good_line n m symbols number =
    good_then n m (the_number number) (λ k. line_1 symbols) (good_such n m (λ k. k == number)) (λ k.
    good_then n m (a_step symbols) (line_2 symbols) (good_step n m symbols) (λ step.
    good_then n m (the_sign Colon) (λ u. line_3 symbols step) (good_sign n m Colon) (λ u.
    good_map n m (text_clause symbols) (λ c. record { step = step; clause = c }) (good_text_clause n m symbols))))

takes_line : (symbols : List Symbol) (number : ℕ) → Takes 1 (a_line symbols number)
takes_line symbols number ts = by (the_number number ts) (takes_such (λ k. k == number) ts)
  where
    less : (k l : ℕ) (r : Read Line) → k + 1 ≤ l → LeavesAtMost k r → OkBy 1 l r
    less k l (Ok r) le h = omega (arith, le, h)
    less k l (Err f) le h = tt

    rest : Good 0 0 (line_1 symbols) (line_1 symbols)
    rest =
        good_then 0 0 (a_step symbols) (line_2 symbols) (good_step 0 0 symbols) (λ step.
        good_then 0 0 (the_sign Colon) (λ u. line_3 symbols step) (good_sign 0 0 Colon) (λ u.
        good_map 0 0 (text_clause symbols) (λ c. record { step = step; clause = c }) (good_text_clause 0 0 symbols)))

    by : (r : Read ℕ) → OkBy 1 (length ts) r → OkBy 1 (length ts) (bound r (λ k. line_1 symbols))
    by (Ok r) e = less (length r.1) (length ts) (line_1 symbols r.1) e (rest.short r.1)
    by (Err f) e = tt

abbrev after_line : ℕ → List Symbol → ℕ → Line → List Token → Read (List Line)
after_line n symbols number x ts = bound (lines_within n symbols (number + 1) ts) (λ xs ts. Ok (x ∷ xs, ts))

lines-shrinks : (n : ℕ) (symbols : List Symbol) (number : ℕ) → Shrinks (lines_within n symbols number)
lines-shrinks zero symbols number ts = omega arith
lines-shrinks (suc n) symbols number ts =
    either_way (length ts) (next_is (is_word (codes "end_of_proof")) ts) (Ok ([], ts))
    (a_line symbols number ts >>= λ first. lines_within n symbols (number + 1) first.1 >>= λ others. Ok (first.0 ∷ others.0, others.1)) (omega arith)
    (in_turn (length ts) (a_line symbols number ts) _ ((good_line 0 0 symbols number).short ts) (λ first le.
    in_turn (length ts) (lines_within n symbols (number + 1) first.1) _ (within (lines_within n symbols (number + 1)) _ first.1 (lines-shrinks n symbols (number + 1)) le) (λ others le'. le')))

good_lines : (n m : ℕ) (symbols : List Symbol) (number : ℕ) → Good n m (lines_within n symbols number) (lines_within m symbols number)
good_lines zero m symbols number = good_from zero m _ _ (λ ts. omega arith) (lines-shrinks m symbols number) (λ t front more e e'. absurd (omega (arith, e)))
good_lines (suc n) zero symbols number = good_from (suc n) zero _ _ (lines-shrinks (suc n) symbols number) (λ ts. omega arith) (λ t front more e e'. absurd (omega (arith, e')))
good_lines (suc n) (suc m) symbols number =
    good_next (suc n) (suc m) (is_word (codes "end_of_proof")) (λ ts. Ok ([], ts)) (λ ts. Ok ([], ts))
    (λ ts. bound (a_line symbols number ts) (after_line n symbols number)) (λ ts. bound (a_line symbols number ts) (after_line m symbols number)) (good_pure (suc n) (suc m) [])
    (good_bind (suc n) (suc m) n m 1 (a_line symbols number) (a_line symbols number) (after_line n symbols number) (after_line m symbols number) (omega arith) (omega arith)
    (good_line (suc n) (suc m) symbols number) (takes_line symbols number) (λ x.
    good_bind n m n m 0 (lines_within n symbols (number + 1)) (lines_within m symbols (number + 1)) (λ xs ts. Ok (x ∷ xs, ts)) (λ xs ts. Ok (x ∷ xs, ts)) (omega arith) (omega arith)
    (good_lines n m symbols (number + 1)) (takes_none (lines_within n symbols (number + 1)) (lines-shrinks n symbols (number + 1))) (λ xs. good_pure n m (x ∷ xs))))

-- ---- sections

pub good_heading : (n m : ℕ) (name : List ℕ) → Good n m (the_heading name) (the_heading name)
good_heading n m name = good_then n m (the_word name) (λ u. the_sign Stop) (good_the_word n m name) (λ u. good_sign n m Stop)

abbrev lines_at : List Symbol → List Token → Read (List Line)
lines_at symbols ts = lines_within (length ts) symbols 1 ts

abbrev section_2 : List Line → List Token → Read (List Line)
section_2 lines ts = bound (the_heading (codes "end_of_proof") ts) (λ u ts. Ok (lines, ts))

abbrev section_1 : List Symbol → List Token → Read (List Line)
section_1 symbols ts = bound (lines_at symbols ts) section_2

pub good_proof_section : (n m : ℕ) (symbols : List Symbol) → Good n m (proof_section symbols) (proof_section symbols)
good_proof_section n m symbols =
    good_then n m (the_heading (codes "proof")) (λ u. section_1 symbols) (good_heading n m (codes "proof")) (λ u.
    good_then n m (lines_at symbols) section_2 (good_whole (λ k. lines_within k symbols 1) (λ k. lines-shrinks k symbols 1) (λ k l. good_lines k l symbols 1) n m) (λ lines.
    good_map n m (the_heading (codes "end_of_proof")) (λ u. lines) (good_heading n m (codes "end_of_proof"))))

-- the value, where no token is left
abbrev at_the_end : List Line → List Token → Read (List Line)
at_the_end lines ts = alone (Ok (lines, ts))

good_end : (n m : ℕ) (lines : List Line) → Good n m (at_the_end lines) (at_the_end lines)
good_end n m lines = good_from n m _ _ leaves leaves (λ t front more e e'. not_allowed t front more)
  where
    leaves : Shrinks (at_the_end lines)
    leaves [] = omega arith
    leaves (t ∷ ts) = omega arith

pub good_section : (symbols : List Symbol) (n m : ℕ) → Good n m (λ tokens. alone (proof_section symbols tokens)) (λ tokens. alone (proof_section symbols tokens))
good_section symbols n m = good_then n m (proof_section symbols) at_the_end (good_proof_section n m symbols) (λ lines. good_end n m lines)
