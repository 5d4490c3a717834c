-- What reading lines gives, by what reading the first gives.
use Rattle.std.proofs.Common.{◌≡◌, ◌∙◌, sym, ap, refl, subst, ℕ, suc, ◌+◌, ◌-◌, true, false, List, [], ◌∷◌, ◌++◌, append-nil, map, Result, Ok, Err}
use Rattle.std.specs.Prelude.{codes}
use Rattle.sc_term.specs.declared.Step.{Step}
use Rattle.sc_term.specs.declared.Clause.{Clause}
use Rattle.sc_term.specs.declared.Line.{Line}
use Rattle.sc_term.specs.declared.symbol.Symbol.{Symbol}
use Rattle.sc_input_rules.specs.declared.token.Token.{Token}
use Rattle.sc_input_rules.specs.declared.token.Sign.TheVariants.{Colon}
use Rattle.sc_input_rules.specs.Reader.{Read, ◌>>=◌, the_sign}
use Rattle.sc_input_rules.specs.ProblemGrammar.{next_is_word}
use Rattle.sc_input_scan.specs.declared.stop.Stop.{Stop}
use Rattle.sc_input_scan.specs.Told.{Fails, Gives}
use Rattle.sc_input_grammar.specs.Behind.{behind}
use Rattle.sc_input_grammar.proofs.Lists.{fails_on}
use Rattle.sc_text_rules.specs.TextWords.{the_number}
use Rattle.sc_text_rules.specs.ProofGrammar.{a_step, text_clause, a_line, lines_within}
use Rattle.sc_text_section.specs.Clipped.{clipped_step, clipped_clause, clipped_line, clipped_lines, seen_by}
use Rattle.sc_text_section.proofs.Sequences.{was_read, fails_unseen, fails_then, fails_behind, gives_err, first_of_two, second_of_two, one_in_front}

-- ---- one line

abbrev behind_colon : List Symbol → Step → List Token → Read Line
behind_colon symbols step tokens = text_clause symbols tokens >>= λ c. Ok (record { step = step; clause = c.0 }, c.1)

abbrev behind_step : List Symbol → Step → List Token → Read Line
behind_step symbols step tokens = the_sign Colon tokens >>= λ colon. behind_colon symbols step colon.1

abbrev behind_number : List Symbol → List Token → Read Line
behind_number symbols tokens = a_step symbols tokens >>= λ step. behind_step symbols step.0 step.1

module _ (symbols : List Symbol) (number n : ℕ) (tokens first second third : List Token) (is : the_number number tokens ≡ Ok (n, first)) where
  pub step_fails : (e : Stop) → Fails e (seen_by clipped_step (a_step symbols first)) → Fails e (seen_by clipped_line (a_line symbols number tokens))
  step_fails e h =
      fails_on e (a_line symbols number tokens) (λ r. Ok (clipped_line r.0, r.1))
      (fails_then e (the_number number tokens) n first (λ n. behind_number symbols n.1) is
      (fails_on e (a_step symbols first) (λ step. behind_step symbols step.0 step.1) (fails_unseen clipped_step (a_step symbols first) e h)))

  pub colon_fails : (e : Stop) (step : Step) → seen_by clipped_step (a_step symbols first) ≡ Ok (step, second) → Fails e (the_sign Colon second) → Fails e (seen_by clipped_line (a_line symbols number tokens))
  colon_fails e step s h =
      fails_on e (a_line symbols number tokens) (λ r. Ok (clipped_line r.0, r.1))
      (fails_then e (the_number number tokens) n first (λ n. behind_number symbols n.1) is
      (fails_behind e clipped_step (a_step symbols first) step second (λ step. behind_step symbols step.0 step.1) s (λ x.
      fails_on e (the_sign Colon second) (λ colon. behind_colon symbols x colon.1) h)))

  pub clause_fails : (e : Stop) (step : Step) → seen_by clipped_step (a_step symbols first) ≡ Ok (step, second) → the_sign Colon second ≡ Ok (tt, third)
      → Fails e (seen_by clipped_clause (text_clause symbols third)) → Fails e (seen_by clipped_line (a_line symbols number tokens))
  clause_fails e step s colon h =
      fails_on e (a_line symbols number tokens) (λ r. Ok (clipped_line r.0, r.1))
      (fails_then e (the_number number tokens) n first (λ n. behind_number symbols n.1) is
      (fails_behind e clipped_step (a_step symbols first) step second (λ step. behind_step symbols step.0 step.1) s (λ x.
      fails_then e (the_sign Colon second) tt third (λ colon. behind_colon symbols x colon.1) colon
      (fails_on e (text_clause symbols third) (λ c. Ok (record { step = x; clause = c.0 }, c.1)) (fails_unseen clipped_clause (text_clause symbols third) e h)))))

  pub line_made : (step : Step) (c : Clause) (after : List Token) → seen_by clipped_step (a_step symbols first) ≡ Ok (step, second) → the_sign Colon second ≡ Ok (tt, third)
      → seen_by clipped_clause (text_clause symbols third) ≡ Ok (c, after) → seen_by clipped_line (a_line symbols number tokens) ≡ Ok (record { step = step; clause = c }, after)
  line_made step c after s colon t =
      let u = was_read clipped_step (a_step symbols first) step second s in
      let v = was_read clipped_clause (text_clause symbols third) c after t in
      ap (λ (r : Read ℕ). seen_by clipped_line (r >>= λ n. behind_number symbols n.1)) is
      ∙ ap (λ (r : Read Step). seen_by clipped_line (r >>= λ step. behind_step symbols step.0 step.1)) u.was
      ∙ ap (λ (r : Read (Unit {0})). seen_by clipped_line (r >>= λ colon. behind_colon symbols u.value colon.1)) colon
      ∙ ap (λ (r : Read Clause). seen_by clipped_line (r >>= λ c. Ok (record { step = u.value; clause = c.0 }, c.1))) v.was
      ∙ sym (λ j. Ok (record { step = u.is j; clause = v.is j }, after))

-- ---- lines up to the closing word

abbrev single : Line → List Line
single line = clipped_line line ∷ []

abbrev after_first : ℕ → List Symbol → ℕ → Line × List Token → Read (List Line)
after_first n symbols number first = lines_within n symbols (number + 1) first.1 >>= λ others. Ok (first.0 ∷ others.0, others.1)

module _ (symbols : List Symbol) (most count : ℕ) (front : List Line) (tokens : List Token) (still : most - count ≡ suc (most - (count + 1))) where
  abbrev left : ℕ
  left = most - (count + 1)

  pub lines_on : (new : List Line) (line : Line) (after : List Token) → next_is_word (codes "end_of_proof") tokens ≡ false → new ≡ front ++ line ∷ []
      → seen_by clipped_line (a_line symbols (count + 1) tokens) ≡ Ok (line, after)
      → behind new (clipped_lines (lines_within left symbols (count + 1 + 1) after)) ≡ behind front (clipped_lines (lines_within (most - count) symbols (count + 1) tokens))
  lines_on new line after b grown e =
      let w = was_read clipped_line (a_line symbols (count + 1) tokens) line after e in
      let read = a_line symbols (count + 1) tokens in
      one_in_front single (map clipped_line) (λ x xs. refl) front new w.value (lines_within left symbols (count + 1 + 1) after) (grown ∙ ap (λ (l : Line). front ++ l ∷ []) w.is)
      ∙ sym (ap (λ (k : ℕ). behind front (clipped_lines (lines_within k symbols (count + 1) tokens))) still
      ∙ ap (λ (r : Read (List Line)). behind front (clipped_lines r))
      (second_of_two (next_is_word (codes "end_of_proof") tokens) (Ok ([], tokens)) (read >>= after_first left symbols (count + 1)) b ∙ ap (λ (r : Read Line). r >>= after_first left symbols (count + 1)) w.was))

  pub lines_end : next_is_word (codes "end_of_proof") tokens ≡ true → behind front (clipped_lines (lines_within (most - count) symbols (count + 1) tokens)) ≡ Ok (front, tokens)
  lines_end b =
      ap (λ (k : ℕ). behind front (clipped_lines (lines_within k symbols (count + 1) tokens))) still
      ∙ ap (λ (r : Read (List Line)). behind front (clipped_lines r))
      (first_of_two (next_is_word (codes "end_of_proof") tokens) (Ok ([], tokens)) (a_line symbols (count + 1) tokens >>= after_first left symbols (count + 1)) b)
      ∙ ap (λ (ls : List Line). Ok (ls, tokens)) (append-nil front)

  pub lines_fail : {X : Type 0} (view : X → List Line × List Token) (result : Result X Stop) (e : Stop) (whole : Read (List Line)) → next_is_word (codes "end_of_proof") tokens ≡ false
      → result ≡ Err e → Fails e (seen_by clipped_line (a_line symbols (count + 1) tokens)) → behind front (clipped_lines (lines_within (most - count) symbols (count + 1) tokens)) ≡ whole → Gives view result whole
  lines_fail {X} view result e whole b is h all =
      let read = a_line symbols (count + 1) tokens in
      let rest = read >>= after_first left symbols (count + 1) in
      let step : behind front (clipped_lines rest) ≡ whole =
      sym (ap (λ (k : ℕ). behind front (clipped_lines (lines_within k symbols (count + 1) tokens))) still
      ∙ ap (λ (r : Read (List Line)). behind front (clipped_lines r)) (second_of_two (next_is_word (codes "end_of_proof") tokens) (Ok ([], tokens)) rest b)) ∙ all in
      gives_err view result e whole is (subst (Fails e) step
      (fails_on e (clipped_lines rest) (λ r. Ok (front ++ r.0, r.1)) (fails_on e rest (λ r. Ok (map clipped_line r.0, r.1)) (fails_on e read (after_first left symbols (count + 1)) (fails_unseen clipped_line read e h)))))
