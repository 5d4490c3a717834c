-- What reading rows gives, by what reading the first gives.
use Rattle.std.proofs.Common.{◌≡◌, ◌∙◌, sym, ap, subst, refl, ℕ, zero, suc, ◌+◌, ◌-◌, true, false, List, [], ◌∷◌, ◌++◌, append-nil, Result, Ok, Err}
use Rattle.sc_input_rules.specs.declared.token.Token.{Token}
use Rattle.sc_input_rules.specs.Reader.{Read, ◌>>=◌}
use Rattle.sc_input_rules.specs.ProblemGrammar.{next_is_word}
use Rattle.sc_input_scan.specs.declared.stop.Stop.{Stop}
use Rattle.sc_input_scan.specs.Told.{Fails, Gives}
use Rattle.sc_input_grammar.specs.Behind.{behind}
use Rattle.sc_input_grammar.proofs.Lists.{one_behind, fails_on, gives_failure}
use Rattle.sc_text_section.proofs.Sequences.{first_of_two, second_of_two}
use Rattle.sc_text_run_rules.specs.RowWords.{rows_of}

module _ {A S : Type 0} (word : List ℕ) (one : S → List Token → Read A) (moved : S → A → S) where
  abbrev rows : ℕ → S → List Token → Read (List A)
  rows = rows_of word one moved

  abbrev after_one : ℕ → S → A × List Token → Read (List A)
  after_one n s a = rows n (moved s a.0) a.1 >>= λ others. Ok (a.0 ∷ others.0, others.1)

  pub rows_one : (most count : ℕ) (s : S) (x : A) (tokens after : List Token) → most - count ≡ suc (most - (count + 1))
      → next_is_word word tokens ≡ true → one s tokens ≡ Ok (x, after)
      → rows (most - count) s tokens ≡ (rows (most - (count + 1)) (moved s x) after >>= λ others. Ok (x ∷ others.0, others.1))
  rows_one most count s x tokens after more b e =
      let n = most - (count + 1) in
      ap (λ (k : ℕ). rows k s tokens) more
      ∙ first_of_two (next_is_word word tokens) (one s tokens >>= after_one n s) (Ok ([], tokens)) b ∙ ap (λ (r : Read A). r >>= after_one n s) e

  -- one read, of those that `most` still allows
  pub rows_on : (most count : ℕ) (s : S) (front new : List A) (x : A) (tokens after : List Token) → most - count ≡ suc (most - (count + 1)) → new ≡ front ++ x ∷ []
      → next_is_word word tokens ≡ true → one s tokens ≡ Ok (x, after)
      → behind new (rows (most - (count + 1)) (moved s x) after) ≡ behind front (rows (most - count) s tokens)
  rows_on most count s front new x tokens after more push b e =
      one_behind front new x (rows (most - (count + 1)) (moved s x) after) push ∙ sym (ap (behind front) (rows_one most count s x tokens after more b e))

  -- none comes next
  pub rows_none : (n : ℕ) (s : S) (tokens : List Token) → next_is_word word tokens ≡ false → rows n s tokens ≡ Ok ([], tokens)
  rows_none zero s tokens b = refl
  rows_none (suc n) s tokens b = second_of_two (next_is_word word tokens) (one s tokens >>= after_one n s) (Ok ([], tokens)) b

  pub rows_end : (n : ℕ) (s : S) (front : List A) (tokens : List Token) → next_is_word word tokens ≡ false → behind front (rows n s tokens) ≡ Ok (front, tokens)
  rows_end n s front tokens b = ap (behind front) (rows_none n s tokens b) ∙ ap (λ (xs : List A). Ok (xs, tokens)) (append-nil front)

  -- no more are allowed
  pub rows_out : (n : ℕ) (s : S) (front : List A) (tokens : List Token) → n ≡ 0 → behind front (rows n s tokens) ≡ Ok (front, tokens)
  rows_out n s front tokens e = ap (λ (k : ℕ). behind front (rows k s tokens)) e ∙ ap (λ (xs : List A). Ok (xs, tokens)) (append-nil front)

  -- where reading the next fails
  pub rows_failed : (e : Stop) (most count : ℕ) (s : S) (tokens : List Token) → most - count ≡ suc (most - (count + 1)) → next_is_word word tokens ≡ true → Fails e (one s tokens)
      → Fails e (rows (most - count) s tokens)
  rows_failed e most count s tokens more b h =
      let n = most - (count + 1) in
      let step : (one s tokens >>= after_one n s) ≡ rows (most - count) s tokens =
      sym (ap (λ (k : ℕ). rows k s tokens) more ∙ first_of_two (next_is_word word tokens) (one s tokens >>= after_one n s) (Ok ([], tokens)) b) in
      subst (λ (r : Read (List A)). Fails e r) step (fails_on e (one s tokens) (after_one n s) h)

  pub rows_fail : {X : Type 0} (view : X → List A × List Token) (result : Result X Stop) (e : Stop) (most count : ℕ) (s : S) (front : List A) (tokens : List Token) (whole : Read (List A))
      → most - count ≡ suc (most - (count + 1)) → next_is_word word tokens ≡ true → result ≡ Err e → Fails e (one s tokens)
      → behind front (rows (most - count) s tokens) ≡ whole → Gives view result whole
  rows_fail view result e most count s front tokens whole more b is h all =
      subst (Gives view result) all (gives_failure view result e (rows (most - count) s tokens) (λ r. Ok (front ++ r.0, r.1)) is (rows_failed e most count s tokens more b h))
