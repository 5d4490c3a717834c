-- What reading as many as counted gives, by what reading the first gives.
use Rattle.std.proofs.Common.{◌≡◌, ◌∙◌, sym, ap, subst, refl, ℕ, zero, suc, ◌+◌, ◌-◌, List, [], ◌∷◌, ◌++◌, append-nil, Result, Ok, Err}
use Rattle.sc_input_rules.specs.declared.token.Token.{Token}
use Rattle.sc_input_rules.specs.Reader.{Read, ◌>>=◌, unexpected}
use Rattle.sc_input_scan.specs.declared.stop.Stop.{Stop}
use Rattle.sc_input_scan.specs.Told.{Fails, Gives}
use Rattle.sc_input_grammar.specs.Behind.{behind}
use Rattle.sc_input_grammar.proofs.Lists.{one_behind, gives_failure_within}
use Rattle.sc_text_run_rules.specs.RowWords.{counted}

module _ {A : Type 0} (one : ℕ → List Token → Read A) where
  abbrev after_one : ℕ → ℕ → ℕ → A × List Token → Read (List A)
  after_one n next m x = counted one n next m x.1 >>= λ xs. Ok (x.0 ∷ xs.0, xs.1)

  -- one read, of those that are counted and that `most` still allows
  pub counted_on : (most read count number next : ℕ) (front new : List A) (x : A) (tokens after : List Token)
      → most - read ≡ suc (most - (read + 1)) → count - read ≡ suc (count - (read + 1)) → next ≡ number + 1 → new ≡ front ++ x ∷ [] → one number tokens ≡ Ok (x, after)
      → behind new (counted one (most - (read + 1)) next (count - (read + 1)) after) ≡ behind front (counted one (most - read) number (count - read) tokens)
  counted_on most read count number next front new x tokens after more still is push e =
      let n = most - (read + 1) in
      let m = count - (read + 1) in
      ap (λ (k : ℕ). behind new (counted one n k m after)) is
      ∙ one_behind front new x (counted one n (number + 1) m after) push
      ∙ sym (ap (λ (k : ℕ). behind front (counted one k number (count - read) tokens)) more
      ∙ ap (λ (k : ℕ). behind front (counted one (suc n) number k tokens)) still
      ∙ ap (λ (r : Read A). behind front (r >>= after_one n (number + 1) m)) e)

  -- all are read
  none_left : (n number : ℕ) (tokens : List Token) → counted one n number 0 tokens ≡ Ok ([], tokens)
  none_left zero number tokens = refl
  none_left (suc n) number tokens = refl

  pub counted_end : (n number left : ℕ) (front : List A) (tokens : List Token) → left ≡ 0 → behind front (counted one n number left tokens) ≡ Ok (front, tokens)
  counted_end n number left front tokens e =
      ap (λ (k : ℕ). behind front (counted one n number k tokens)) e ∙ ap (behind front) (none_left n number tokens) ∙ ap (λ (xs : List A). Ok (xs, tokens)) (append-nil front)

  -- some are left, and no more are allowed
  pub counted_short : {X : Type 0} (view : X → List A × List Token) (result : Result X Stop) (e : Stop) (n number left m : ℕ) (front : List A) (tokens : List Token) (whole : Read (List A))
      → n ≡ 0 → left ≡ suc m → result ≡ Err e → Fails e (unexpected {A = List A} tokens) → behind front (counted one n number left tokens) ≡ whole → Gives view result whole
  counted_short view result e n number left m front tokens whole out still is h all =
      let step : behind front (unexpected tokens) ≡ whole =
      sym (ap (λ (k : ℕ). behind front (counted one k number left tokens)) out ∙ ap (λ (k : ℕ). behind front (counted one 0 number k tokens)) still) ∙ all in
      subst (Gives view result) step (gives_failure_within view result e (unexpected tokens) (λ r. Ok r) (λ r. Ok (front ++ r.0, r.1)) is h)

  -- where reading the next fails
  pub counted_fail : {X : Type 0} (view : X → List A × List Token) (result : Result X Stop) (e : Stop) (most read count number : ℕ) (front : List A) (tokens : List Token) (whole : Read (List A))
      → most - read ≡ suc (most - (read + 1)) → count - read ≡ suc (count - (read + 1)) → result ≡ Err e → Fails e (one number tokens)
      → behind front (counted one (most - read) number (count - read) tokens) ≡ whole → Gives view result whole
  counted_fail view result e most read count number front tokens whole more still is h all =
      let n = most - (read + 1) in
      let m = count - (read + 1) in
      let step : behind front (one number tokens >>= after_one n (number + 1) m) ≡ whole =
      sym (ap (λ (k : ℕ). behind front (counted one k number (count - read) tokens)) more ∙ ap (λ (k : ℕ). behind front (counted one (suc n) number k tokens)) still) ∙ all in
      subst (Gives view result) step (gives_failure_within view result e (one number tokens) (after_one n (number + 1) m) (λ r. Ok (front ++ r.0, r.1)) is h)
