-- Rows seen by a function, which changes nothing that the next row depends on.
use Rattle.std.proofs.Common.{◌≡◌, ◌∙◌, sym, ap, refl, ℕ, zero, suc, Bool, true, false, List, [], ◌∷◌, map, Ok, Err}
use Rattle.sc_input_rules.specs.declared.token.Token.{Token}
use Rattle.sc_input_rules.specs.Reader.{Read, ◌>>=◌}
use Rattle.sc_input_rules.specs.ProblemGrammar.{next_is_word}
use Rattle.sc_text_section.specs.Clipped.{seen_by}
use Rattle.sc_text_run_rules.specs.RowWords.{rows_of}

module _ {A S : Type 0} (word : List ℕ) (f : A → A) (one : S → List Token → Read A) (moved : S → A → S) (same : (s : S) (a : A) → moved s (f a) ≡ moved s a) where
  abbrev seen_one : S → List Token → Read A
  seen_one s tokens = seen_by f (one s tokens)

  abbrev after_one : ℕ → S → A × List Token → Read (List A)
  after_one n s a = rows_of word one moved n (moved s a.0) a.1 >>= λ others. Ok (a.0 ∷ others.0, others.1)

  abbrev after_seen : ℕ → S → A × List Token → Read (List A)
  after_seen n s a = rows_of word seen_one moved n (moved s a.0) a.1 >>= λ others. Ok (a.0 ∷ others.0, others.1)

  with_first : (x : A) (r : Read (List A)) → seen_by (map f) (r >>= λ others. Ok (x ∷ others.0, others.1)) ≡ (seen_by (map f) r >>= λ others. Ok (f x ∷ others.0, others.1))
  with_first x (Ok r) = refl
  with_first x (Err e) = refl

  abbrev Seen : ℕ → Type 0
  Seen n = (s : S) (tokens : List Token) → seen_by (map f) (rows_of word one moved n s tokens) ≡ rows_of word seen_one moved n s tokens

  one_seen : (n : ℕ) (s : S) → Seen n → (r : Read A) → seen_by (map f) (r >>= after_one n s) ≡ (seen_by f r >>= after_seen n s)
  one_seen n s ih (Err e) = refl
  one_seen n s ih (Ok a) =
      with_first a.0 (rows_of word one moved n (moved s a.0) a.1)
      ∙ ap (λ (r : Read (List A)). r >>= λ others. Ok (f a.0 ∷ others.0, others.1)) (ih (moved s a.0) a.1 ∙ ap (λ (t : S). rows_of word seen_one moved n t a.1) (sym (same s a.0)))

  choice_seen : (n : ℕ) (s : S) (tokens : List Token) → Seen n → (b : Bool) (r : Read A)
      → seen_by (map f) (elim b as (λ _. Read (List A)) [ true ↦ r >>= after_one n s | false ↦ Ok ([], tokens) ]) ≡ elim b as (λ _. Read (List A)) [ true ↦ seen_by f r >>= after_seen n s | false ↦ Ok ([], tokens) ]
  choice_seen n s tokens ih true r = one_seen n s ih r
  choice_seen n s tokens ih false r = refl

  pub rows_seen : (n : ℕ) (s : S) (tokens : List Token) → seen_by (map f) (rows_of word one moved n s tokens) ≡ rows_of word seen_one moved n s tokens
  rows_seen zero s tokens = refl
  rows_seen (suc n) s tokens = choice_seen n s tokens (rows_seen n) (next_is_word word tokens) (one s tokens)
