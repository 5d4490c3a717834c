-- Rows of a kind, one behind the other, are read back.
use Rattle.std.proofs.Common.{◌≡◌, ◌∙◌, sym, ap, refl, ℕ, zero, suc, ◌+◌, ◌≤◌, true, false, List, [], ◌∷◌, ◌++◌, length, append_assoc, Ok, arith}
use Rattle.std.specs.Prelude.{flat_map}
use Rattle.std.proofs.lemmas.List.{length-append}
use Rattle.sc_term.specs.declared.symbol.Symbol.{Symbol}
use Rattle.sc_input_rules.specs.declared.token.Token.{Token}
use Rattle.sc_input_rules.specs.Token.{same_text}
use Rattle.sc_input_rules.specs.Reader.{Read, ◌>>=◌}
use Rattle.sc_input_rules.specs.ProblemGrammar.{next_is_word}
use Rattle.sc_input_rules.proofs.Taken.{Gives}
use Rattle.sc_text_run_rules.specs.RowWords.{counted, rows_of}
use Rattle.sc_text_laws.proofs.WordTokens.{tokens_at}
use Rattle.sc_text_laws.proofs.Sentences.{EndsSentence, Sentences, no_sentence, then_sentences}
use Rattle.sc_text_laws.proofs.Parts.{Part, Row, Anything}

-- the next word isn't that one
abbrev pub IsNoNext : List ℕ → List Token → Type 0
IsNoNext name left = next_is_word name left ≡ false

-- each row is right at the state, which it moves on
abbrev pub AreRows : {A S : Type 0} → (S → A → Type 0) → (S → A → S) → S → List A → Type 0
AreRows good moved s [] = Unit {0}
AreRows good moved s (a ∷ bs) = good s a × AreRows good moved (moved s a) bs

-- each is right at its number
abbrev pub AreCounted : {A : Type 0} → (ℕ → A → Type 0) → ℕ → List A → Type 0
AreCounted good k [] = Unit {0}
AreCounted good k (a ∷ bs) = good k a × AreCounted good (k + 1) bs

module _ (symbols : List Symbol) where
  row_next : {A : Type 0} (word : List ℕ) (p : List Token → Read A) (v : A) (text : List ℕ) (at : ℕ) (rest : List ℕ) (r : Row symbols word p v text at rest) (name : List ℕ) (left : List Token)
      → next_is_word name (r.part.tokens ++ left) ≡ same_text name word
  row_next word p v text at rest r name left = ap (λ (ts : List Token). next_is_word name (ts ++ left)) r.begins

  row_some : {A : Type 0} (word : List ℕ) (p : List Token → Read A) (v : A) (text : List ℕ) (at : ℕ) (rest : List ℕ) (r : Row symbols word p v text at rest) → 1 ≤ length r.part.tokens
  row_some word p v text at rest r = let e = ap (λ (ts : List Token). length ts) r.begins in omega (arith, e)

  -- ---- rows with a state that each moves on

  module _ {A S : Type 0} (word : List ℕ) (same : same_text word word ≡ true) (one : S → List Token → Read A) (moved : S → A → S) (text_of : A → List ℕ) (Good : S → A → Type 0)
      (each : (s : S) (a : A) (at : ℕ) (rest : List ℕ) → Good s a → Row symbols word (one s) a (text_of a) at rest) where
    pub record Rows (s : S) (bs : List A) (at : ℕ) (rest : List ℕ) : Type 0 where
      pub tokens : List Token
      pub next : ℕ
      pub spelt : tokens_at at (flat_map text_of bs ++ rest) ≡ tokens ++ tokens_at next rest
      pub many : length bs ≤ length tokens
      pub read : (n : ℕ) (left : List Token) → length bs ≤ n → IsNoNext word left → Gives (rows_of word one moved n s (tokens ++ left)) bs left
      pub passes : (front : List Token) → EndsSentence front → Sentences symbols front tokens
      pub other : (name : List ℕ) (left : List Token) → same_text name word ≡ false → IsNoNext name left → IsNoNext name (tokens ++ left)

    no_rows : (s : S) (at : ℕ) (rest : List ℕ) → Rows s [] at rest
    no_rows s at rest =
        record { tokens = []; next = at; spelt = refl; many = omega arith; read = λ n left le none. by n left none; passes = λ front e. no_sentence symbols front e; other = λ name left e none. none }
      where
        by : (n : ℕ) (left : List Token) → IsNoNext word left → Gives (rows_of word one moved n s left) [] left
        by zero left none = refl
        by (suc n) left none = ap (λ b. elim b [ true ↦ one s left >>= λ a. rows_of word one moved n (moved s a.0) a.1 >>= λ others. Ok (a.0 ∷ others.0, others.1) | false ↦ Ok ([], left) ]) none

    after_row : ℕ → S → Read A → Read (List A)
    after_row n s r = r >>= λ a. rows_of word one moved n (moved s a.0) a.1 >>= λ others. Ok (a.0 ∷ others.0, others.1)

    with_row : A → Read (List A) → Read (List A)
    with_row a r = r >>= λ others. Ok (a ∷ others.0, others.1)

    more_rows : (s : S) (a : A) (bs : List A) (at : ℕ) (rest : List ℕ) (r : Row symbols word (one s) a (text_of a) at (flat_map text_of bs ++ rest)) → Rows (moved s a) bs r.part.next rest → Rows s (a ∷ bs) at rest
    unfolding after_row with_row
    more_rows s a bs at rest r m =
        let others = flat_map text_of bs in
        let first = r.part.tokens in
        let sum = length-append first m.tokens in
        let some = row_some word (one s) a (text_of a) at (others ++ rest) r in
        let le = m.many in
        record {
          tokens = first ++ m.tokens;
          next = m.next;
          spelt = ap (tokens_at at) (append_assoc (text_of a) others rest) ∙ r.part.spelt ∙ ap (λ us. first ++ us) m.spelt ∙ sym (append_assoc first m.tokens (tokens_at m.next rest));
          many = omega (arith, sum, some, le);
          read = λ n left le none. by n left le none;
          passes = λ front e. let one = r.part.passes front e in then_sentences symbols front first m.tokens one (m.passes (front ++ first) one.ends);
          other = λ name left e none.
              ap (next_is_word name) (append_assoc first m.tokens left) ∙ row_next word (one s) a (text_of a) at (others ++ rest) r name (m.tokens ++ left) ∙ e;
        }
      where
        by : (n : ℕ) (left : List Token) → suc (length bs) ≤ n → IsNoNext word left → Gives (rows_of word one moved n s ((r.part.tokens ++ m.tokens) ++ left)) (a ∷ bs) left
        by zero left le none = absurd (omega (arith, le))
        by (suc n) left le none =
            let whole = r.part.tokens ++ (m.tokens ++ left) in
            ap (rows_of word one moved (suc n) s) (append_assoc r.part.tokens m.tokens left)
            ∙ ap (λ b. elim b [ true ↦ after_row n s (one s whole) | false ↦ Ok ([], whole) ]) (row_next word (one s) a (text_of a) at (flat_map text_of bs ++ rest) r word (m.tokens ++ left) ∙ same)
            ∙ ap (after_row n s) (r.part.read (m.tokens ++ left) tt)
            ∙ ap (with_row a) (m.read n left (omega (arith, le)) none)

    pub rows_spelt : (s : S) (bs : List A) (at : ℕ) (rest : List ℕ) → AreRows Good moved s bs → Rows s bs at rest
    rows_spelt s [] at rest h = no_rows s at rest
    rows_spelt s (a ∷ bs) at rest h =
        let r = each s a at (flat_map text_of bs ++ rest) h.0 in
        more_rows s a bs at rest r (rows_spelt (moved s a) bs r.part.next rest h.1)

    -- as a part, before another word
    abbrev pub rows_part : (s : S) (bs : List A) (at : ℕ) (rest : List ℕ) → Rows s bs at rest → Part symbols (IsNoNext word) (λ ts. rows_of word one moved (length ts) s ts) bs (flat_map text_of bs) at rest
    rows_part s bs at rest r =
        record {
          tokens = r.tokens;
          next = r.next;
          spelt = r.spelt;
          read = λ left none. let sum = length-append r.tokens left in let le = r.many in r.read (length (r.tokens ++ left)) left (omega (arith, sum, le)) none;
          passes = r.passes;
        }

  -- ---- rows as many as counted

  module _ {A : Type 0} (word : List ℕ) (one : ℕ → List Token → Read A) (text_of : ℕ → A → List ℕ) (texts : ℕ → List A → List ℕ) (none : (k : ℕ) → texts k [] ≡ [])
      (more : (k : ℕ) (a : A) (bs : List A) → texts k (a ∷ bs) ≡ text_of k a ++ texts (k + 1) bs) (Good : ℕ → A → Type 0)
      (each : (k : ℕ) (a : A) (at : ℕ) (rest : List ℕ) → Good k a → Row symbols word (one k) a (text_of k a) at rest) where
    pub record Counted (k : ℕ) (bs : List A) (at : ℕ) (rest : List ℕ) : Type 0 where
      pub tokens : List Token
      pub next : ℕ
      pub spelt : tokens_at at (texts k bs ++ rest) ≡ tokens ++ tokens_at next rest
      pub many : length bs ≤ length tokens
      pub read : (n : ℕ) (left : List Token) → length bs ≤ n → Gives (counted one n k (length bs) (tokens ++ left)) bs left
      pub passes : (front : List Token) → EndsSentence front → Sentences symbols front tokens
      pub other : (name : List ℕ) (left : List Token) → same_text name word ≡ false → 1 ≤ length bs → IsNoNext name (tokens ++ left)

    none_counted : (k at : ℕ) (rest : List ℕ) → Counted k [] at rest
    none_counted k at rest =
        record {
          tokens = [];
          next = at;
          spelt = ap (λ (us : List ℕ). tokens_at at (us ++ rest)) (none k);
          many = omega arith;
          read = λ n left le. by n left;
          passes = λ front e. no_sentence symbols front e;
          other = λ name left e le. absurd (omega (arith, le));
        }
      where
        by : (n : ℕ) (left : List Token) → Gives (counted one n k 0 left) [] left
        by zero left = refl
        by (suc n) left = refl

    after_counted : ℕ → ℕ → ℕ → Read A → Read (List A)
    after_counted n k m r = r >>= λ x. counted one n (k + 1) m x.1 >>= λ xs. Ok (x.0 ∷ xs.0, xs.1)

    with_counted : A → Read (List A) → Read (List A)
    with_counted a r = r >>= λ xs. Ok (a ∷ xs.0, xs.1)

    more_counted : (k : ℕ) (a : A) (bs : List A) (at : ℕ) (rest : List ℕ) (r : Row symbols word (one k) a (text_of k a) at (texts (k + 1) bs ++ rest)) → Counted (k + 1) bs r.part.next rest → Counted k (a ∷ bs) at rest
    unfolding after_counted with_counted
    more_counted k a bs at rest r m =
        let others = texts (k + 1) bs in
        let first = r.part.tokens in
        let sum = length-append first m.tokens in
        let some = row_some word (one k) a (text_of k a) at (others ++ rest) r in
        let le = m.many in
        record {
          tokens = first ++ m.tokens;
          next = m.next;
          spelt =
              ap (λ (us : List ℕ). tokens_at at (us ++ rest)) (more k a bs)
              ∙ ap (tokens_at at) (append_assoc (text_of k a) others rest) ∙ r.part.spelt ∙ ap (λ us. first ++ us) m.spelt ∙ sym (append_assoc first m.tokens (tokens_at m.next rest));
          many = omega (arith, sum, some, le);
          read = λ n left le. by n left le;
          passes = λ front e. let one = r.part.passes front e in then_sentences symbols front first m.tokens one (m.passes (front ++ first) one.ends);
          other = λ name left e le.
              ap (next_is_word name) (append_assoc first m.tokens left) ∙ row_next word (one k) a (text_of k a) at (others ++ rest) r name (m.tokens ++ left) ∙ e;
        }
      where
        by : (n : ℕ) (left : List Token) → suc (length bs) ≤ n → Gives (counted one n k (suc (length bs)) ((r.part.tokens ++ m.tokens) ++ left)) (a ∷ bs) left
        by zero left le = absurd (omega (arith, le))
        by (suc n) left le =
            ap (λ us. after_counted n k (length bs) (one k us)) (append_assoc r.part.tokens m.tokens left)
            ∙ ap (after_counted n k (length bs)) (r.part.read (m.tokens ++ left) tt)
            ∙ ap (with_counted a) (m.read n left (omega (arith, le)))

    pub counted_spelt : (k : ℕ) (bs : List A) (at : ℕ) (rest : List ℕ) → AreCounted Good k bs → Counted k bs at rest
    counted_spelt k [] at rest h = none_counted k at rest
    counted_spelt k (a ∷ bs) at rest h =
        let r = each k a at (texts (k + 1) bs ++ rest) h.0 in
        more_counted k a bs at rest r (counted_spelt (k + 1) bs r.part.next rest h.1)

    -- as a part
    abbrev pub counted_part : (k : ℕ) (bs : List A) (at : ℕ) (rest : List ℕ) → Counted k bs at rest → Part symbols Anything (λ ts. counted one (length ts) k (length bs) ts) bs (texts k bs) at rest
    counted_part k bs at rest r =
        record {
          tokens = r.tokens;
          next = r.next;
          spelt = r.spelt;
          read = λ left m. let sum = length-append r.tokens left in let le = r.many in r.read (length (r.tokens ++ left)) left (omega (arith, sum, le));
          passes = r.passes;
        }
