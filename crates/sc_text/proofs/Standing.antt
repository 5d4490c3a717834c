-- What is read behind whole sentences of a text at which no limit is passed, as code answers it.
use Rattle.std.proofs.Common.{◌≡◌, subst, refl, ℕ, zero, suc, ◌+◌, Bool, true, false, List, [], ◌∷◌, map, Ok}
use Rattle.sc_term.specs.declared.symbol.Symbol.{Symbol}
use Rattle.sc_input_rules.specs.declared.token.Token.{Token}
use Rattle.sc_input_rules.specs.declared.token.Token.TheVariants.{Punctuation}
use Rattle.sc_input_rules.specs.declared.token.Sign.TheVariants.{Stop}
use Rattle.sc_input_rules.specs.Reader.{Read, ◌>>=◌}
use Rattle.sc_input_rules.specs.ProblemGrammar.{next_is_word}
use Rattle.sc_input_rules.proofs.Taken.{Gives, both, same}
use Rattle.sc_text.proofs.TextStanding.{AtStart, InSentence, sentence_begun, sentence_ended, further}
use Rattle.sc_text_run_rules.specs.RowWords.{counted, rows_of}
use Rattle.sc_text_run_section.proofs.RowsSpelt.{Sentence, SpellsSentence}

module _ (symbols : List Symbol) where
  -- these tokens stand behind whole sentences, and none of them passes a limit
  pub record Stands (ts : List Token) : Type 0 where
    pub whole : List Token
    pub start : AtStart symbols whole ts

  pub sentence_passed : (ts left : List Token) → Stands ts → Sentence ts left → Stands left
  sentence_passed ts left h s =
      let end = Punctuation s.at Stop in
      let begun = subst (InSentence symbols h.whole []) s.tokens (sentence_begun symbols h.whole ts h.start) in
      let here = further symbols h.whole [] s.sentence (end ∷ left) s.stops begun in
      record { whole = _; start = sentence_ended symbols h.whole s.sentence end left refl here }

  -- a value that f leaves as it is, behind which the tokens stand so
  pub record IsExact {A : Type 0} (f : A → A) (v : A) (left : List Token) : Type 0 where
    pub exact : f v ≡ v
    pub behind : Stands left

  -- what the production reads there is such a value
  abbrev pub ReadsExactly : {A : Type 0} → (A → A) → (List Token → Read A) → Type 0
  ReadsExactly {A} f p = (ts : List Token) (v : A) (left : List Token) → Stands ts → Gives (p ts) v left → IsExact f v left

  -- a value whatever it is
  abbrev pub Passes : {A : Type 0} → (List Token → Read A) → Type 0
  Passes {A} p = ReadsExactly (λ v. v) p

  pub sentences_pass : {A : Type 0} (p : List Token → Read A) → SpellsSentence p → Passes p
  sentences_pass p h ts v left s e = record { exact = refl; behind = sentence_passed ts left s (h ts v left e) }

  pub last_exact : {A : Type 0} (f : A → A) (a v : A) (us left : List Token) → f a ≡ a → Stands us → Gives (Ok (a, us)) v left → IsExact f v left
  last_exact f a v us left x s e =
      let z = same a v us left e in
      record { exact = subst (λ v. f v ≡ v) z.value x; behind = subst (λ ts. Stands ts) z.left s }

  pub first_exact : {A B : Type 0} (f : A → A) (g : B → B) (p : List Token → Read A) (k : A × List Token → Read B) (ts : List Token) (v : B) (left : List Token) → ReadsExactly f p
      → ((a : A) (us : List Token) → f a ≡ a → Stands us → Gives (k (a, us)) v left → IsExact g v left) → Stands ts → Gives (p ts >>= k) v left → IsExact g v left
  first_exact f g p k ts v left h next s e =
      let b = both (p ts) k v left e in
      let r = h ts b.value b.left s b.first in
      next b.value b.left r.exact r.behind b.second

  -- ---- several

  module _ {A S : Type 0} (f : A → A) (word : List ℕ) (one : S → List Token → Read A) (moved : S → A → S) (h : (s : S) → ReadsExactly f (one s)) where
    pub rows_exact : (n : ℕ) (s : S) → ReadsExactly (map f) (rows_of word one moved n s)
    rows_exact zero s ts v left stands e = last_exact (map f) [] v ts left refl stands e
    rows_exact (suc n) s ts v left stands e = by (next_is_word word ts) (rows_exact n) e
      where
        by : (b : Bool) → ((s : S) → ReadsExactly (map f) (rows_of word one moved n s))
            → Gives (elim b [ true ↦ one s ts >>= λ a. rows_of word one moved n (moved s a.0) a.1 >>= λ others. Ok (a.0 ∷ others.0, others.1) | false ↦ Ok ([], ts) ]) v left → IsExact (map f) v left
        by true ih e =
            first_exact f (map f) (one s) (λ a. rows_of word one moved n (moved s a.0) a.1 >>= λ others. Ok (a.0 ∷ others.0, others.1)) ts v left (h s) (λ a us x stands e.
            first_exact (map f) (map f) (rows_of word one moved n (moved s a)) (λ others. Ok (a ∷ others.0, others.1)) us v left (ih (moved s a)) (λ others vs xs stands e.
            last_exact (map f) (a ∷ others) v vs left (λ i. x i ∷ xs i) stands e) stands e) stands e
        by false ih e = last_exact (map f) [] v ts left refl stands e

  module _ {A : Type 0} (one : ℕ → List Token → Read A) (h : (k : ℕ) → Passes (one k)) where
    pub counted_pass : (n first count : ℕ) → Passes (counted one n first count)
    counted_pass zero first zero ts v left s e = last_exact (λ v. v) [] v ts left refl s e
    counted_pass zero first (suc m) ts v left s e = absurd cc
    counted_pass (suc n) first zero ts v left s e = last_exact (λ v. v) [] v ts left refl s e
    counted_pass (suc n) first (suc m) ts v left s e =
        first_exact (λ v. v) (λ v. v) (one first) (λ x. counted one n (first + 1) m x.1 >>= λ xs. Ok (x.0 ∷ xs.0, xs.1)) ts v left (h first) (λ x us y s e.
        first_exact (λ v. v) (λ v. v) (counted one n (first + 1) m) (λ xs. Ok (x ∷ xs.0, xs.1)) us v left (counted_pass n (first + 1) m) (λ xs vs y s e.
        last_exact (λ v. v) (x ∷ xs) v vs left refl s e) s e) s e
