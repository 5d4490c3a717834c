-- Parts of a text that are read back, one behind the other.
use Rattle.std.proofs.Common.{◌≡◌, ◌∙◌, sym, ap, refl, ℕ, List, [], ◌∷◌, ◌++◌, append_assoc, Ok}
use Rattle.sc_term.specs.declared.symbol.Symbol.{Symbol}
use Rattle.sc_input_rules.specs.declared.token.Token.{Token}
use Rattle.sc_input_rules.specs.declared.token.Token.TheVariants.{Word}
use Rattle.sc_input_rules.specs.Reader.{Read, ◌>>=◌}
use Rattle.sc_input_rules.proofs.Taken.{Gives}
use Rattle.sc_text_laws.proofs.WordTokens.{tokens_at}
use Rattle.sc_text_laws.proofs.Sentences.{EndsSentence, Sentences, no_sentence, then_sentences}

-- whatever follows
abbrev pub Anything : List Token → Type 0
Anything left = Unit {0}

module _ (symbols : List Symbol) where
  -- Whole sentences of a text, before the rest of it: their tokens, which the production reads back to the value before
  -- any tokens that may follow, and at which no limit is passed.
  pub record Part {A : Type 0} (May : List Token → Type 0) (p : List Token → Read A) (v : A) (text : List ℕ) (at : ℕ) (rest : List ℕ) : Type 0 where
    pub tokens : List Token
    pub next : ℕ
    pub spelt : tokens_at at (text ++ rest) ≡ tokens ++ tokens_at next rest
    pub read : (left : List Token) → May left → Gives (p (tokens ++ left)) v left
    pub passes : (front : List Token) → EndsSentence front → Sentences symbols front tokens

  -- a part that begins with that word, whatever follows
  pub record Row {A : Type 0} (word : List ℕ) (p : List Token → Read A) (v : A) (text : List ℕ) (at : ℕ) (rest : List ℕ) : Type 0 where
    pub part : Part Anything p v text at rest
    pub first : ℕ
    pub tail : List Token
    pub begins : part.tokens ≡ Word first word ∷ tail

  abbrev pub no_part : {A : Type 0} (May : List Token → Type 0) (v : A) (at : ℕ) (rest : List ℕ) → Part May (λ ts. Ok (v, ts)) v [] at rest
  no_part May v at rest = record { tokens = []; next = at; spelt = refl; read = λ left m. refl; passes = λ front s. no_sentence symbols front s }

  abbrev pub then_part : {A B : Type 0} (May More : List Token → Type 0) (p : List Token → Read A) (q : A × List Token → Read B) (a : A) (b : B) (text others : List ℕ) (at : ℕ) (rest : List ℕ)
      → (s : Part May p a text at (others ++ rest)) → (t : Part More (λ us. q (a, us)) b others s.next rest) → ((left : List Token) → More left → May (t.tokens ++ left))
      → Part More (λ ts. p ts >>= q) b (text ++ others) at rest
  then_part {A} May More p q a b text others at rest s t f =
      record {
        tokens = s.tokens ++ t.tokens;
        next = t.next;
        spelt = ap (tokens_at at) (append_assoc text others rest) ∙ s.spelt ∙ ap (λ us. s.tokens ++ us) t.spelt ∙ sym (append_assoc s.tokens t.tokens (tokens_at t.next rest));
        read = λ left m.
            ap (λ us. p us >>= q) (append_assoc s.tokens t.tokens left) ∙ ap (λ (r : Read A). r >>= q) (s.read (t.tokens ++ left) (f left m)) ∙ t.read left m;
        passes = λ front e. let one = s.passes front e in then_sentences symbols front s.tokens t.tokens one (t.passes (front ++ s.tokens) one.ends);
      }

  -- the value by another
  abbrev pub made_part : {A B : Type 0} (May : List Token → Type 0) (f : A → B) (p : List Token → Read A) (a : A) (text : List ℕ) (at : ℕ) (rest : List ℕ) → Part May p a text at rest → Part May (λ ts. p ts >>= λ x. Ok (f x.0, x.1)) (f a) text at rest
  made_part {A} {B} May f p a text at rest s =
      record { tokens = s.tokens; next = s.next; spelt = s.spelt; read = λ left m. ap (λ (r : Read A). r >>= λ x. Ok (f x.0, x.1)) (s.read left m); passes = s.passes }

  -- the same of another text that is equal, and of another value
  abbrev pub same_text_part : {A : Type 0} (May : List Token → Type 0) (p : List Token → Read A) (a : A) (text other : List ℕ) (at : ℕ) (rest : List ℕ) → text ≡ other → Part May p a text at rest → Part May p a other at rest
  same_text_part May p a text other at rest e s =
      record { tokens = s.tokens; next = s.next; spelt = ap (λ (us : List ℕ). tokens_at at (us ++ rest)) (sym e) ∙ s.spelt; read = s.read; passes = s.passes }

  abbrev pub same_value_part : {A : Type 0} (May : List Token → Type 0) (p : List Token → Read A) (a b : A) (text : List ℕ) (at : ℕ) (rest : List ℕ) → a ≡ b → Part May p a text at rest → Part May p b text at rest
  same_value_part May p a b text at rest e s =
      record { tokens = s.tokens; next = s.next; spelt = s.spelt; read = λ left m. s.read left m ∙ ap (λ v. Ok (v, left)) e; passes = s.passes }

  -- of another production that gives the same
  abbrev pub same_reading_part : {A : Type 0} (May : List Token → Type 0) (p q : List Token → Read A) (a : A) (text : List ℕ) (at : ℕ) (rest : List ℕ) → ((ts : List Token) → q ts ≡ p ts) → Part May p a text at rest → Part May q a text at rest
  same_reading_part May p q a text at rest e s =
      record { tokens = s.tokens; next = s.next; spelt = s.spelt; read = λ left m. e (s.tokens ++ left) ∙ s.read left m; passes = s.passes }
