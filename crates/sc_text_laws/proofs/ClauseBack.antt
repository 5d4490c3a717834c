-- The tokens of a clause's tree and a full stop are read as that clause.
use Rattle.std.proofs.Common.{◌≡◌, ◌∙◌, ap, refl, ℕ, zero, suc, ◌+◌, ◌≤◌, Bool, true, false, List, [], ◌∷◌, ◌++◌, length, map, append_assoc, Ok, arith}
use Rattle.std.specs.Prelude.{codes, flat_map}
use Rattle.std.proofs.lemmas.List.{append-nil, length-append}
use Rattle.sc_term.specs.declared.Literal.{Literal}
use Rattle.sc_term.specs.declared.Clause.{Clause}
use Rattle.sc_term.specs.declared.symbol.Symbol.{Symbol}
use Rattle.sc_input_rules.specs.declared.token.Token.{Token}
use Rattle.sc_input_rules.specs.declared.token.Token.TheVariants.{Punctuation}
use Rattle.sc_input_rules.specs.declared.token.Sign.TheVariants.{Bar, Stop}
use Rattle.sc_input_rules.specs.Token.{is_sign, is_word}
use Rattle.sc_input_rules.specs.Reader.{Read, ◌>>=◌, next_is, the_sign, separated}
use Rattle.sc_input_rules.specs.declared.written.WrittenLiteral.{WrittenLiteral}
use Rattle.sc_input_rules.specs.Syntax.{WrittenClause}
use Rattle.sc_input_rules.specs.ClauseGrammar.{literal, without_first, clause}
use Rattle.sc_input_rules.specs.Numbering.{literal_of}
use Rattle.sc_input_rules.proofs.ClauseSpelling.{Plain, Equation, Wrapping, Bare, Negative, Brackets, NegativeBrackets, Atom, LiteralTree, ClauseTree, Falsum, Literals, literal_tokens, behind_bar, clause_tokens, literal_written, clause_written, HasNames, IsSpeltClause}
use Rattle.sc_input_rules.proofs.Taken.{Gives}
use Rattle.sc_input_rules.proofs.ClausesBack.{literal_back, literal_has_tokens}
use Rattle.sc_text_rules.specs.TextWords.{text_variable}
use Rattle.sc_text_rules.specs.ProofGrammar.{text_clause}

after_literal : ℕ → Read WrittenLiteral → Read WrittenClause
after_literal n r = r >>= λ first.
    elim (next_is (is_sign Bar) first.1) [
      | true ↦ the_sign Bar first.1 >>= λ s. separated Bar literal n s.1 >>= λ others. Ok (first.0 ∷ others.0, others.1)
      | false ↦ Ok (first.0 ∷ [], first.1)
    ]

with_first : WrittenLiteral → Read WrittenClause → Read WrittenClause
with_first l r = r >>= λ others. Ok (l ∷ others.0, others.1)

module _ (stop : ℕ) (ts : List Token) where
  abbrev left : List Token
  left = Punctuation stop Stop ∷ ts

  literals_back : (n : ℕ) (l : LiteralTree) (bs : List (ℕ × LiteralTree)) → length (flat_map behind_bar bs) + 1 ≤ n → IsSpeltClause (Literals l bs)
      → Gives (separated Bar literal n (clause_tokens (Literals l bs) ++ left)) (clause_written (Literals l bs)) left
  unfolding after_literal with_first
  literals_back zero l bs le spelt = absurd (omega arith)
  literals_back (suc n) l [] le spelt =
      ap (λ (us : List Token). after_literal n (literal (us ++ left))) (append-nil (literal_tokens l)) ∙ ap (after_literal n) (literal_back l left spelt.0 refl refl)
  literals_back (suc n) l (b ∷ bs) le spelt =
      let sum = length-append (literal_tokens b.1) (flat_map behind_bar bs) in
      let some = literal_has_tokens b.1 in
      let behind = flat_map behind_bar (b ∷ bs) in
      ap (λ (us : List Token). after_literal n (literal us)) (append_assoc (literal_tokens l) behind left)
      ∙ ap (after_literal n) (literal_back l (behind ++ left) spelt.0 refl refl)
      ∙ ap (with_first (literal_written l)) (literals_back n b.1 bs (omega arith) (spelt.1.0, spelt.1.1))

first_by : (w : Wrapping) (a : Atom) (ts : List Token) → HasNames a → next_is (is_word (codes "$F")) (literal_tokens (record { wrapping = w; atom = a }) ++ ts) ≡ false
first_by Bare (Plain h args) ts names = names.0
first_by Bare (Equation e) ts names = names.0.0
first_by (Negative at) a ts names = refl
first_by (Brackets o c) a ts names = refl
first_by (NegativeBrackets at o c) a ts names = refl

clause_back : (c : ClauseTree) (stop : ℕ) (ts : List Token) → IsSpeltClause c → Gives (clause (clause_tokens c ++ (Punctuation stop Stop ∷ ts))) (clause_written c) (Punctuation stop Stop ∷ ts)
clause_back (Falsum at) stop ts spelt = refl
clause_back (Literals l bs) stop ts spelt =
    let all = clause_tokens (Literals l bs) ++ Punctuation stop Stop ∷ ts in
    let behind = flat_map behind_bar bs in
    let sum = length-append (literal_tokens l) behind in
    let whole = length-append (clause_tokens (Literals l bs)) (Punctuation stop Stop ∷ ts) in
    let some = literal_has_tokens l in
    let split = append_assoc (literal_tokens l) behind (Punctuation stop Stop ∷ ts) in
    ap (λ (b : Bool). elim b [ true ↦ without_first all | false ↦ separated Bar literal (length all) all ])
    (ap (next_is (is_word (codes "$F"))) split ∙ first_by l.wrapping l.atom (behind ++ Punctuation stop Stop ∷ ts) spelt.0.1)
    ∙ literals_back stop ts (length all) l bs (omega arith) spelt

after_clause : List Symbol → Read WrittenClause → Read Clause
after_clause symbols r = r >>= λ written. the_sign Stop written.1 >>= λ stop. Ok (record { literals = map (literal_of text_variable symbols) written.0 }, stop.1)

pub text_clause_back : (symbols : List Symbol) (c : ClauseTree) (ls : List Literal) (stop : ℕ) (ts : List Token) → IsSpeltClause c → map (literal_of text_variable symbols) (clause_written c) ≡ ls
    → Gives (text_clause symbols (clause_tokens c ++ (Punctuation stop Stop ∷ ts))) (record { literals = ls }) ts
unfolding after_clause
text_clause_back symbols c ls stop ts spelt e =
    ap (after_clause symbols) (clause_back c stop ts spelt) ∙ ap (λ (ls : List Literal). Ok (record { literals = ls }, ts)) e
