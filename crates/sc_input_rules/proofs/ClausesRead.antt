-- Where a clause is read, it is that of a tree, and the tokens are those that spell it.
use Rattle.std.proofs.Common.{◌≡◌, ◌∙◌, sym, ap, subst, refl, ℕ, zero, suc, Bool, true, false, List, [], ◌∷◌, ◌++◌, length, append_assoc, Ok}
use Rattle.std.specs.Prelude.{codes, flat_map}
use Rattle.std.specs.Cmp.Lexicographic.{bytes_decides}
use Rattle.std.proofs.lemmas.List.{append-nil}
use Rattle.sc_input_rules.specs.declared.token.Token.{Token}
use Rattle.sc_input_rules.specs.declared.token.Token.TheVariants.{Word, Punctuation, Refused}
use Rattle.sc_input_rules.specs.declared.token.Sign.TheVariants.{Bar}
use Rattle.sc_input_rules.specs.Token.{is_sign, is_word}
use Rattle.sc_input_rules.specs.Reader.{◌>>=◌, next_is, the_sign, separated}
use Rattle.sc_input_rules.specs.declared.written.WrittenLiteral.{WrittenLiteral}
use Rattle.sc_input_rules.specs.Syntax.{WrittenClause}
use Rattle.sc_input_rules.specs.ClauseGrammar.{literal, without_first, clause}
use Rattle.sc_input_rules.proofs.ClauseSpelling.{LiteralTree, ClauseTree, Falsum, Literals, literal_tokens, behind_bar, clause_tokens, clause_written, IsSpeltClause}
use Rattle.sc_input_rules.proofs.Taken.{Gives, both, same, sign_taken}
use Rattle.sc_input_rules.proofs.LiteralsRead.{LiteralRead, literal_read}

pub record ClauseRead (ts : List Token) (c : WrittenClause) (left : List Token) : Type 0 where
  pub tree : ClauseTree
  pub written : c ≡ clause_written tree
  pub tokens : ts ≡ clause_tokens tree ++ left
  pub spelt : IsSpeltClause tree

record LiteralsRead (ts : List Token) (c : WrittenClause) (left : List Token) : Type 0 where
  first : LiteralTree
  others : List (ℕ × LiteralTree)
  written : c ≡ clause_written (Literals first others)
  tokens : ts ≡ clause_tokens (Literals first others) ++ left
  spelt : IsSpeltClause (Literals first others)

last_literal : (ts left : List Token) (l : WrittenLiteral) → LiteralRead ts l left → LiteralsRead ts (l ∷ []) left
last_literal ts left l r =
    record {
      first = r.tree;
      others = [];
      written = ap (λ l. l ∷ []) r.written;
      tokens = r.tokens ∙ ap (λ us. us ++ left) (sym (append-nil (literal_tokens r.tree)));
      spelt = (r.spelt, tt);
    }

one_more_literal : (at : ℕ) (ts us left : List Token) (l : WrittenLiteral) (c : WrittenClause) → LiteralRead ts l (Punctuation at Bar ∷ us) → LiteralsRead us c left → LiteralsRead ts (l ∷ c) left
one_more_literal at ts us left l c r m =
    let behind = flat_map behind_bar ((at, m.first) ∷ m.others) in
    record {
      first = r.tree;
      others = (at, m.first) ∷ m.others;
      written = (λ i. r.written i ∷ m.written i);
      tokens = r.tokens ∙ ap (λ us. literal_tokens r.tree ++ Punctuation at Bar ∷ us) m.tokens ∙ sym (append_assoc (literal_tokens r.tree) behind left);
      spelt = (r.spelt, m.spelt);
    }

literals_read : (n : ℕ) (ts : List Token) (c : WrittenClause) (left : List Token) → Gives (separated Bar literal n ts) c left → LiteralsRead ts c left
literals_read zero ts c left e = absurd cc
literals_read (suc n) ts c left e =
    let b = both (literal ts) _ c left e in
    by b.value b.left (literal_read ts b.value b.left b.first) (next_is (is_sign Bar) b.left) b.second (literals_read n)
  where
    by : (l : WrittenLiteral) (us : List Token) → LiteralRead ts l us → (b : Bool)
        → Gives (elim b [ true ↦ the_sign Bar us >>= λ t. separated Bar literal n t.1 >>= λ others. Ok (l ∷ others.0, others.1) | false ↦ Ok (l ∷ [], us) ]) c left
        → ((ts : List Token) (c : WrittenClause) (left : List Token) → Gives (separated Bar literal n ts) c left → LiteralsRead ts c left) → LiteralsRead ts c left
    by l us r true e ih =
        let b = both (the_sign Bar us) _ c left e in
        let m = sign_taken Bar us b.value b.left b.first in
        let d = both (separated Bar literal n b.left) _ c left b.second in
        let z = same (l ∷ d.value) c d.left left d.second in
        subst (λ c. LiteralsRead ts c left) z.value
        (one_more_literal m.at ts b.left left l d.value (subst (LiteralRead ts l) m.tokens r) (subst (LiteralsRead b.left d.value) z.left (ih b.left d.value d.left d.first)))
    by l us r false e ih =
        let z = same (l ∷ []) c us left e in
        subst (λ c. LiteralsRead ts c left) z.value (last_literal ts left l (subst (LiteralRead ts l) z.left r))

falsum_read : (ts : List Token) (c : WrittenClause) (left : List Token) → next_is (is_word (codes "$F")) ts ≡ true → Gives (without_first ts) c left → ClauseRead ts c left
falsum_read [] c left h e = absurd cc
falsum_read (Word at text ∷ ts) c left h e =
    let z = same [] c ts left e in
    let name : codes "$F" ≡ text = (bytes_decides (codes "$F") text).0 h in
    record { tree = Falsum at; written = sym z.value; tokens = (λ i. Word at (sym name i) ∷ z.left i); spelt = tt }
falsum_read (Punctuation at s ∷ ts) c left h e = absurd cc
falsum_read (Refused at kind ∷ ts) c left h e = absurd cc

pub clause_read : (ts : List Token) (c : WrittenClause) (left : List Token) → Gives (clause ts) c left → ClauseRead ts c left
clause_read ts c left e = by (next_is (is_word (codes "$F")) ts) refl e
  where
    by : (b : Bool) → next_is (is_word (codes "$F")) ts ≡ b → Gives (elim b [ true ↦ without_first ts | false ↦ separated Bar literal (length ts) ts ]) c left → ClauseRead ts c left
    by true h e = falsum_read ts c left h e
    by false h e =
        let r = literals_read (length ts) ts c left e in
        record { tree = Literals r.first r.others; written = r.written; tokens = r.tokens; spelt = r.spelt }
