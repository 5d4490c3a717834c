-- The tokens of the text of a clause are those of a tree, which is read as that clause.
use Rattle.std.proofs.Common.{◌≡◌, ◌∙◌, sym, ap, refl, ℕ, ◌+◌, ◌≤◌, true, List, [], ◌∷◌, ◌++◌, map, append_assoc, arith}
use Rattle.std.specs.Prelude.{codes, flat_map}
use Rattle.std.specs.List.{list_all}
use Rattle.std.proofs.lemmas.List.{append-nil}
use Rattle.sc_term.specs.declared.Literal.{Literal}
use Rattle.sc_term.specs.declared.Clause.{Clause}
use Rattle.sc_term.specs.Term.{largest}
use Rattle.sc_term.specs.Clause.{literal_width}
use Rattle.sc_term.specs.declared.symbol.Symbol.{Symbol}
use Rattle.sc_input_rules.specs.declared.token.Token.{Token}
use Rattle.sc_input_rules.specs.declared.token.Token.TheVariants.{Punctuation}
use Rattle.sc_input_rules.specs.declared.token.Sign.TheVariants.{Bar}
use Rattle.sc_input_rules.specs.Numbering.{literal_of}
use Rattle.sc_input_rules.specs.WellFormed.{literal_is_over}
use Rattle.sc_input_rules.proofs.Booleans.{parts_hold}
use Rattle.sc_input_rules.proofs.ClauseSpelling.{LiteralTree, ClauseTree, Falsum, Literals, literal_tokens, behind_bar, clause_tokens, clause_written, IsSpeltClause}
use Rattle.sc_input_rules.proofs.DepthLaw.{largest-cons}
use Rattle.sc_text_rules.specs.ClauseText.{joined_by, literal_text, clause_text}
use Rattle.sc_text_rules.specs.TextWords.{text_variable}
use Rattle.sc_text_laws.specs.Printable.{AreNamed, IsPrintableClause}
use Rattle.sc_text_laws.proofs.WordTokens.{tokens_at, Breaks, past, falsum_token, space_token, bar_token}
use Rattle.sc_text_laws.proofs.KnownTrees.{ClauseKnown}
use Rattle.sc_text_laws.proofs.LiteralSpelling.{LiteralSpelt, literal_spelt}

-- the tree of a clause's text, which stands before the rest of a text
pub record ClauseSpelt (symbols : List Symbol) (ls : List Literal) (text : List ℕ) (at : ℕ) (rest : List ℕ) : Type 0 where
  pub tree : ClauseTree
  pub next : ℕ
  pub tokens : tokens_at at (text ++ rest) ≡ clause_tokens tree ++ tokens_at next rest
  pub spelt : IsSpeltClause tree
  pub literals : map (literal_of text_variable symbols) (clause_written tree) ≡ ls
  pub known : ClauseKnown symbols tree

abbrev literals_joined : List Symbol → List Literal → List ℕ
literals_joined symbols ls = joined_by (codes " | ") (map (literal_text symbols) ls)

-- the same of one or more literals
record LiteralsSpelt (symbols : List Symbol) (ls : List Literal) (at : ℕ) (rest : List ℕ) : Type 0 where
  first : LiteralTree
  others : List (ℕ × LiteralTree)
  next : ℕ
  tokens : tokens_at at (literals_joined symbols ls ++ rest) ≡ clause_tokens (Literals first others) ++ tokens_at next rest
  spelt : IsSpeltClause (Literals first others)
  literals : map (literal_of text_variable symbols) (clause_written (Literals first others)) ≡ ls
  known : ClauseKnown symbols (Literals first others)

last_literal : (symbols : List Symbol) (l : Literal) (at : ℕ) (rest : List ℕ) → LiteralSpelt symbols l at rest → LiteralsSpelt symbols (l ∷ []) at rest
last_literal symbols l at rest s =
    record {
      first = s.tree;
      others = [];
      next = s.next;
      tokens = s.tokens ∙ ap (λ (us : List Token). us ++ tokens_at s.next rest) (sym (append-nil (literal_tokens s.tree)));
      spelt = (s.spelt, tt);
      literals = ap (λ (l : Literal). l ∷ []) s.literal;
      known = (s.known, tt);
    }

bar_tokens : (at : ℕ) (rest : List ℕ) → tokens_at at (codes " | " ++ rest) ≡ Punctuation (at + 1) Bar ∷ tokens_at (at + 1 + 1 + 1) rest
bar_tokens at rest =
    space_token at (124 ∷ 32 ∷ rest) ∙ bar_token (at + 1) (32 ∷ rest) ∙ ap (λ (us : List Token). Punctuation (at + 1) Bar ∷ us) (space_token (at + 1 + 1) rest)

more_literals : (symbols : List Symbol) (l m : Literal) (ms : List Literal) (at : ℕ) (rest : List ℕ) (s : LiteralSpelt symbols l at (codes " | " ++ (literals_joined symbols (m ∷ ms) ++ rest)))
    → LiteralsSpelt symbols (m ∷ ms) (s.next + 1 + 1 + 1) rest → LiteralsSpelt symbols (l ∷ m ∷ ms) at rest
more_literals symbols l m ms at rest s r =
    let others = literals_joined symbols (m ∷ ms) in
    let behind = flat_map behind_bar ((s.next + 1, r.first) ∷ r.others) in
    let tail = tokens_at r.next rest in
    record {
      first = s.tree;
      others = (s.next + 1, r.first) ∷ r.others;
      next = r.next;
      tokens =
          ap (tokens_at at) (append_assoc (literal_text symbols l ++ codes " | ") others rest ∙ append_assoc (literal_text symbols l) (codes " | ") (others ++ rest))
          ∙ s.tokens
          ∙ ap (λ (us : List Token). literal_tokens s.tree ++ us) (bar_tokens s.next (others ++ rest) ∙ ap (λ (us : List Token). Punctuation (s.next + 1) Bar ∷ us) r.tokens)
          ∙ sym (append_assoc (literal_tokens s.tree) behind tail);
      spelt = (s.spelt, r.spelt);
      literals = (λ i. s.literal i ∷ r.literals i);
      known = (s.known, r.known);
    }

literals_spelt : (symbols : List Symbol) → AreNamed symbols → (l : Literal) (ls : List Literal) (at : ℕ) (rest : List ℕ) → list_all (literal_is_over symbols) (l ∷ ls) ≡ true
    → largest (map literal_width (l ∷ ls)) ≤ 65536 → Breaks rest → LiteralsSpelt symbols (l ∷ ls) at rest
literals_spelt symbols h l [] at rest over narrow breaks =
    let p = parts_hold (literal_is_over symbols l) true over in
    let w = largest-cons (literal_width l) [] in
    last_literal symbols l at rest (literal_spelt symbols h l at rest p.0 (omega arith) breaks)
literals_spelt symbols h l (m ∷ ms) at rest over narrow breaks =
    let p = parts_hold (literal_is_over symbols l) (list_all (literal_is_over symbols) (m ∷ ms)) over in
    let w = largest-cons (literal_width l) (map literal_width (m ∷ ms)) in
    let s = literal_spelt symbols h l at (codes " | " ++ (literals_joined symbols (m ∷ ms) ++ rest)) p.0 (omega arith) refl in
    more_literals symbols l m ms at rest s (literals_spelt symbols h m ms (s.next + 1 + 1 + 1) rest p.1 (omega arith) breaks)

falsum_spelt : (symbols : List Symbol) (at : ℕ) (rest : List ℕ) → Breaks rest → ClauseSpelt symbols [] (codes "$F") at rest
falsum_spelt symbols at rest breaks =
    record { tree = Falsum at; next = past (codes "$F") at; tokens = falsum_token at rest breaks; spelt = tt; literals = refl; known = tt }

pub clause_spelt : (symbols : List Symbol) → AreNamed symbols → (c : Clause) (at : ℕ) (rest : List ℕ) → IsPrintableClause symbols c → Breaks rest → ClauseSpelt symbols c.literals (clause_text symbols c) at rest
clause_spelt symbols h c at rest may breaks = by c.literals may.over may.narrow
  where
    by : (ls : List Literal) → list_all (literal_is_over symbols) ls ≡ true → largest (map literal_width ls) ≤ 65536 → ClauseSpelt symbols ls (clause_text symbols (record { literals = ls })) at rest
    by [] over narrow = falsum_spelt symbols at rest breaks
    by (l ∷ ls) over narrow =
        let r = literals_spelt symbols h l ls at rest over narrow breaks in
        record { tree = Literals r.first r.others; next = r.next; tokens = r.tokens; spelt = r.spelt; literals = r.literals; known = r.known }
