-- No limit is passed at any token of a clause that is within them, nor at the full stop behind it.
use Rattle.std.proofs.Common.{◌≡◌, ◌∙◌, sym, ap, subst, refl, ℕ, ◌≤◌, sum, Bool, true, false, List, [], ◌∷◌, ◌++◌, map, append_assoc, arith}
use Rattle.std.specs.Prelude.{codes, flat_map}
use Rattle.std.proofs.lemmas.List.{append-nil}
use Rattle.sc_term.specs.declared.Literal.{Literal}
use Rattle.sc_term.specs.Term.{largest}
use Rattle.sc_term.specs.Clause.{literal_weight, literal_depth}
use Rattle.sc_term.specs.declared.symbol.Symbol.{Symbol}
use Rattle.sc_input_rules.specs.declared.token.Token.{Token}
use Rattle.sc_input_rules.specs.declared.token.Token.TheVariants.{Word, Punctuation}
use Rattle.sc_input_rules.specs.declared.token.Sign.TheVariants.{Stop, Bar, Minus}
use Rattle.sc_input_rules.specs.Measures.{weight_so_far, depth_so_far, open_commas, first_or_none}
use Rattle.sc_input_rules.specs.Numbering.{literal_of}
use Rattle.sc_input_rules.proofs.Spelling.{side_tokens, occurrences, side_of}
use Rattle.sc_input_rules.proofs.ClauseSpelling.{Atom, Plain, Equation, Wrapping, Bare, Negative, Brackets, NegativeBrackets, LiteralTree, ClauseTree, Falsum, Literals, equal_sign, atom_tokens, literal_tokens, behind_bar, clause_tokens, literal_written, clause_written, IsSpeltClause}
use Rattle.sc_input_rules.proofs.ArityLaw.{open_commas-append, side-commas}
use Rattle.sc_input_rules.proofs.WeightLaw.{weight-append, sum-cons}
use Rattle.sc_input_rules.proofs.DepthLaw.{largest-cons}
use Rattle.sc_text_rules.specs.TextWords.{text_variable}
use Rattle.sc_text_laws.proofs.Walks.{Walk, walk_join}
use Rattle.sc_text_laws.proofs.Prefixes.{Along, along_join, along_one}
use Rattle.sc_text_laws.proofs.KnownTrees.{IsPlainWrapping, AtomKnown, ClauseKnown}
use Rattle.sc_text_laws.proofs.EndedNames.{EndsNoName}
use Rattle.sc_text_laws.proofs.NamesKnown.{NameClear, no_name, ends_no_name}
use Rattle.sc_text_laws.proofs.CommasWithin.{FewDeep, at_once, join_even, side_few}
use Rattle.sc_text_laws.proofs.LastLiterals.{BeginsLiteral, at_first, at_bar}
use Rattle.sc_text_laws.proofs.AtomMeasures.{literal_heavy, literal_along}
use Rattle.sc_text_laws.proofs.LiteralClear.{small, literal_clear}

-- ---- the tokens of a clause and its full stop

abbrev pub literals_and_stop : LiteralTree → List (ℕ × LiteralTree) → ℕ → List Token
literals_and_stop l [] stop = literal_tokens l ++ Punctuation stop Stop ∷ []
literals_and_stop l (b ∷ bs) stop = literal_tokens l ++ (Punctuation b.0 Bar ∷ literals_and_stop b.1 bs stop)

tokens_are : (l : LiteralTree) (bs : List (ℕ × LiteralTree)) (stop : ℕ) → clause_tokens (Literals l bs) ++ Punctuation stop Stop ∷ [] ≡ literals_and_stop l bs stop
tokens_are l [] stop = ap (λ (ts : List Token). ts ++ Punctuation stop Stop ∷ []) (append-nil (literal_tokens l))
tokens_are l (b ∷ bs) stop =
    append_assoc (literal_tokens l) (flat_map behind_bar (b ∷ bs)) (Punctuation stop Stop ∷ []) ∙ ap (λ (ts : List Token). literal_tokens l ++ (Punctuation b.0 Bar ∷ ts)) (tokens_are b.1 bs stop)

-- ---- names

literals_names : (symbols : List Symbol) (front : List Token) (l : LiteralTree) (bs : List (ℕ × LiteralTree)) (stop : ℕ) → BeginsLiteral front → EndsNoName front
    → ClauseKnown symbols (Literals l bs) → IsSpeltClause (Literals l bs) → Walk (NameClear symbols false) front (literals_and_stop l bs stop)
literals_names symbols front l [] stop b none known spelt =
    let r = literal_clear symbols front l known.0 spelt.0 b none in
    walk_join (NameClear symbols false) front (literal_tokens l) (Punctuation stop Stop ∷ []) r.walk (r.end (Punctuation stop Stop) refl, tt)
literals_names symbols front l (m ∷ ms) stop b none known spelt =
    let r = literal_clear symbols front l known.0 spelt.0 b none in
    let bar = Punctuation m.0 Bar in
    let before = front ++ literal_tokens l in
    walk_join (NameClear symbols false) front (literal_tokens l) (bar ∷ literals_and_stop m.1 ms stop) r.walk
    (r.end bar refl, literals_names symbols (before ++ bar ∷ []) m.1 ms stop (at_bar before m.0) (ends_no_name before bar refl) (known.1.0, known.1.1) (spelt.1.0, spelt.1.1))

pub clause_names : (symbols : List Symbol) (c : ClauseTree) (stop : ℕ) → ClauseKnown symbols c → IsSpeltClause c → Walk (NameClear symbols false) [] (clause_tokens c ++ Punctuation stop Stop ∷ [])
clause_names symbols (Falsum at) stop known spelt =
    (no_name symbols false [] (Word at (codes "$F")) refl, (no_name symbols false (Word at (codes "$F") ∷ []) (Punctuation stop Stop) refl, tt))
clause_names symbols (Literals l bs) stop known spelt =
    subst (Walk (NameClear symbols false) []) (sym (tokens_are l bs stop)) (literals_names symbols [] l bs stop at_first refl known spelt)

-- ---- commas

sign_commas : (positive : Bool) (at : ℕ) → open_commas [] (Punctuation at (equal_sign positive) ∷ []) ≡ []
sign_commas true at = refl
sign_commas false at = refl

atom_few : (symbols : List Symbol) (a : Atom) → AtomKnown symbols a → Along (FewDeep []) (atom_tokens a)
atom_few symbols (Plain h args) known = side_few [] h args (omega arith) (known.1, small symbols (occurrences args) known.2)
atom_few symbols (Equation e) known =
    let sign = Punctuation e.at (equal_sign e.positive) in
    let right = side_tokens e.right_head e.right_args in
    join_even [] (side_tokens e.left_head e.left_args) (sign ∷ right) (side-commas e.left_head e.left_args [])
    (side_few [] e.left_head e.left_args (omega arith) (small symbols (side_of e.left_head e.left_args) known.0))
    (join_even [] (sign ∷ []) right (sign_commas e.positive e.at)
    (along_one (FewDeep []) sign (at_once [] [] (omega arith) refl) (at_once [] (sign ∷ []) (omega arith) (sign_commas e.positive e.at)))
    (side_few [] e.right_head e.right_args (omega arith) (small symbols (side_of e.right_head e.right_args) known.1)))

atom_even : (a : Atom) → open_commas [] (atom_tokens a) ≡ []
atom_even (Plain h args) = side-commas h args []
atom_even (Equation e) =
    let right = side_tokens e.right_head e.right_args in
    let sign = Punctuation e.at (equal_sign e.positive) in
    open_commas-append [] (side_tokens e.left_head e.left_args) (sign ∷ right)
    ∙ ap (λ (ns : List ℕ). open_commas ns (sign ∷ right)) (side-commas e.left_head e.left_args [])
    ∙ ap (λ (ns : List ℕ). open_commas ns right) (sign_commas e.positive e.at) ∙ side-commas e.right_head e.right_args []

-- the literal has few commas, and none is open behind it
record LiteralFew (ts : List Token) : Type 0 where
  along : Along (FewDeep []) ts
  even : open_commas [] ts ≡ []

literal_few_by : (symbols : List Symbol) (w : Wrapping) (a : Atom) → IsPlainWrapping w → AtomKnown symbols a → LiteralFew (literal_tokens (record { wrapping = w; atom = a }))
literal_few_by symbols Bare a plain known = subst LiteralFew (sym (append-nil (atom_tokens a))) (record { along = atom_few symbols a known; even = atom_even a })
literal_few_by symbols (Negative at) a plain known =
    let minus = Punctuation at Minus in
    let r : LiteralFew (atom_tokens a ++ []) = subst LiteralFew (sym (append-nil (atom_tokens a))) (record { along = atom_few symbols a known; even = atom_even a }) in
    record {
      along = join_even [] (minus ∷ []) (atom_tokens a ++ []) refl (along_one (FewDeep []) minus (at_once [] [] (omega arith) refl) (at_once [] (minus ∷ []) (omega arith) refl)) r.along;
      even = r.even;
    }
literal_few_by symbols (Brackets o c) a plain known = absurd plain
literal_few_by symbols (NegativeBrackets at o c) a plain known = absurd plain

one_sign : (t : Token) → open_commas [] (t ∷ []) ≡ [] → Along (FewDeep []) (t ∷ [])
one_sign t e = along_one (FewDeep []) t (at_once [] [] (omega arith) refl) (at_once [] (t ∷ []) (omega arith) e)

literals_few : (symbols : List Symbol) (l : LiteralTree) (bs : List (ℕ × LiteralTree)) (stop : ℕ) → ClauseKnown symbols (Literals l bs) → Along (FewDeep []) (literals_and_stop l bs stop)
literals_few symbols l [] stop known =
    let r = literal_few_by symbols l.wrapping l.atom known.0.0 known.0.1 in
    join_even [] (literal_tokens l) (Punctuation stop Stop ∷ []) r.even r.along (one_sign (Punctuation stop Stop) refl)
literals_few symbols l (b ∷ bs) stop known =
    let r = literal_few_by symbols l.wrapping l.atom known.0.0 known.0.1 in
    let bar = Punctuation b.0 Bar in
    join_even [] (literal_tokens l) (bar ∷ literals_and_stop b.1 bs stop) r.even r.along
    (join_even [] (bar ∷ []) (literals_and_stop b.1 bs stop) refl (one_sign bar refl) (literals_few symbols b.1 bs stop (known.1.0, known.1.1)))

-- ---- weight and depth

module _ (symbols : List Symbol) where
  abbrev read : LiteralTree → Literal
  read l = literal_of text_variable symbols (literal_written l)

  abbrev others_read : List (ℕ × LiteralTree) → List Literal
  others_read bs = map (literal_of text_variable symbols) (map (λ (b : ℕ × LiteralTree). literal_written b.1) bs)

  bar_weight : (at : ℕ) (ts : List Token) → weight_so_far (Punctuation at Bar ∷ ts) ≡ weight_so_far ts
  bar_weight at ts = refl

  literals_heavy : (l : LiteralTree) (bs : List (ℕ × LiteralTree)) (stop : ℕ) → weight_so_far (literals_and_stop l bs stop) ≤ sum (map literal_weight (read l ∷ others_read bs))
  literals_heavy l [] stop =
      let h = literal_heavy symbols l in
      let a = weight-append (literal_tokens l) (Punctuation stop Stop ∷ []) in
      let none : weight_so_far (Punctuation stop Stop ∷ []) ≡ 0 = refl in
      let s = sum-cons (literal_weight (read l)) [] in
      omega arith
  literals_heavy l (b ∷ bs) stop =
      let h = literal_heavy symbols l in
      let ih = literals_heavy b.1 bs stop in
      let a = weight-append (literal_tokens l) (Punctuation b.0 Bar ∷ literals_and_stop b.1 bs stop) in
      let k = bar_weight b.0 (literals_and_stop b.1 bs stop) in
      let s = sum-cons (literal_weight (read l)) (map literal_weight (others_read (b ∷ bs))) in
      omega arith

  abbrev Shallow : List Token → List Token → Type 0
  Shallow front us = depth_so_far (front ++ us) ≤ 256

  literals_shallow : (front : List Token) (l : LiteralTree) (bs : List (ℕ × LiteralTree)) (stop : ℕ) → BeginsLiteral front → ClauseKnown symbols (Literals l bs) → largest (map literal_depth (read l ∷ others_read bs)) ≤ 256
      → Along (Shallow front) (literals_and_stop l bs stop)
  literals_shallow front l [] stop b known le =
      let d = largest-cons (literal_depth (read l)) [] in
      literal_along symbols front l stop known.0.0 b (omega arith)
  literals_shallow front l (m ∷ ms) stop b known le =
      let ts = literal_tokens l in
      let bar = Punctuation m.0 Bar in
      let before = front ++ ts in
      let d = largest-cons (literal_depth (read l)) (map literal_depth (others_read (m ∷ ms))) in
      let one : Along (Shallow front) (ts ++ Punctuation stop Stop ∷ []) = literal_along symbols front l stop known.0.0 b (omega arith) in
      let here : Along (Shallow front) ts = λ us more e. one us (more ++ Punctuation stop Stop ∷ []) (ap (λ ts. ts ++ Punctuation stop Stop ∷ []) e ∙ append_assoc us more (Punctuation stop Stop ∷ [])) in
      let end : Shallow front (ts ++ []) = subst (Shallow front) (sym (append-nil ts)) (here ts [] (sym (append-nil ts))) in
      along_join (Shallow front) ts (bar ∷ literals_and_stop m.1 ms stop) here
      (behind front ts m.0 (literals_and_stop m.1 ms stop) end (literals_shallow (before ++ bar ∷ []) m.1 ms stop (at_bar before m.0) (known.1.0, known.1.1) (omega arith)))
    where
      behind : (front ts : List Token) (at : ℕ) (others : List Token) → Shallow front (ts ++ []) → Along (Shallow ((front ++ ts) ++ Punctuation at Bar ∷ [])) others
          → Along (λ us. Shallow front (ts ++ us)) (Punctuation at Bar ∷ others)
      behind front ts at others end ih [] more e = end
      behind front ts at others end ih (u ∷ us) more e =
          let first : Punctuation at Bar ≡ u = cc in
          let rest : others ≡ us ++ more = cc in
          subst (λ (u : Token). Shallow front (ts ++ u ∷ us)) first
          (subst (λ (ts : List Token). depth_so_far ts ≤ 256) (append_assoc (front ++ ts) (Punctuation at Bar ∷ []) us ∙ append_assoc front ts (Punctuation at Bar ∷ us)) (ih us more rest))

-- what is counted of some tokens is within the limits
pub record Measured (ts : List Token) : Type 0 where
  pub arity : first_or_none (open_commas [] ts) ≤ 7
  pub weight : weight_so_far ts ≤ 10000
  pub depth : depth_so_far ts ≤ 256

pub clause_measured : (symbols : List Symbol) (c : ClauseTree) (stop : ℕ) → ClauseKnown symbols c → sum (map literal_weight (map (literal_of text_variable symbols) (clause_written c))) ≤ 10000
    → largest (map literal_depth (map (literal_of text_variable symbols) (clause_written c))) ≤ 256 → Along Measured (clause_tokens c ++ Punctuation stop Stop ∷ [])
clause_measured symbols (Falsum at) stop known light shallow = λ us more e. by us more e
  where
    by : (us more : List Token) → Word at (codes "$F") ∷ Punctuation stop Stop ∷ [] ≡ us ++ more → Measured us
    by [] more e = record { arity = omega arith; weight = omega arith; depth = omega arith }
    by (t ∷ []) more e =
        let is : Word at (codes "$F") ≡ t = cc in
        subst (λ (t : Token). Measured (t ∷ [])) is (record { arity = omega arith; weight = omega arith; depth = omega arith })
    by (t ∷ u ∷ []) more e =
        let is : Word at (codes "$F") ≡ t = cc in
        let last : Punctuation stop Stop ≡ u = cc in
        subst (λ (t : Token). Measured (t ∷ u ∷ [])) is (subst (λ (u : Token). Measured (Word at (codes "$F") ∷ u ∷ [])) last (record { arity = omega arith; weight = omega arith; depth = omega arith }))
    by (t ∷ u ∷ v ∷ vs) more e = absurd cc
clause_measured symbols (Literals l bs) stop known light shallow = λ us more e.
    let whole : literals_and_stop l bs stop ≡ us ++ more = sym (tokens_are l bs stop) ∙ e in
    let few = literals_few symbols l bs stop known us more whole in
    let heavy = literals_heavy symbols l bs stop in
    let same = ap weight_so_far whole in
    let parts = weight-append us more in
    let deep = literals_shallow symbols [] l bs stop at_first known shallow us more whole in
    record { arity = few.few; weight = omega arith; depth = deep }
