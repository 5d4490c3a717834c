-- Where a literal is read, it is that of a tree, and the tokens are those that spell it.
use Rattle.std.proofs.Common.{◌≡◌, ◌∙◌, sym, ap, subst, ℕ, Bool, true, false, List, [], ◌∷◌, ◌++◌, append_assoc, Ok}
use Rattle.std.proofs.lemmas.List.{append-nil}
use Rattle.sc_input_rules.specs.declared.token.Token.{Token}
use Rattle.sc_input_rules.specs.declared.token.Token.TheVariants.{Word, Punctuation, Refused}
use Rattle.sc_input_rules.specs.declared.token.Sign.TheVariants.{Open, Close, Comma, Stop, Bar, Minus, Equal, Unequal, Colon}
use Rattle.sc_input_rules.specs.Token.{is_sign}
use Rattle.sc_input_rules.specs.Reader.{◌>>=◌, next_is, the_sign}
use Rattle.sc_input_rules.specs.declared.written.WrittenLiteral.{WrittenLiteral}
use Rattle.sc_input_rules.specs.Syntax.{Side}
use Rattle.sc_input_rules.specs.ClauseGrammar.{bracketed, side, equation_of, right_of, equation, atom_of, is_equality, plain_literal, bracketed_or, negative_atom, negated, literal}
use Rattle.sc_input_rules.proofs.Spelling.{Head, Sides, side_tokens, side_of, IsName, AreNames}
use Rattle.sc_input_rules.proofs.ClauseSpelling.{Equated, Atom, Plain, Equation, Bare, Negative, Brackets, NegativeBrackets, LiteralTree, equal_sign, atom_tokens, literal_tokens, atom_written, literal_written, HasNames, IsSpelt}
use Rattle.sc_input_rules.proofs.Taken.{Gives, both, same, sign_taken}
use Rattle.sc_input_rules.proofs.SidesRead.{SideRead, side_read, brackets_read}

pub record LiteralRead (ts : List Token) (l : WrittenLiteral) (left : List Token) : Type 0 where
  pub tree : LiteralTree
  pub written : l ≡ literal_written tree
  pub tokens : ts ≡ literal_tokens tree ++ left
  pub spelt : IsSpelt tree

-- ---- equations

-- what stands behind the left side s of an equation
record RightRead (s : Side) (ts : List Token) (l : WrittenLiteral) (left : List Token) : Type 0 where
  positive : Bool
  at : ℕ
  head : Head
  args : Sides
  written : l ≡ equation_of positive at s (side_of head args)
  tokens : ts ≡ Punctuation at (equal_sign positive) ∷ (side_tokens head args ++ left)
  names : IsName head × AreNames args

right_side : (positive : Bool) (s : Side) (at : ℕ) (ts : List Token) (l : WrittenLiteral) (left : List Token)
    → Gives (side ts >>= λ right. Ok (equation_of positive at s right.0, right.1)) l left → RightRead s (Punctuation at (equal_sign positive) ∷ ts) l left
right_side positive s at ts l left e =
    let b = both (side ts) _ l left e in
    let r = side_read ts b.value b.left b.first in
    let z = same _ l b.left left b.second in
    record {
      positive = positive;
      at = at;
      head = r.head;
      args = r.args;
      written = sym z.value ∙ ap (equation_of positive at s) r.side;
      tokens = ap (λ us. Punctuation at (equal_sign positive) ∷ us) (r.tokens ∙ ap (λ us. side_tokens r.head r.args ++ us) z.left);
      names = (r.name, r.names);
    }

right_read : (s : Side) (ts : List Token) (l : WrittenLiteral) (left : List Token) → Gives (right_of s ts) l left → RightRead s ts l left
right_read s [] l left e = absurd cc
right_read s (Word at text ∷ ts) l left e = absurd cc
right_read s (Refused at kind ∷ ts) l left e = absurd cc
right_read s (Punctuation at Equal ∷ ts) l left e = right_side true s at ts l left e
right_read s (Punctuation at Unequal ∷ ts) l left e = right_side false s at ts l left e
right_read s (Punctuation at Open ∷ ts) l left e = absurd cc
right_read s (Punctuation at Close ∷ ts) l left e = absurd cc
right_read s (Punctuation at Comma ∷ ts) l left e = absurd cc
right_read s (Punctuation at Stop ∷ ts) l left e = absurd cc
right_read s (Punctuation at Bar ∷ ts) l left e = absurd cc
right_read s (Punctuation at Minus ∷ ts) l left e = absurd cc
right_read s (Punctuation at Colon ∷ ts) l left e = absurd cc

-- an atom was read
record AtomRead (ts : List Token) (l : WrittenLiteral) (left : List Token) : Type 0 where
  atom : Atom
  written : l ≡ atom_written atom
  tokens : ts ≡ atom_tokens atom ++ left
  names : HasNames atom

record EquationRead (ts : List Token) (l : WrittenLiteral) (left : List Token) : Type 0 where
  equated : Equated
  written : l ≡ atom_written (Equation equated)
  tokens : ts ≡ atom_tokens (Equation equated) ++ left
  names : HasNames (Equation equated)

equation_from : (ts us left : List Token) (s : Side) (l : WrittenLiteral) → SideRead ts s us → RightRead s us l left → EquationRead ts l left
equation_from ts us left s l f r =
    let sign = Punctuation r.at (equal_sign r.positive) in
    record {
      equated = record { positive = r.positive; at = r.at; left_head = f.head; left_args = f.args; right_head = r.head; right_args = r.args };
      written = r.written ∙ ap (λ s. equation_of r.positive r.at s (side_of r.head r.args)) f.side;
      tokens = f.tokens ∙ ap (λ us. side_tokens f.head f.args ++ us) r.tokens ∙ sym (append_assoc (side_tokens f.head f.args) (sign ∷ side_tokens r.head r.args) left);
      names = ((f.name, f.names), r.names);
    }

equation_read : (ts : List Token) (l : WrittenLiteral) (left : List Token) → Gives (equation ts) l left → EquationRead ts l left
equation_read ts l left e =
    let b = both (side ts) _ l left e in
    equation_from ts b.left left b.value l (side_read ts b.value b.left b.first) (right_read b.value b.left l left b.second)

-- ---- atoms

record PlainRead (ts : List Token) (l : WrittenLiteral) (left : List Token) : Type 0 where
  head : Head
  args : Sides
  written : l ≡ atom_written (Plain head args)
  tokens : ts ≡ side_tokens head args ++ left
  names : IsName head × AreNames args

plain_from : (ts us left : List Token) (s : Side) (l : WrittenLiteral) → SideRead ts s us → Gives (atom_of true s us) l left → PlainRead ts l left
plain_from ts us left s l r e =
    let z = same _ l us left (sym (ap (λ s. atom_of true s us) r.side) ∙ e) in
    record { head = r.head; args = r.args; written = sym z.value; tokens = r.tokens ∙ ap (λ us. side_tokens r.head r.args ++ us) z.left; names = (r.name, r.names) }

bare : (ts left : List Token) (l : WrittenLiteral) → AtomRead ts l left → LiteralRead ts l left
bare ts left l r =
    record {
      tree = record { wrapping = Bare; atom = r.atom };
      written = r.written;
      tokens = r.tokens ∙ ap (λ us. us ++ left) (sym (append-nil (atom_tokens r.atom)));
      spelt = (tt, r.names);
    }

plain_literal_read : (ts : List Token) (l : WrittenLiteral) (left : List Token) → Gives (plain_literal ts) l left → LiteralRead ts l left
plain_literal_read ts l left e =
    let b = both (side ts) _ l left e in
    by b.value b.left (side_read ts b.value b.left b.first) (next_is is_equality b.left) b.second
  where
    by : (s : Side) (us : List Token) → SideRead ts s us → (b : Bool) → Gives (elim b [ true ↦ right_of s us | false ↦ atom_of true s us ]) l left → LiteralRead ts l left
    by s us r true e =
        let q = equation_from ts us left s l r (right_read s us l left e) in
        bare ts left l (record { atom = Equation q.equated; written = q.written; tokens = q.tokens; names = q.names })
    by s us r false e =
        let q = plain_from ts us left s l r e in
        bare ts left l (record { atom = Plain q.head q.args; written = q.written; tokens = q.tokens; names = q.names })

-- ---- literals

-- an equation in parentheses, and its place
record BracketedRead (ts : List Token) (l : WrittenLiteral) (left : List Token) : Type 0 where
  opening : ℕ
  closing : ℕ
  equated : Equated
  written : l ≡ atom_written (Equation equated)
  tokens : ts ≡ Punctuation opening Open ∷ ((atom_tokens (Equation equated) ++ Punctuation closing Close ∷ []) ++ left)
  names : HasNames (Equation equated)

bracketed_read : (ts : List Token) (l : WrittenLiteral) (left : List Token) → Gives (bracketed equation ts) l left → BracketedRead ts l left
bracketed_read ts l left e =
    let b = brackets_read equation ts l left e in
    let q = equation_read b.inner l b.outer b.within in
    let inner = atom_tokens (Equation q.equated) in
    record {
      opening = b.opening;
      closing = b.closing;
      equated = q.equated;
      written = q.written;
      tokens = b.opened ∙ ap (λ us. Punctuation b.opening Open ∷ us)
          (q.tokens ∙ ap (λ us. inner ++ us) b.closed ∙ sym (append_assoc inner (Punctuation b.closing Close ∷ []) left));
      names = q.names;
    }

unsigned_read : (ts : List Token) (l : WrittenLiteral) (left : List Token) → Gives (bracketed_or plain_literal ts) l left → LiteralRead ts l left
unsigned_read ts l left e = by (next_is (is_sign Open) ts) e
  where
    by : (b : Bool) → Gives (elim b [ true ↦ bracketed equation ts | false ↦ plain_literal ts ]) l left → LiteralRead ts l left
    by true e =
        let q = bracketed_read ts l left e in
        record { tree = record { wrapping = Brackets q.opening q.closing; atom = Equation q.equated }; written = q.written; tokens = q.tokens; spelt = (tt, q.names) }
    by false e = plain_literal_read ts l left e

negative_read : (at : ℕ) (ts : List Token) (l : WrittenLiteral) (left : List Token) → Gives (bracketed_or negative_atom ts) l left → LiteralRead (Punctuation at Minus ∷ ts) (negated l) left
negative_read at ts l left e = by (next_is (is_sign Open) ts) e
  where
    by : (b : Bool) → Gives (elim b [ true ↦ bracketed equation ts | false ↦ negative_atom ts ]) l left → LiteralRead (Punctuation at Minus ∷ ts) (negated l) left
    by true e =
        let q = bracketed_read ts l left e in
        record {
          tree = record { wrapping = NegativeBrackets at q.opening q.closing; atom = Equation q.equated };
          written = ap negated q.written;
          tokens = ap (λ us. Punctuation at Minus ∷ us) q.tokens;
          spelt = (tt, q.names);
        }
    by false e =
        let b = both (side ts) _ l left e in
        let q = plain_from ts b.left left b.value l (side_read ts b.value b.left b.first) b.second in
        record {
          tree = record { wrapping = Negative at; atom = Plain q.head q.args };
          written = ap negated q.written;
          tokens = ap (λ us. Punctuation at Minus ∷ us) (q.tokens ∙ ap (λ us. us ++ left) (sym (append-nil (side_tokens q.head q.args))));
          spelt = (tt, q.names);
        }

pub literal_read : (ts : List Token) (l : WrittenLiteral) (left : List Token) → Gives (literal ts) l left → LiteralRead ts l left
literal_read ts l left e = by (next_is (is_sign Minus) ts) e
  where
    by : (b : Bool) → Gives (elim b [ true ↦ the_sign Minus ts >>= λ minus. bracketed_or negative_atom minus.1 >>= λ l. Ok (negated l.0, l.1) | false ↦ bracketed_or plain_literal ts ]) l left → LiteralRead ts l left
    by true e =
        let b = both (the_sign Minus ts) _ l left e in
        let m = sign_taken Minus ts b.value b.left b.first in
        let c = both (bracketed_or negative_atom b.left) _ l left b.second in
        let z = same (negated c.value) l c.left left c.second in
        let q = negative_read m.at b.left c.value c.left c.first in
        subst (λ ts. LiteralRead ts l left) (sym m.tokens) (subst (λ l. LiteralRead (Punctuation m.at Minus ∷ b.left) l left) z.value (subst (LiteralRead (Punctuation m.at Minus ∷ b.left) (negated c.value)) z.left q))
    by false e = unsigned_read ts l left e
