-- Where a side is read, it is the occurrences of a tree, and the tokens are those that spell it.
use Rattle.std.proofs.Common.{◌≡◌, ◌∙◌, sym, ap, subst, refl, ℕ, zero, suc, Bool, true, false, List, [], ◌∷◌, ◌++◌, length, append_assoc, Ok, arith}
use Rattle.std.specs.Prelude.{flat_map}
use Rattle.sc_input_rules.specs.declared.token.Token.{Token}
use Rattle.sc_input_rules.specs.declared.token.Token.TheVariants.{Word, Punctuation}
use Rattle.sc_input_rules.specs.declared.token.Sign.TheVariants.{Open, Close, Comma}
use Rattle.sc_input_rules.specs.Token.{is_sign}
use Rattle.sc_input_rules.specs.Reader.{Read, ◌>>=◌, next_is, the_sign, a_name, separated}
use Rattle.sc_input_rules.specs.Syntax.{Side}
use Rattle.sc_input_rules.specs.ClauseGrammar.{bracketed, arguments, side_within, side}
use Rattle.sc_input_rules.proofs.Spelling.{Head, Sides, Empty, Entry, in_brackets, tokens_of, side_tokens, count, occurrence, occurrences, side_of, IsName, AreNames}
use Rattle.sc_input_rules.proofs.Taken.{Gives, both, same, Sign-taken, sign_taken, name_taken}
use Rattle.std.proofs.lemmas.List.{append-nil}

-- a side was read, and these tokens are left
pub record SideRead (ts : List Token) (s : Side) (left : List Token) : Type 0 where
  pub head : Head
  pub args : Sides
  pub side : s ≡ side_of head args
  pub tokens : ts ≡ side_tokens head args ++ left
  pub name : IsName head
  pub names : AreNames args

-- sides were read, with commas between them
pub record SidesRead (ts : List Token) (ss : List Side) (left : List Token) : Type 0 where
  pub head : Head
  pub args : Sides
  pub comma : ℕ
  pub others : Sides
  pub side : flat_map (λ s. s) ss ≡ occurrences (Entry head args comma others)
  pub many : length ss ≡ count (Entry head args comma others)
  pub tokens : ts ≡ tokens_of (Entry head args comma others) ++ left
  pub names : AreNames (Entry head args comma others)

last_side : (ts : List Token) (s : Side) (left : List Token) → SideRead ts s left → SidesRead ts (s ∷ []) left
last_side ts s left r =
    record {
      head = r.head;
      args = r.args;
      comma = 0;
      others = Empty;
      side = append-nil s ∙ r.side ∙ ap (λ os. occurrence r.head r.args ∷ os) (sym (append-nil (occurrences r.args)));
      many = refl;
      tokens = r.tokens ∙ ap (λ us. Word r.head.at r.head.text ∷ (us ++ left)) (sym (append-nil (in_brackets r.head r.args (tokens_of r.args))));
      names = (r.name, r.names, tt);
    }

one_more_side : (ts us vs left : List Token) (s : Side) (ss : List Side) → SideRead ts s us → Sign-taken Comma us vs → SidesRead vs ss left → SidesRead ts (s ∷ ss) left
one_more_side ts us vs left s ss r c m =
    let others = Entry m.head m.args m.comma m.others in
    let inside = in_brackets r.head r.args (tokens_of r.args) in
    record {
      head = r.head;
      args = r.args;
      comma = c.at;
      others = Entry m.head m.args m.comma m.others;
      side = (λ i. r.side i ++ m.side i);
      many = ap (λ n. suc n) m.many ∙ omega arith;
      tokens = r.tokens ∙ ap (λ us. side_tokens r.head r.args ++ us) (c.tokens ∙ ap (λ us. Punctuation c.at Comma ∷ us) m.tokens)
          ∙ ap (λ us. Word r.head.at r.head.text ∷ us) (sym (append_assoc inside (Punctuation c.at Comma ∷ tokens_of others) left));
      names = (r.name, r.names, m.names);
    }

sides_read : (one : List Token → Read Side) → ((ts : List Token) (s : Side) (left : List Token) → Gives (one ts) s left → SideRead ts s left)
    → (n : ℕ) (ts : List Token) (ss : List Side) (left : List Token) → Gives (separated Comma one n ts) ss left → SidesRead ts ss left
sides_read one h zero ts ss left e = absurd cc
sides_read one h (suc n) ts ss left e =
    let b = both (one ts) _ ss left e in
    let r = h ts b.value b.left b.first in
    by b.value b.left r (next_is (is_sign Comma) b.left) b.second (sides_read one h n)
  where
    by : (s : Side) (us : List Token) → SideRead ts s us → (c : Bool)
        → Gives (elim c [ true ↦ the_sign Comma us >>= λ t. separated Comma one n t.1 >>= λ others. Ok (s ∷ others.0, others.1) | false ↦ Ok (s ∷ [], us) ]) ss left
        → ((ts : List Token) (ss : List Side) (left : List Token) → Gives (separated Comma one n ts) ss left → SidesRead ts ss left) → SidesRead ts ss left
    by s us r true e ih =
        let b = both (the_sign Comma us) _ ss left e in
        let c = sign_taken Comma us b.value b.left b.first in
        let d = both (separated Comma one n b.left) _ ss left b.second in
        let z = same (s ∷ d.value) ss d.left left d.second in
        subst (λ ss. SidesRead ts ss left) z.value
        (one_more_side ts us b.left left s d.value r c (subst (SidesRead b.left d.value) z.left (ih b.left d.value d.left d.first)))
    by s us r false e ih =
        let z = same (s ∷ []) ss us left e in
        subst (λ ss. SidesRead ts ss left) z.value (last_side ts s left (subst (SideRead ts s) z.left r))

-- ---- brackets

pub record BracketsRead {A : Type 0} (inside : List Token → Read A) (ts : List Token) (a : A) (left : List Token) : Type 0 where
  pub opening : ℕ
  pub closing : ℕ
  pub inner : List Token
  pub outer : List Token
  pub opened : ts ≡ Punctuation opening Open ∷ inner
  pub within : Gives (inside inner) a outer
  pub closed : outer ≡ Punctuation closing Close ∷ left

pub brackets_read : {A : Type 0} (inside : List Token → Read A) (ts : List Token) (a : A) (left : List Token) → Gives (bracketed inside ts) a left → BracketsRead inside ts a left
brackets_read inside ts a left e =
    let b = both (the_sign Open ts) _ a left e in
    let o = sign_taken Open ts b.value b.left b.first in
    let c = both (inside b.left) _ a left b.second in
    let d = both (the_sign Close c.left) _ a left c.second in
    let q = sign_taken Close c.left d.value d.left d.first in
    let z = same c.value a d.left left d.second in
    record {
      opening = o.at;
      closing = q.at;
      inner = b.left;
      outer = c.left;
      opened = o.tokens;
      within = subst (λ a. Gives (inside b.left) a c.left) z.value c.first;
      closed = q.tokens ∙ ap (λ us. Punctuation q.at Close ∷ us) z.left;
    }

-- ---- a side

-- the arguments were read
record ArgsRead (ts : List Token) (ss : List Side) (left : List Token) : Type 0 where
  opening : ℕ
  closing : ℕ
  args : Sides
  side : flat_map (λ s. s) ss ≡ occurrences args
  many : length ss ≡ count args
  tokens : (at : ℕ) (text : List ℕ) → ts ≡ in_brackets (record { at = at; text = text; opening = opening; closing = closing }) args (tokens_of args) ++ left
  names : AreNames args

no_args : (ts left : List Token) → ts ≡ left → ArgsRead ts [] left
no_args ts left e = record { opening = 0; closing = 0; args = Empty; side = refl; many = refl; tokens = λ at text. e; names = tt }

some_args : (inside : List Token → Read (List Side)) → ((ts : List Token) (ss : List Side) (left : List Token) → Gives (inside ts) ss left → SidesRead ts ss left)
    → (ts : List Token) (ss : List Side) (left : List Token) → Gives (bracketed inside ts) ss left → ArgsRead ts ss left
some_args inside h ts ss left e =
    let b = brackets_read inside ts ss left e in
    let m = h b.inner ss b.outer b.within in
    let args = Entry m.head m.args m.comma m.others in
    record {
      opening = b.opening;
      closing = b.closing;
      args = Entry m.head m.args m.comma m.others;
      side = m.side;
      many = m.many;
      tokens = λ at text. b.opened ∙ ap (λ us. Punctuation b.opening Open ∷ us)
          (m.tokens ∙ ap (λ us. tokens_of args ++ us) b.closed ∙ sym (append_assoc (tokens_of args) (Punctuation b.closing Close ∷ []) left));
      names = m.names;
    }

args_read : (inside : List Token → Read (List Side)) → ((ts : List Token) (ss : List Side) (left : List Token) → Gives (inside ts) ss left → SidesRead ts ss left)
    → (ts : List Token) (ss : List Side) (left : List Token) → Gives (arguments inside ts) ss left → ArgsRead ts ss left
args_read inside h ts ss left e = by (next_is (is_sign Open) ts) e
  where
    by : (b : Bool) → Gives (elim b [ true ↦ bracketed inside ts | false ↦ Ok ([], ts) ]) ss left → ArgsRead ts ss left
    by true e = some_args inside h ts ss left e
    by false e = let z = same [] ss ts left e in subst (λ ss. ArgsRead ts ss left) z.value (no_args ts left z.left)

pub side_within_read : (n : ℕ) (ts : List Token) (s : Side) (left : List Token) → Gives (side_within n ts) s left → SideRead ts s left
side_within_read zero ts s left e = absurd cc
side_within_read (suc n) ts s left e =
    let b = both (a_name ts) _ s left e in
    let w = name_taken ts b.value b.left b.first in
    let c = both (arguments (separated Comma (side_within n) n) b.left) _ s left b.second in
    let a = args_read (separated Comma (side_within n) n) (sides_read (side_within n) (side_within_read n) n) b.left c.value c.left c.first in
    let z = same _ s c.left left c.second in
    let head : Head = record { at = b.value.at; text = b.value.text; opening = a.opening; closing = a.closing } in
    record {
      head = head;
      args = a.args;
      side = sym z.value ∙ (λ i. record { at = b.value.at; name = b.value.text; arity = a.many i } ∷ a.side i);
      tokens = w.tokens ∙ ap (λ us. Word b.value.at b.value.text ∷ us) (a.tokens b.value.at b.value.text ∙ ap (λ us. in_brackets head a.args (tokens_of a.args) ++ us) z.left);
      name = w.named;
      names = a.names;
    }

pub side_read : (ts : List Token) (s : Side) (left : List Token) → Gives (side ts) s left → SideRead ts s left
side_read ts s left e = side_within_read (length ts) ts s left e
