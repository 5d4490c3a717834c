-- Where the terms of an instance are read, they are the occurrences of a tree, and the tokens are those that spell it.
use Rattle.std.proofs.Common.{◌∙◌, sym, ap, subst, refl, ℕ, zero, suc, Bool, true, false, List, [], ◌∷◌, ◌++◌, append_assoc, Ok, arith}
use Rattle.std.proofs.lemmas.List.{append-nil}
use Rattle.sc_input_rules.specs.declared.token.Token.{Token}
use Rattle.sc_input_rules.specs.declared.token.Token.TheVariants.{Word, Punctuation}
use Rattle.sc_input_rules.specs.declared.token.Sign.TheVariants.{Comma}
use Rattle.sc_input_rules.specs.Token.{is_sign}
use Rattle.sc_input_rules.specs.Reader.{◌>>=◌, next_is, the_sign, separated}
use Rattle.sc_input_rules.specs.Syntax.{Side}
use Rattle.sc_input_rules.specs.ClauseGrammar.{side}
use Rattle.sc_input_rules.proofs.Spelling.{Empty, Entry, in_brackets, tokens_of, side_tokens, occurrence, occurrences}
use Rattle.sc_input_rules.proofs.Taken.{Gives, both, same, Sign-taken, sign_taken}
use Rattle.sc_input_rules.proofs.SidesRead.{SideRead, SidesRead, side_read}

last_side : (ts : List Token) (s : Side) (left : List Token) → SideRead ts s left → SidesRead ts (s ∷ []) left
last_side ts s left r =
    record {
      head = r.head;
      args = r.args;
      comma = 0;
      others = Empty;
      side = append-nil s ∙ r.side ∙ ap (λ os. occurrence r.head r.args ∷ os) (sym (append-nil (occurrences r.args)));
      many = refl;
      tokens = r.tokens ∙ ap (λ us. Word r.head.at r.head.text ∷ (us ++ left)) (sym (append-nil (in_brackets r.head r.args (tokens_of r.args))));
      names = (r.name, r.names, tt);
    }

one_more_side : (ts us vs left : List Token) (s : Side) (ss : List Side) → SideRead ts s us → Sign-taken Comma us vs → SidesRead vs ss left → SidesRead ts (s ∷ ss) left
one_more_side ts us vs left s ss r c m =
    let others = Entry m.head m.args m.comma m.others in
    let inside = in_brackets r.head r.args (tokens_of r.args) in
    record {
      head = r.head;
      args = r.args;
      comma = c.at;
      others = Entry m.head m.args m.comma m.others;
      side = (λ i. r.side i ++ m.side i);
      many = ap (λ n. suc n) m.many ∙ omega arith;
      tokens = r.tokens ∙ ap (λ us. side_tokens r.head r.args ++ us) (c.tokens ∙ ap (λ us. Punctuation c.at Comma ∷ us) m.tokens)
          ∙ ap (λ us. Word r.head.at r.head.text ∷ us) (sym (append_assoc inside (Punctuation c.at Comma ∷ tokens_of others) left));
      names = (r.name, r.names, m.names);
    }

pub sides_read : (n : ℕ) (ts : List Token) (ss : List Side) (left : List Token) → Gives (separated Comma side n ts) ss left → SidesRead ts ss left
sides_read zero ts ss left e = absurd cc
sides_read (suc n) ts ss left e =
    let b = both (side ts) _ ss left e in
    let r = side_read ts b.value b.left b.first in
    by b.value b.left r (next_is (is_sign Comma) b.left) b.second (sides_read n)
  where
    by : (s : Side) (us : List Token) → SideRead ts s us → (c : Bool)
        → Gives (elim c [ true ↦ the_sign Comma us >>= λ t. separated Comma side n t.1 >>= λ others. Ok (s ∷ others.0, others.1) | false ↦ Ok (s ∷ [], us) ]) ss left
        → ((ts : List Token) (ss : List Side) (left : List Token) → Gives (separated Comma side n ts) ss left → SidesRead ts ss left) → SidesRead ts ss left
    by s us r true e ih =
        let b = both (the_sign Comma us) _ ss left e in
        let c = sign_taken Comma us b.value b.left b.first in
        let d = both (separated Comma side n b.left) _ ss left b.second in
        let z = same (s ∷ d.value) ss d.left left d.second in
        subst (λ ss. SidesRead ts ss left) z.value
        (one_more_side ts us b.left left s d.value r c (subst (SidesRead b.left d.value) z.left (ih b.left d.value d.left d.first)))
    by s us r false e ih =
        let z = same (s ∷ []) ss us left e in
        subst (λ ss. SidesRead ts ss left) z.value (last_side ts s left (subst (SideRead ts s) z.left r))
