-- Productions one after another, and several times, read as the first tokens decide.
use Rattle.std.proofs.Common.{sym, ap, subst, ℕ, zero, suc, ◌+◌, ◌≤◌, Bool, true, false, List, [], ◌∷◌, ◌++◌, length, Ok, Err, arith}
use Rattle.std.specs.Prelude.{codes}
use Rattle.std.proofs.lemmas.List.{length-append}
use Rattle.sc_input_rules.specs.declared.fault.InputKind.{InputKind}
use Rattle.sc_input_rules.specs.declared.token.Token.{Token}
use Rattle.sc_input_rules.specs.declared.token.Token.TheVariants.{Word, Punctuation, Refused}
use Rattle.sc_input_rules.specs.declared.token.Sign.{Sign}
use Rattle.sc_input_rules.specs.Token.{is_sign, same_text}
use Rattle.sc_input_rules.specs.Reader.{Read, Name, ◌>>=◌, unexpected, next_is, the_sign, a_name, separated}
use Rattle.sc_input_rules.proofs.Shrinking.{LeavesAtMost, Shrinks, in_turn, either_way, within, separated-shrinks}
use Rattle.sc_input_rules.proofs.Prefix.{ok_agrees, err_agrees, Agrees, Good, nothing_left, good_from, taken, one_of_two, good_sign}

-- a production takes at least d tokens where it doesn't fail
abbrev pub OkBy : {A : Type 0} → ℕ → ℕ → Read A → Type 0
OkBy d n (Ok r) = length r.1 + d ≤ n
OkBy d n (Err f) = Unit {0}

abbrev pub Takes : {A : Type 0} → ℕ → (List Token → Read A) → Type 0
Takes d p = (tokens : List Token) → OkBy d (length tokens) (p tokens)

pub takes_none : {A : Type 0} (p : List Token → Read A) → Shrinks p → Takes 0 p
takes_none {A} p h tokens = by (p tokens) (h tokens)
  where
    by : (r : Read A) → LeavesAtMost (length tokens) r → OkBy 0 (length tokens) r
    by (Ok r) e = omega (arith, e)
    by (Err f) e = tt

pub takes_sign : (s : Sign) → Takes 1 (the_sign s)
takes_sign s [] = tt
takes_sign s (t ∷ tokens) = by (is_sign s t)
  where
    by : (b : Bool) → OkBy {A = Unit {0}} 1 (length (t ∷ tokens)) (elim b [ true ↦ Ok (tt, tokens) | false ↦ unexpected (t ∷ tokens) ])
    by true = omega arith
    by false = tt

pub takes_name : Takes 1 a_name
takes_name [] = tt
takes_name (Word at text ∷ tokens) = by (same_text (codes "$F") text)
  where
    by : (b : Bool) → OkBy {A = Name} 1 (length (Word at text ∷ tokens)) (elim b [ true ↦ unexpected (Word at text ∷ tokens) | false ↦ Ok (record { at = at; text = text }, tokens) ])
    by true = tt
    by false = omega arith
takes_name (Punctuation at s ∷ tokens) = tt
takes_name (Refused at kind ∷ tokens) = tt

-- ---- in turn

abbrev pub bound : {A B : Type 0} → Read A → (A → List Token → Read B) → Read B
bound r k = r >>= λ v. k v.0 v.1

bound-leaves : {A B : Type 0} (n : ℕ) (r : Read A) (k : A → List Token → Read B) → LeavesAtMost n r → ((a : A) → Shrinks (k a)) → LeavesAtMost n (bound r k)
bound-leaves n r k h e = in_turn n r (λ v. k v.0 v.1) h (λ v le. within (k v.0) n v.1 (e v.0) le)

module _ {A B : Type 0} (n' m' d j : ℕ) (more : List Token) (k l : A → List Token → Read B) (g : (a : A) → Good n' m' (k a) (l a)) where
  after_ok : (s : Read A) (a : A) (left : List Token) → ok_agrees more a left s → length left + d ≤ j → j ≤ n' + d → j + length more ≤ m' + d → Agrees more (k a left) (bound s l)
  after_ok s a [] h takes le le' = nothing_left more (k a []) (bound s l) ((g a).short []) (bound-leaves (length more) s l h (λ b. (g b).long))
  after_ok s a (t ∷ ts) h takes le le' =
      subst (λ (s : Read A). Agrees more (k a (t ∷ ts)) (bound s l)) (sym h)
      ((g a).agrees (t ∷ ts) more (omega (arith, takes, le)) (omega (arith, takes, le', length-append (t ∷ ts) more)))

  after_err : (s : Read A) (kind : InputKind) (left : List Token) → err_agrees more kind left s → err_agrees more kind left (bound s l)
  after_err s kind [] h = bound-leaves (length more) s l h (λ b. (g b).long)
  after_err s kind (t ∷ ts) h = ap (λ (s : Read A). bound s l) h

  bound-agrees : (r s : Read A) → Agrees more r s → OkBy d j r → j ≤ n' + d → j + length more ≤ m' + d → Agrees more (bound r k) (bound s l)
  bound-agrees (Ok r) s h takes le le' = after_ok s r.0 r.1 h takes le le'
  bound-agrees (Err f) s h takes le le' = after_err s f.kind f.left h

pub good_bind : {A B : Type 0} (n m n' m' d : ℕ) (p q : List Token → Read A) (k l : A → List Token → Read B) → n ≤ n' + d → m ≤ m' + d → Good n m p q → Takes d p
    → ((a : A) → Good n' m' (k a) (l a)) → Good n m (λ ts. bound (p ts) k) (λ ts. bound (q ts) l)
good_bind n m n' m' d p q k l le le' h takes g =
    record {
      short = λ ts. bound-leaves (length ts) (p ts) k (h.short ts) (λ a. (g a).short);
      long = λ ts. bound-leaves (length ts) (q ts) l (h.long ts) (λ a. (g a).long);
      agrees = λ front more e e'.
          bound-agrees n' m' d (length front) more k l g (p front) (q (front ++ more)) (h.agrees front more e e') (takes front) (omega (arith, e, le)) (omega (arith, e', le', length-append front more));
    }

pub good_pure : {A : Type 0} (n m : ℕ) (a : A) → Good n m (λ ts. Ok (a, ts)) (λ ts. Ok (a, ts))
good_pure n m a = record { short = λ ts. omega arith; long = λ ts. omega arith; agrees = λ front more e e'. taken a front more }

pub good_next : {A : Type 0} (n m : ℕ) (test : Token → Bool) (p q p' q' : List Token → Read A) → Good n m p q → Good n m p' q'
    → Good n m (λ ts. elim (next_is test ts) [ true ↦ p ts | false ↦ p' ts ]) (λ ts. elim (next_is test ts) [ true ↦ q ts | false ↦ q' ts ])
good_next n m test p q p' q' g g' =
    good_from n m (λ ts. elim (next_is test ts) [ true ↦ p ts | false ↦ p' ts ]) (λ ts. elim (next_is test ts) [ true ↦ q ts | false ↦ q' ts ])
    (λ ts. either_way (length ts) (next_is test ts) (p ts) (p' ts) (g.short ts) (g'.short ts)) (λ ts. either_way (length ts) (next_is test ts) (q ts) (q' ts) (g.long ts) (g'.long ts))
    (λ t front more e e'. one_of_two more (test t) (p (t ∷ front)) (q (t ∷ (front ++ more))) (p' (t ∷ front)) (q' (t ∷ (front ++ more))) (g.agrees (t ∷ front) more e e') (g'.agrees (t ∷ front) more e e'))

pub weaker : {A : Type 0} (n m n' m' : ℕ) (p q : List Token → Read A) → n' ≤ n → m' ≤ m → Good n m p q → Good n' m' p q
weaker n m n' m' p q le le' g = record { short = g.short; long = g.long; agrees = λ front more e e'. g.agrees front more (omega (arith, e, le)) (omega (arith, e', le')) }

-- ---- several times

pub good_separated : {A : Type 0} (n m : ℕ) (s : Sign) (one one' : List Token → Read A) (k j : ℕ) → k ≤ n → j ≤ m → Good n m one one' → Good k j (separated s one k) (separated s one' j)
good_separated n m s one one' zero j le le' g = good_from zero j _ _ (separated-shrinks s one zero g.short) (separated-shrinks s one' j g.long) (λ t front more e e'. absurd (omega (arith, e)))
good_separated n m s one one' (suc k) zero le le' g = good_from (suc k) zero _ _ (separated-shrinks s one (suc k) g.short) (separated-shrinks s one' zero g.long) (λ t front more e e'. absurd (omega (arith, e')))
good_separated n m s one one' (suc k) (suc j) le le' g =
    good_bind (suc k) (suc j) (suc k) (suc j) 0 one one' _ _ (omega arith) (omega arith) (weaker n m (suc k) (suc j) one one' le le' g) (takes_none one g.short) (λ a.
    good_next (suc k) (suc j) (is_sign s)
    (λ ts. bound (the_sign s ts) (λ u ts. bound (separated s one k ts) (λ others ts. Ok (a ∷ others, ts)))) (λ ts. bound (the_sign s ts) (λ u ts. bound (separated s one' j ts) (λ others ts. Ok (a ∷ others, ts)))) (λ ts. Ok (a ∷ [], ts)) (λ ts. Ok (a ∷ [], ts))
    (good_bind (suc k) (suc j) k j 1 (the_sign s) (the_sign s) (λ u ts. bound (separated s one k ts) (λ others ts. Ok (a ∷ others, ts))) (λ u ts. bound (separated s one' j ts) (λ others ts. Ok (a ∷ others, ts))) (omega arith) (omega arith) (good_sign (suc k) (suc j) s) (takes_sign s) (λ u.
    good_bind k j k j 0 (separated s one k) (separated s one' j) (λ others ts. Ok (a ∷ others, ts)) (λ others ts. Ok (a ∷ others, ts)) (omega arith) (omega arith)
    (good_separated n m s one one' k j (omega (arith, le)) (omega (arith, le')) g) (takes_none (separated s one k) (separated-shrinks s one k g.short)) (λ others. good_pure k j (a ∷ others))))
    (good_pure (suc k) (suc j) (a ∷ [])))
