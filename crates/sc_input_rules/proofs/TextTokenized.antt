-- The tokens of a text stand in order, and no word is `=`.
use Rattle.std.proofs.Common.{◌≡◌, sym, ap, subst, refl, ℕ, ◌+◌, ◌<◌, ◌≤◌, Bool, true, false, List, [], ◌∷◌, map, drop, arith}
use Rattle.std.specs.Prelude.{codes, ◌&&◌, not, ◌==◌, if◌then◌else◌}
use Rattle.std.specs.List.{AllByRecursion, list_any}
use Rattle.std.proofs.lemmas.Bool.{eqb-true}
use Rattle.sc_input_rules.specs.declared.token.Token.{Token}
use Rattle.sc_input_rules.specs.declared.token.Token.TheVariants.{Word, Punctuation, Refused}
use Rattle.sc_input_rules.specs.declared.token.Sign.{Sign}
use Rattle.sc_input_rules.specs.declared.token.Sign.TheVariants.{Unequal, Colon}
use Rattle.sc_input_rules.specs.declared.fault.InputKind.TheVariants.{Unsupported}
use Rattle.sc_input_rules.specs.Token.{at_of, same_text, is_word, is_sign}
use Rattle.sc_input_rules.specs.Tokens.{is_white, is_word_byte, blanked, sign_of, single, with_word_byte, with_exclamation, begins, with_byte, tokens_from, with_dollars_refused, tokens}
use Rattle.sc_input_rules.specs.Reading.{without_colon, problem_tokens}
use Rattle.sc_input_rules.proofs.Tokenized.{Ascend, AreTokenized}

-- from this byte on, in order; the first byte of each word is one of a word
record TokenizedFrom (at : ℕ) (ts : List Token) : Type 0 where
  from : AllByRecursion (λ t. at ≤ at_of t) ts
  order : Ascend ts
  words : AllByRecursion (λ t. is_word (codes "=") t ≡ false) ts

-- ---- one byte more

later_from : (at : ℕ) (ts : List Token) → AllByRecursion (λ t. at + 1 ≤ at_of t) ts → AllByRecursion (λ t. at ≤ at_of t) ts
later_from at [] h = tt
later_from at (t ∷ ts) h = let le = h.0 in (omega arith, later_from at ts h.1)

behind_at : (at n : ℕ) (ts : List Token) → n ≡ at → AllByRecursion (λ t. at + 1 ≤ at_of t) ts → AllByRecursion (λ t. n < at_of t) ts
behind_at at n [] e h = tt
behind_at at n (t ∷ ts) e h = let le = h.0 in (omega arith, behind_at at n ts e h.1)

tokenized_later : (at : ℕ) (ts : List Token) → TokenizedFrom (at + 1) ts → TokenizedFrom at ts
tokenized_later at ts h = record { from = later_from at ts h.from; order = h.order; words = h.words }

tokenized_cons : (at : ℕ) (t : Token) (ts : List Token) → at_of t ≡ at → is_word (codes "=") t ≡ false → TokenizedFrom (at + 1) ts → TokenizedFrom at (t ∷ ts)
tokenized_cons at t ts e w h = record { from = (omega arith, later_from at ts h.from); order = (behind_at at (at_of t) ts e h.from, h.order); words = (w, h.words) }

tokenized_tail : (at : ℕ) (t : Token) (ts : List Token) → TokenizedFrom at (t ∷ ts) → TokenizedFrom at ts
tokenized_tail at t ts h = record { from = h.from.1; order = h.order.1; words = h.words.1 }

tokenized_drop : (at : ℕ) (ts : List Token) → TokenizedFrom at ts → TokenizedFrom at (drop 1 ts)
tokenized_drop at [] h = h
tokenized_drop at (t ∷ ts) h = tokenized_tail at t ts h

tokenized_if : (at : ℕ) (b : Bool) (xs ys : List Token) → (b ≡ true → TokenizedFrom at xs) → TokenizedFrom at ys → TokenizedFrom at (if b then xs else ys)
tokenized_if at true xs ys h k = h refl
tokenized_if at false xs ys h k = k

no_equal_word : (at b : ℕ) (text : List ℕ) → is_word_byte b ≡ true → is_word (codes "=") (Word at (b ∷ text)) ≡ false
no_equal_word at b text e = by (61 == b) refl
  where
    by : (c : Bool) → (61 == b) ≡ c → (c && same_text [] text) ≡ false
    by true h =
        let is : 61 ≡ b = eqb-true 61 b h in
        let not_one : is_word_byte b ≡ false = ap is_word_byte (sym is) in
        cc
    by false h = refl

tokenized_word : (at b : ℕ) (joins : Bool) (ts : List Token) → is_word_byte b ≡ true → TokenizedFrom (at + 1) ts → TokenizedFrom at (with_word_byte at b joins ts)
tokenized_word at b true [] e h = tokenized_cons at (Word at (b ∷ [])) [] refl (no_equal_word at b [] e) h
tokenized_word at b true (Word next text ∷ ts) e h = tokenized_cons at (Word at (b ∷ text)) ts refl (no_equal_word at b text e) (tokenized_tail (at + 1) (Word next text) ts h)
tokenized_word at b true (Punctuation n s ∷ ts) e h = tokenized_cons at (Word at (b ∷ [])) (Punctuation n s ∷ ts) refl (no_equal_word at b [] e) h
tokenized_word at b true (Refused n kind ∷ ts) e h = tokenized_cons at (Word at (b ∷ [])) (Refused n kind ∷ ts) refl (no_equal_word at b [] e) h
tokenized_word at b false ts e h = tokenized_cons at (Word at (b ∷ [])) ts refl (no_equal_word at b [] e) h

record IsSingle (at : ℕ) (t : Token) : Type 0 where
  place : at_of t ≡ at
  word : is_word (codes "=") t ≡ false

one_single : (signs : List (ℕ × Sign)) (at b : ℕ) → IsSingle at (single signs at b)
one_single [] at b = record { place = refl; word = refl }
one_single (s ∷ signs) at b = by (b == s.0) (one_single signs at b)
  where
    by : (c : Bool) → IsSingle at (single signs at b) → IsSingle at (if c then Punctuation at s.1 else single signs at b)
    by true h = record { place = refl; word = refl }
    by false h = h

tokenized_with_byte : (at b : ℕ) (next : List ℕ) (ts : List Token) → TokenizedFrom (at + 1) ts → TokenizedFrom at (with_byte at b next ts)
tokenized_with_byte at b next ts h =
    let s = one_single sign_of at b in
    let joins = begins (λ c. c == 61) next in
    tokenized_if at (is_white b) ts
    (if is_word_byte b then with_word_byte at b (begins is_word_byte next) ts else if b == 33 then with_exclamation at (begins (λ c. c == 61) next) ts else (single sign_of at b ∷ ts))
    (λ e. tokenized_later at ts h)
    (tokenized_if at (is_word_byte b) (with_word_byte at b (begins is_word_byte next) ts) (if b == 33 then with_exclamation at (begins (λ c. c == 61) next) ts else (single sign_of at b ∷ ts))
    (λ e. tokenized_word at b (begins is_word_byte next) ts e h)
    (tokenized_if at (b == 33) (with_exclamation at (begins (λ c. c == 61) next) ts) (single sign_of at b ∷ ts)
    (λ e. tokenized_if at joins (Punctuation at Unequal ∷ drop 1 ts) (Refused at Unsupported ∷ ts)
    (λ e. tokenized_cons at (Punctuation at Unequal) (drop 1 ts) refl refl (tokenized_drop (at + 1) ts h)) (tokenized_cons at (Refused at Unsupported) ts refl refl h))
    (tokenized_cons at (single sign_of at b) ts s.place s.word h)))

tokenized_from : (at : ℕ) (bytes : List ℕ) → TokenizedFrom at (tokens_from at bytes)
tokenized_from at [] = record { from = tt; order = tt; words = tt }
tokenized_from at (b ∷ bs) = tokenized_with_byte at b bs (tokens_from (at + 1) bs) (tokenized_from (at + 1) bs)

-- a token in place of another, at the same byte, which is a word only if the other is the same word
record Stays (f : Token → Token) : Type 0 where
  place : (t : Token) → at_of (f t) ≡ at_of t
  word : (t : Token) → is_word (codes "=") t ≡ false → is_word (codes "=") (f t) ≡ false

order_map : (f : Token → Token) (n : ℕ) (ts : List Token) → Stays f → AllByRecursion (λ u. n < at_of u) ts → AllByRecursion (λ u. n < at_of u) (map f ts)
order_map f n [] s h = tt
order_map f n (t ∷ ts) s h = (subst (λ m. n < m) (sym (s.place t)) h.0, order_map f n ts s h.1)

tokenized_map : (f : Token → Token) (ts : List Token) → Stays f → AreTokenized ts → AreTokenized (map f ts)
tokenized_map f [] s h = record { order = tt; words = tt }
tokenized_map f (t ∷ ts) s h =
    let r = tokenized_map f ts s (record { order = h.order.1; words = h.words.1 }) in
    record {
      order = (subst (λ n. AllByRecursion (λ u. n < at_of u) (map f ts)) (sym (s.place t)) (order_map f (at_of t) ts s h.order.0), r.order);
      words = (s.word t h.words.0, r.words);
    }

dollars : Stays with_dollars_refused
dollars = record { place = λ t. place t; word = λ t e. word t e }
  where
    place_if : (b : Bool) (at : ℕ) (text : List ℕ) → at_of (if b then Refused at Unsupported else Word at text) ≡ at
    place_if true at text = refl
    place_if false at text = refl

    place : (t : Token) → at_of (with_dollars_refused t) ≡ at_of t
    place (Word at text) = place_if (list_any (λ b. b == 36) text && not (same_text text (codes "$F"))) at text
    place (Punctuation at s) = refl
    place (Refused at kind) = refl

    word_if : (b : Bool) (at : ℕ) (text : List ℕ) → is_word (codes "=") (Word at text) ≡ false → is_word (codes "=") (if b then Refused at Unsupported else Word at text) ≡ false
    word_if true at text e = refl
    word_if false at text e = e

    word : (t : Token) → is_word (codes "=") t ≡ false → is_word (codes "=") (with_dollars_refused t) ≡ false
    word (Word at text) e = word_if (list_any (λ b. b == 36) text && not (same_text text (codes "$F"))) at text e
    word (Punctuation at s) e = refl
    word (Refused at kind) e = refl

colons : Stays without_colon
colons = record { place = λ t. place t; word = λ t e. word t e }
  where
    place_if : (b : Bool) (at : ℕ) (s : Sign) → at_of (elim b [ true ↦ Refused at Unsupported | false ↦ Punctuation at s ]) ≡ at
    place_if true at s = refl
    place_if false at s = refl

    place : (t : Token) → at_of (without_colon t) ≡ at_of t
    place (Word at text) = refl
    place (Punctuation at s) = place_if (is_sign Colon (Punctuation at s)) at s
    place (Refused at kind) = refl

    word_if : (b : Bool) (at : ℕ) (s : Sign) → is_word (codes "=") (elim b [ true ↦ Refused at Unsupported | false ↦ Punctuation at s ]) ≡ false
    word_if true at s = refl
    word_if false at s = refl

    word : (t : Token) → is_word (codes "=") t ≡ false → is_word (codes "=") (without_colon t) ≡ false
    word (Word at text) e = e
    word (Punctuation at s) e = word_if (is_sign Colon (Punctuation at s)) at s
    word (Refused at kind) e = refl

pub problem_tokens_tokenized : (bytes : List ℕ) → AreTokenized (problem_tokens bytes)
problem_tokens_tokenized bytes =
    let h = tokenized_from 0 (blanked false (drop 0 bytes)) in
    tokenized_map without_colon (tokens bytes) colons (tokenized_map with_dollars_refused (tokens_from 0 (blanked false (drop 0 bytes))) dollars (record { order = h.order; words = h.words }))
