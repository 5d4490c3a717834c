-- The words of a text are names, but for `$F`.
use Rattle.std.proofs.Common.{◌≡◌, sym, ap, refl, ℕ, ◌+◌, Bool, true, false, List, [], ◌∷◌, map, drop, not}
use Rattle.std.specs.Prelude.{◌&&◌, ◌==◌, codes, if◌then◌else◌}
use Rattle.std.specs.List.{AllByRecursion, list_any, list_all}
use Rattle.std.specs.Cmp.Lexicographic.{bytes_decides}
use Rattle.sc_input_rules.specs.declared.token.Token.{Token}
use Rattle.sc_input_rules.specs.declared.token.Token.TheVariants.{Word, Punctuation, Refused}
use Rattle.sc_input_rules.specs.declared.token.Sign.{Sign}
use Rattle.sc_input_rules.specs.declared.token.Sign.TheVariants.{Unequal, Colon}
use Rattle.sc_input_rules.specs.declared.fault.InputKind.TheVariants.{Unsupported}
use Rattle.sc_input_rules.specs.Token.{is_sign, same_text}
use Rattle.sc_input_rules.specs.Tokens.{is_white, is_word_byte, blanked, sign_of, single, with_word_byte, with_exclamation, begins, with_byte, tokens_from, with_dollars_refused, tokens}
use Rattle.sc_input_rules.specs.Reading.{without_colon, problem_tokens}
use Rattle.sc_input_rules.proofs.Booleans.{both_hold, parts_hold, neither}
use Rattle.sc_text_laws.specs.Printable.{is_name_byte, is_name}

-- ---- words of bytes of words

abbrev HasWordBytes : List ℕ → Type 0
HasWordBytes [] = ⊥
HasWordBytes (b ∷ bs) = list_all is_word_byte (b ∷ bs) ≡ true

abbrev IsWordToken : Token → Type 0
IsWordToken (Word at text) = HasWordBytes text
IsWordToken (Punctuation at s) = Unit {0}
IsWordToken (Refused at kind) = Unit {0}

abbrev AreWordTokens : List Token → Type 0
AreWordTokens ts = AllByRecursion IsWordToken ts

longer : (b : ℕ) (text : List ℕ) → is_word_byte b ≡ true → HasWordBytes text → HasWordBytes (b ∷ text)
longer b [] e h = absurd h
longer b (c ∷ cs) e h = both_hold (is_word_byte b) (list_all is_word_byte (c ∷ cs)) e h

one_byte : (b : ℕ) → is_word_byte b ≡ true → HasWordBytes (b ∷ [])
one_byte b e = both_hold (is_word_byte b) true e refl

with_word_bytes : (at b : ℕ) (joins : Bool) (ts : List Token) → is_word_byte b ≡ true → AreWordTokens ts → AreWordTokens (with_word_byte at b joins ts)
with_word_bytes at b true [] e h = (one_byte b e, h)
with_word_bytes at b true (Word next text ∷ ts) e h = (longer b text e h.0, h.1)
with_word_bytes at b true (Punctuation n s ∷ ts) e h = (one_byte b e, h)
with_word_bytes at b true (Refused n kind ∷ ts) e h = (one_byte b e, h)
with_word_bytes at b false ts e h = (one_byte b e, h)

words_if : (b : Bool) (xs ys : List Token) → (b ≡ true → AreWordTokens xs) → AreWordTokens ys → AreWordTokens (if b then xs else ys)
words_if true xs ys h k = h refl
words_if false xs ys h k = k

one_single : (signs : List (ℕ × Sign)) (at b : ℕ) → IsWordToken (single signs at b)
one_single [] at b = tt
one_single (s ∷ signs) at b = by (b == s.0) (one_single signs at b)
  where
    by : (c : Bool) → IsWordToken (single signs at b) → IsWordToken (if c then Punctuation at s.1 else single signs at b)
    by true h = tt
    by false h = h

words_behind : (ts : List Token) → AreWordTokens ts → AreWordTokens (drop 1 ts)
words_behind [] h = h
words_behind (t ∷ ts) h = h.1

with_byte_words : (at b : ℕ) (next : List ℕ) (ts : List Token) → AreWordTokens ts → AreWordTokens (with_byte at b next ts)
with_byte_words at b next ts h =
    words_if (is_white b) ts
    (if is_word_byte b then with_word_byte at b (begins is_word_byte next) ts else if b == 33 then with_exclamation at (begins (λ c. c == 61) next) ts else (single sign_of at b ∷ ts))
    (λ e. h)
    (words_if (is_word_byte b) (with_word_byte at b (begins is_word_byte next) ts) (if b == 33 then with_exclamation at (begins (λ c. c == 61) next) ts else (single sign_of at b ∷ ts))
    (λ e. with_word_bytes at b (begins is_word_byte next) ts e h)
    (words_if (b == 33) (with_exclamation at (begins (λ c. c == 61) next) ts) (single sign_of at b ∷ ts)
    (λ e. words_if (begins (λ c. c == 61) next) (Punctuation at Unequal ∷ drop 1 ts) (Refused at Unsupported ∷ ts) (λ e. (tt, words_behind ts h)) (tt, h))
    (one_single sign_of at b, h)))

words_from : (at : ℕ) (bytes : List ℕ) → AreWordTokens (tokens_from at bytes)
words_from at [] = tt
words_from at (b ∷ bs) = with_byte_words at b bs (tokens_from (at + 1) bs) (words_from (at + 1) bs)

-- ---- names

-- a word other than `$F` is a name
abbrev pub IsNameToken : Token → Type 0
IsNameToken (Word at text) = same_text (codes "$F") text ≡ false → is_name text ≡ true
IsNameToken (Punctuation at s) = Unit {0}
IsNameToken (Refused at kind) = Unit {0}

without_dollar : (text : List ℕ) → list_all is_word_byte text ≡ true → list_any (λ b. b == 36) text ≡ false → list_all is_name_byte text ≡ true
without_dollar [] e k = refl
without_dollar (b ∷ bs) e k =
    let p = parts_hold (is_word_byte b) (list_all is_word_byte bs) e in
    let n = neither (b == 36) (list_any (λ b. b == 36) bs) k in
    both_hold (is_name_byte b) (list_all is_name_byte bs) (both_hold (is_word_byte b) (not (b == 36)) p.0 (ap not n.0)) (without_dollar bs p.1 n.1)

a_name : (text : List ℕ) → HasWordBytes text → list_any (λ b. b == 36) text ≡ false → is_name text ≡ true
a_name [] h k = absurd h
a_name (b ∷ bs) h k = without_dollar (b ∷ bs) h k

other_text : (text : List ℕ) → same_text (codes "$F") text ≡ false → same_text text (codes "$F") ≡ false
other_text text h = by (same_text text (codes "$F")) refl
  where
    by : (b : Bool) → same_text text (codes "$F") ≡ b → b ≡ false
    by true e =
        let is : text ≡ codes "$F" = (bytes_decides text (codes "$F")).0 e in
        let same : same_text (codes "$F") text ≡ true = (bytes_decides (codes "$F") text).1 (sym is) in
        cc
    by false e = refl

no_dollars : (t : Token) → IsWordToken t → IsNameToken (with_dollars_refused t)
no_dollars (Word at text) h = by (list_any (λ b. b == 36) text) (same_text text (codes "$F")) refl refl
  where
    by : (a b : Bool) → list_any (λ b. b == 36) text ≡ a → same_text text (codes "$F") ≡ b → IsNameToken (if a && not b then Refused at Unsupported else Word at text)
    by true true e k = λ other. let l = other_text text other in absurd cc
    by true false e k = tt
    by false b e k = λ other. a_name text h e
no_dollars (Punctuation at s) h = tt
no_dollars (Refused at kind) h = tt

no_colons : (t : Token) → IsNameToken t → IsNameToken (without_colon t)
no_colons (Word at text) h = h
no_colons (Punctuation at s) h = by (is_sign Colon (Punctuation at s))
  where
    by : (b : Bool) → IsNameToken (elim b [ true ↦ Refused at Unsupported | false ↦ Punctuation at s ])
    by true = tt
    by false = tt
no_colons (Refused at kind) h = tt

all_mapped : (P Q : Token → Type 0) (f : Token → Token) (ts : List Token) → ((t : Token) → P t → Q (f t)) → AllByRecursion P ts → AllByRecursion Q (map f ts)
all_mapped P Q f [] g h = tt
all_mapped P Q f (t ∷ ts) g h = (g t h.0, all_mapped P Q f ts g h.1)

pub problem_tokens_names : (bytes : List ℕ) → AllByRecursion IsNameToken (problem_tokens bytes)
problem_tokens_names bytes =
    all_mapped IsNameToken IsNameToken without_colon (tokens bytes) no_colons
    (all_mapped IsWordToken IsNameToken with_dollars_refused (tokens_from 0 (blanked false (drop 0 bytes))) no_dollars (words_from 0 (blanked false (drop 0 bytes))))
