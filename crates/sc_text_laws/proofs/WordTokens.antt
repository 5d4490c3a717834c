-- The tokens of a text whose first word, sign or white byte is known.
use Rattle.std.proofs.Common.{◌≡◌, ◌∙◌, sym, ap, refl, ℕ, ◌+◌, Bool, true, false, List, [], ◌∷◌, ◌++◌, map, drop, ◌||◌, not}
use Rattle.std.specs.Prelude.{◌&&◌, ◌==◌, if◌then◌else◌, codes}
use Rattle.std.specs.List.{list_any, list_all}
use Rattle.std.proofs.lemmas.Bool.{eqb-true}
use Rattle.sc_input_rules.specs.declared.token.Token.{Token}
use Rattle.sc_input_rules.specs.declared.token.Token.TheVariants.{Word, Punctuation, Refused}
use Rattle.sc_input_rules.specs.declared.fault.InputKind.TheVariants.{Unsupported}
use Rattle.sc_input_rules.specs.declared.token.Sign.TheVariants.{Open, Close, Comma, Stop, Bar, Minus, Equal, Unequal, Colon}
use Rattle.sc_input_rules.specs.Token.{same_text}
use Rattle.sc_input_rules.specs.Tokens.{is_white, is_word_byte, blanked, sign_of, single, with_word_byte, with_exclamation, begins, with_byte, tokens_from, with_dollars_refused, tokens_behind}
use Rattle.sc_input_rules.proofs.Booleans.{both_hold, parts_hold}
use Rattle.sc_text_laws.specs.Printable.{is_name_byte, is_name}

-- the tokens of the bytes, the first of which is this one of a text
pub tokens_at : ℕ → List ℕ → List Token
tokens_at at bytes = map with_dollars_refused (tokens_from at (blanked false bytes))

pub from_byte : (at : ℕ) (bytes : List ℕ) → tokens_behind at bytes ≡ tokens_at at (drop at bytes)
unfolding tokens_at
from_byte at bytes = refl

-- ---- signs and white space

pub open_token : (at : ℕ) (rest : List ℕ) → tokens_at at (40 ∷ rest) ≡ Punctuation at Open ∷ tokens_at (at + 1) rest
unfolding tokens_at
open_token at rest = refl

pub close_token : (at : ℕ) (rest : List ℕ) → tokens_at at (41 ∷ rest) ≡ Punctuation at Close ∷ tokens_at (at + 1) rest
unfolding tokens_at
close_token at rest = refl

pub comma_token : (at : ℕ) (rest : List ℕ) → tokens_at at (44 ∷ rest) ≡ Punctuation at Comma ∷ tokens_at (at + 1) rest
unfolding tokens_at
comma_token at rest = refl

pub stop_token : (at : ℕ) (rest : List ℕ) → tokens_at at (46 ∷ rest) ≡ Punctuation at Stop ∷ tokens_at (at + 1) rest
unfolding tokens_at
stop_token at rest = refl

pub bar_token : (at : ℕ) (rest : List ℕ) → tokens_at at (124 ∷ rest) ≡ Punctuation at Bar ∷ tokens_at (at + 1) rest
unfolding tokens_at
bar_token at rest = refl

pub minus_token : (at : ℕ) (rest : List ℕ) → tokens_at at (45 ∷ rest) ≡ Punctuation at Minus ∷ tokens_at (at + 1) rest
unfolding tokens_at
minus_token at rest = refl

pub equal_token : (at : ℕ) (rest : List ℕ) → tokens_at at (61 ∷ rest) ≡ Punctuation at Equal ∷ tokens_at (at + 1) rest
unfolding tokens_at
equal_token at rest = refl

pub unequal_token : (at : ℕ) (rest : List ℕ) → tokens_at at (33 ∷ 61 ∷ rest) ≡ Punctuation at Unequal ∷ tokens_at (at + 1 + 1) rest
unfolding tokens_at
unequal_token at rest = refl

pub colon_token : (at : ℕ) (rest : List ℕ) → tokens_at at (58 ∷ rest) ≡ Punctuation at Colon ∷ tokens_at (at + 1) rest
unfolding tokens_at
colon_token at rest = refl

pub space_token : (at : ℕ) (rest : List ℕ) → tokens_at at (32 ∷ rest) ≡ tokens_at (at + 1) rest
unfolding tokens_at
space_token at rest = refl

pub line_feed_token : (at : ℕ) (rest : List ℕ) → tokens_at at (10 ∷ rest) ≡ tokens_at (at + 1) rest
unfolding tokens_at
line_feed_token at rest = refl

pub no_token : (at : ℕ) → tokens_at at [] ≡ []
unfolding tokens_at
no_token at = refl

-- ---- bytes of a word

-- a byte of a name is none that isn't
other_byte : (c b : ℕ) → is_word_byte c ≡ false → is_word_byte b ≡ true → (b == c) ≡ false
other_byte c b other e = by (b == c) refl
  where
    by : (d : Bool) → (b == c) ≡ d → d ≡ false
    by true h =
        let is : b ≡ c = eqb-true b c h in
        let same : is_word_byte b ≡ is_word_byte c = ap is_word_byte is in
        cc
    by false h = refl

not_white : (b : ℕ) → is_word_byte b ≡ true → is_white b ≡ false
not_white b e =
    let s = other_byte 32 b refl e in
    let t = other_byte 9 b refl e in
    let l = other_byte 10 b refl e in
    let r = other_byte 13 b refl e in
    let f = other_byte 12 b refl e in
    (λ i. s i || (t i || (l i || (r i || (f i || false)))))

not_hidden : (b : ℕ) → is_word_byte b ≡ true → (not (b == 10) && (false || b == 37)) ≡ false
not_hidden b e =
    let l = other_byte 10 b refl e in
    let c = other_byte 37 b refl e in
    (λ i. not (l i) && (false || c i))

blanked_keeps : (b : ℕ) (bs : List ℕ) → is_word_byte b ≡ true → blanked false (b ∷ bs) ≡ b ∷ blanked false bs
blanked_keeps b bs e = ap (λ (h : Bool). (if h then 32 else b) ∷ blanked h bs) (not_hidden b e)

-- no byte of a word begins the bytes
abbrev pub Breaks : List ℕ → Type 0
Breaks rest = begins is_word_byte rest ≡ false

breaks_blanked : (rest : List ℕ) → Breaks rest → Breaks (blanked false rest)
breaks_blanked [] e = refl
breaks_blanked (c ∷ cs) e = by (not (c == 10) && (false || c == 37))
  where
    by : (h : Bool) → is_word_byte (if h then 32 else c) ≡ false
    by true = refl
    by false = e

-- ---- words

raw : ℕ → List ℕ → List Token
raw at bytes = tokens_from at (blanked false bytes)

with_word : (at b : ℕ) (next : List ℕ) (ts : List Token) → is_word_byte b ≡ true → with_byte at b next ts ≡ with_word_byte at b (begins is_word_byte next) ts
with_word at b next ts e =
    let other = if b == 33 then with_exclamation at (begins (λ c. c == 61) next) ts else (single sign_of at b ∷ ts) in
    ap (λ (w : Bool). if w then ts else (if is_word_byte b then with_word_byte at b (begins is_word_byte next) ts else other)) (not_white b e)
    ∙ ap (λ (w : Bool). if w then with_word_byte at b (begins is_word_byte next) ts else other) e

-- the byte behind them
abbrev pub past : List ℕ → ℕ → ℕ
past [] at = at
past (b ∷ bs) at = past bs (at + 1)

raw_byte : (at b : ℕ) (bs : List ℕ) → is_word_byte b ≡ true → raw at (b ∷ bs) ≡ with_word_byte at b (begins is_word_byte (blanked false bs)) (raw (at + 1) bs)
unfolding raw
raw_byte at b bs e = ap (tokens_from at) (blanked_keeps b bs e) ∙ with_word at b (blanked false bs) (tokens_from (at + 1) (blanked false bs)) e

raw_word : (at b : ℕ) (bs rest : List ℕ) → is_word_byte b ≡ true → list_all is_word_byte bs ≡ true → Breaks rest → raw at (b ∷ bs ++ rest) ≡ Word at (b ∷ bs) ∷ raw (past bs (at + 1)) rest
raw_word at b [] rest e k breaks =
    raw_byte at b rest e ∙ ap (λ (j : Bool). with_word_byte at b j (raw (at + 1) rest)) (breaks_blanked rest breaks)
raw_word at b (c ∷ cs) rest e k breaks =
    let p = parts_hold (is_word_byte c) (list_all is_word_byte cs) k in
    let joins : begins is_word_byte (blanked false (c ∷ cs ++ rest)) ≡ true = ap (begins is_word_byte) (blanked_keeps c (cs ++ rest) p.0) ∙ p.0 in
    raw_byte at b (c ∷ cs ++ rest) e
    ∙ (λ i. with_word_byte at b (joins i) (raw_word (at + 1) c cs rest p.0 p.1 breaks i))

-- ---- words that aren't refused

word_bytes : (bs : List ℕ) → list_all is_name_byte bs ≡ true → list_all is_word_byte bs ≡ true
word_bytes [] e = refl
word_bytes (b ∷ bs) e =
    let p = parts_hold (is_name_byte b) (list_all is_name_byte bs) e in
    let w = parts_hold (is_word_byte b) (not (b == 36)) p.0 in
    both_hold (is_word_byte b) (list_all is_word_byte bs) w.0 (word_bytes bs p.1)

no_dollar : (bs : List ℕ) → list_all is_name_byte bs ≡ true → list_any (λ b. b == 36) bs ≡ false
no_dollar [] e = refl
no_dollar (b ∷ bs) e =
    let p = parts_hold (is_name_byte b) (list_all is_name_byte bs) e in
    let w = parts_hold (is_word_byte b) (not (b == 36)) p.0 in
    let d : (b == 36) ≡ false = by (b == 36) w.1 in
    (λ i. d i || no_dollar bs p.1 i)
  where
    by : (c : Bool) → not c ≡ true → c ≡ false
    by true h = absurd cc
    by false h = refl

pub word_token : (at : ℕ) (w rest : List ℕ) → is_name w ≡ true → Breaks rest → tokens_at at (w ++ rest) ≡ Word at w ∷ tokens_at (past w at) rest
unfolding tokens_at raw
word_token at [] rest e breaks = absurd cc
word_token at (b ∷ bs) rest e breaks =
    let all = word_bytes (b ∷ bs) e in
    let p = parts_hold (is_word_byte b) (list_all is_word_byte bs) all in
    ap (map with_dollars_refused) (raw_word at b bs rest p.0 p.1 breaks)
    ∙ ap (λ (d : Bool). (if d && not (same_text (b ∷ bs) (codes "$F")) then Refused at Unsupported else Word at (b ∷ bs)) ∷ tokens_at (past bs (at + 1)) rest) (no_dollar (b ∷ bs) e)

-- the word for the empty clause, which is no name
pub falsum_token : (at : ℕ) (rest : List ℕ) → Breaks rest → tokens_at at (codes "$F" ++ rest) ≡ Word at (codes "$F") ∷ tokens_at (past (codes "$F") at) rest
unfolding tokens_at raw
falsum_token at rest breaks = ap (map with_dollars_refused) (raw_word at 36 (70 ∷ []) rest refl refl breaks)

pub name_is_not_falsum : (w : List ℕ) → is_name w ≡ true → same_text (codes "$F") w ≡ false
name_is_not_falsum [] e = refl
name_is_not_falsum (b ∷ bs) e = by (36 == b) refl
  where
    by : (c : Bool) → (36 == b) ≡ c → (c && same_text (70 ∷ []) bs) ≡ false
    by true h =
        let is : 36 ≡ b = eqb-true 36 b h in
        let p = parts_hold (is_name_byte b) (list_all is_name_byte bs) e in
        let no_name : is_name_byte b ≡ false = ap is_name_byte (sym is) in
        absurd cc
    by false h = refl
