-- What the first bytes of a text do to its tokens.
use Rattle.std.proofs.Common.{◌≡◌, refl, ap, sym, ◌∙◌, subst, ℕ, suc, ◌+◌, ◌-◌, ◌≤◌, ◌<◌, Bool, true, false, not, ◌&&◌, ◌||◌, List, [], ◌∷◌, ◌++◌, length, map, ◌==◌, cond, ◌⊎◌, inl, inr, arith, get_or, drop, length-append, length-drop, add-one, append_assoc, append-nil, Some, None}
use Rattle.std.proofs.Math.Seq.{drop-cons, drop-length}
use Rattle.std.specs.List.{list_all}
use Rattle.std.proofs.lemmas.Bool.{eqb-true}
use Rattle.sc_input_rules.specs.declared.token.Token.{Token}
use Rattle.sc_input_rules.specs.declared.token.Token.TheVariants.{Word, Punctuation}
use Rattle.sc_input_rules.specs.declared.token.Sign.{Sign}
use Rattle.sc_input_rules.specs.declared.token.Sign.TheVariants.{Unequal}
use Rattle.sc_input_rules.specs.Tokens.{is_one_of, is_white, is_word_byte, blanked, begins, with_byte, with_word_byte, with_exclamation, tokens_from, with_dollars_refused, single, sign_of, tokens_behind}
use Rattle.sc_input_scan.specs.Rest.{tokens_left, token_as, in_front}

-- ---- one byte

same_or_not : (b c : ℕ) → (b ≡ c) ⊎ ((b == c) ≡ false)
same_or_not b c =
    elim (b == c) as (λ v. (b == c) ≡ v → (b ≡ c) ⊎ ((b == c) ≡ false)) [ true ↦ λ e. inl (eqb-true b c e) | false ↦ λ e. inr e ] refl

unlike : (b c : ℕ) → (b ≡ c → ⊥) → (b == c) ≡ false
unlike b c apart = elim (same_or_not b c) [ inl e ↦ absurd (apart e) | inr e ↦ e ]

parts : (x y : Bool) → (x && y) ≡ true → (x ≡ true) × (y ≡ true)
parts true y e = (refl, e)
parts false y e = absurd cc

apart : (x : Bool) → not x ≡ true → x ≡ true → ⊥
apart true e h = cc
apart false e h = cc

-- a byte that passes a test is none of those that fail it
none_of : (test : ℕ → Bool) (bytes : List ℕ) (b : ℕ) → list_all (λ c. not (test c)) bytes ≡ true → test b ≡ true → is_one_of bytes b ≡ false
none_of test [] b fail pass = refl
none_of test (c ∷ cs) b fail pass =
    let both = parts (not (test c)) (list_all (λ d. not (test d)) cs) fail in
    elim (same_or_not b c) [
      | inl e ↦ absurd (apart (test c) both.0 (subst (λ (n : ℕ). test n ≡ true) e pass))
      | inr e ↦ rw e (none_of test cs b both.1 pass)
    ]

word_not_white : (b : ℕ) → is_word_byte b ≡ true → is_white b ≡ false
word_not_white b word = none_of is_word_byte (32 ∷ 9 ∷ 10 ∷ 13 ∷ 12 ∷ []) b refl word

passes_unlike : (test : ℕ → Bool) (b c : ℕ) → test c ≡ false → test b ≡ true → (b == c) ≡ false
passes_unlike test b c fail pass =
    elim (same_or_not b c) [
      | inl e ↦ let bad : test c ≡ true = subst (λ (n : ℕ). test n ≡ true) e pass in absurd cc
      | inr e ↦ e
    ]

if_true : {A : Type 0} (c : Bool) (x y : A) → c ≡ true → cond c x y ≡ x
if_true c x y e = rw e refl

if_false : {A : Type 0} (c : Bool) (x y : A) → c ≡ false → cond c x y ≡ y
if_false c x y e = rw e refl

-- ---- comments

plain : (x y : Bool) (b : ℕ) (bs : List ℕ) → y ≡ false → ((cond (not x && (false || y)) 32 b) ∷ blanked (not x && (false || y)) bs) ≡ b ∷ blanked false bs
plain true y b bs e = refl
plain false y b bs e = rw e refl

blanked_plain : (b : ℕ) (bs : List ℕ) → (b == 37) ≡ false → blanked false (b ∷ bs) ≡ b ∷ blanked false bs
blanked_plain b bs e = plain (b == 10) (b == 37) b bs e

blanked_inside : (b : ℕ) (bs : List ℕ) → (b == 10) ≡ false → blanked true (b ∷ bs) ≡ 32 ∷ blanked true bs
blanked_inside b bs e = rw e refl

begins_blanked : (test : ℕ → Bool) (bs : List ℕ) → test 37 ≡ false → test 32 ≡ false → begins test (blanked false bs) ≡ begins test bs
begins_blanked test [] percent space = refl
begins_blanked test (b ∷ bs) percent space =
    elim (same_or_not b 37) [
      | inl e ↦ subst (λ (n : ℕ). begins test (blanked false (n ∷ bs)) ≡ test n) (sym e) (space ∙ sym percent)
      | inr e ↦ ap (begins test) (blanked_plain b bs e)
    ]

-- ---- one token

with_white : (at b : ℕ) (next : List ℕ) (ts : List Token) → is_white b ≡ true → with_byte at b next ts ≡ ts
with_white at b next ts e = if_true (is_white b) ts _ e

with_word : (at b : ℕ) (next : List ℕ) (ts : List Token) → is_word_byte b ≡ true → with_byte at b next ts ≡ with_word_byte at b (begins is_word_byte next) ts
with_word at b next ts e = if_false (is_white b) ts _ (word_not_white b e) ∙ if_true (is_word_byte b) _ _ e

with_other : (at b : ℕ) (next : List ℕ) (ts : List Token) → is_white b ≡ false → is_word_byte b ≡ false
    → with_byte at b next ts ≡ cond (b == 33) (with_exclamation at (begins (λ c. c == 61) next) ts) (single sign_of at b ∷ ts)
with_other at b next ts white word = if_false (is_white b) ts _ white ∙ if_false (is_word_byte b) _ _ word

-- a byte of its own, where it isn't an exclamation mark before an equals sign
with_single : (at b : ℕ) (next : List ℕ) (ts : List Token) → is_white b ≡ false → is_word_byte b ≡ false
    → ((b == 33) && begins (λ c. c == 61) next) ≡ false → with_byte at b next ts ≡ single sign_of at b ∷ ts
with_single at b next ts white word lone =
    with_other at b next ts white word ∙
    elim (same_or_not b 33) [
      | inl e ↦
          subst (λ (n : ℕ). ((n == 33) && begins (λ c. c == 61) next) ≡ false
          → cond (n == 33) (with_exclamation at (begins (λ c. c == 61) next) ts) (single sign_of at n ∷ ts) ≡ single sign_of at n ∷ ts)
          (sym e) (λ h. if_false (begins (λ c. c == 61) next) _ _ h) lone
      | inr e ↦ if_false (b == 33) _ _ e
    ]

word_ends : (at b : ℕ) (ts : List Token) → with_word_byte at b false ts ≡ Word at (b ∷ []) ∷ ts
word_ends at b ts = refl

-- the longest run of bytes of words is one token
word_run : (at b : ℕ) (bs rest : List ℕ) → list_all is_word_byte (b ∷ bs) ≡ true → begins is_word_byte rest ≡ false
    → tokens_from at (blanked false ((b ∷ bs) ++ rest)) ≡ Word at (b ∷ bs) ∷ tokens_from (at + length (b ∷ bs)) (blanked false rest)
word_run at b [] rest all ends =
    let word : is_word_byte b ≡ true = (parts (is_word_byte b) true all).0 in
    ap (tokens_from at) (blanked_plain b rest (passes_unlike is_word_byte b 37 refl word))
    ∙ with_word at b (blanked false rest) (tokens_from (at + 1) (blanked false rest)) word
    ∙ ap (λ (v : Bool). with_word_byte at b v (tokens_from (at + 1) (blanked false rest))) (begins_blanked is_word_byte rest refl refl ∙ ends)
word_run at b (c ∷ cs) rest all ends =
    let both = parts (is_word_byte b) (list_all is_word_byte (c ∷ cs)) all in
    let next : begins is_word_byte (blanked false ((c ∷ cs) ++ rest)) ≡ true =
    begins_blanked is_word_byte ((c ∷ cs) ++ rest) refl refl ∙ (parts (is_word_byte c) (list_all is_word_byte cs) both.1).0 in
    let place : (at + 1) + length (c ∷ cs) ≡ at + length (b ∷ c ∷ cs) = omega arith in
    ap (tokens_from at) (blanked_plain b ((c ∷ cs) ++ rest) (passes_unlike is_word_byte b 37 refl both.0))
    ∙ with_word at b (blanked false ((c ∷ cs) ++ rest)) (tokens_from (at + 1) (blanked false ((c ∷ cs) ++ rest))) both.0
    ∙ ap (λ (v : Bool). with_word_byte at b v (tokens_from (at + 1) (blanked false ((c ∷ cs) ++ rest)))) next
    ∙ ap (with_word_byte at b true) (word_run (at + 1) c cs rest both.1 ends)
    ∙ ap (λ (n : ℕ). Word at (b ∷ c ∷ cs) ∷ tokens_from n (blanked false rest)) place

single_kept : (signs : List (ℕ × Sign)) (at b : ℕ) → with_dollars_refused (single signs at b) ≡ single signs at b
single_kept [] at b = refl
single_kept (s ∷ signs) at b =
    elim (b == s.0) as (λ v. with_dollars_refused (cond v (Punctuation at s.1) (single signs at b)) ≡ cond v (Punctuation at s.1) (single signs at b)) [
      | true ↦ refl
      | false ↦ single_kept signs at b
    ]

-- ---- the tokens of what is left, by its first bytes

place : (total b : ℕ) (bs : List ℕ) → length (b ∷ bs) ≤ total → (total - length (b ∷ bs)) + 1 ≡ total - length bs
place total b bs within = omega arith

moved : (in_comment : Bool) (total b : ℕ) (bs : List ℕ) → length (b ∷ bs) ≤ total
    → map with_dollars_refused (tokens_from ((total - length (b ∷ bs)) + 1) (blanked in_comment bs)) ≡ tokens_left in_comment total bs
unfolding tokens_left
moved in_comment total b bs within = ap (λ (n : ℕ). map with_dollars_refused (tokens_from n (blanked in_comment bs))) (place total b bs within)

pub white_left : (total b : ℕ) (bs : List ℕ) → length (b ∷ bs) ≤ total → is_white b ≡ true → tokens_left false total (b ∷ bs) ≡ tokens_left false total bs
unfolding tokens_left
white_left total b bs within white =
    ap (λ (cs : List ℕ). map with_dollars_refused (tokens_from (total - length (b ∷ bs)) cs)) (blanked_plain b bs (passes_unlike is_white b 37 refl white))
    ∙ ap (map with_dollars_refused) (with_white (total - length (b ∷ bs)) b (blanked false bs) (tokens_from ((total - length (b ∷ bs)) + 1) (blanked false bs)) white)
    ∙ moved false total b bs within

pub comment_left : (total : ℕ) (bs : List ℕ) → length (37 ∷ bs) ≤ total → tokens_left false total (37 ∷ bs) ≡ tokens_left true total bs
unfolding tokens_left
comment_left total bs within = moved true total 37 bs within

pub inside_left : (total b : ℕ) (bs : List ℕ) → length (b ∷ bs) ≤ total → (b == 10) ≡ false → tokens_left true total (b ∷ bs) ≡ tokens_left true total bs
unfolding tokens_left
inside_left total b bs within inside =
    ap (λ (cs : List ℕ). map with_dollars_refused (tokens_from (total - length (b ∷ bs)) cs)) (blanked_inside b bs inside)
    ∙ moved true total b bs within

pub line_left : (total : ℕ) (bs : List ℕ) → tokens_left true total (10 ∷ bs) ≡ tokens_left false total (10 ∷ bs)
unfolding tokens_left
line_left total bs = refl

pub nothing_left : (in_comment : Bool) (total : ℕ) → tokens_left in_comment total [] ≡ []
unfolding tokens_left
nothing_left in_comment total = refl

pub unequal_left : (total : ℕ) (bs : List ℕ) → length (33 ∷ 61 ∷ bs) ≤ total
    → tokens_left false total (33 ∷ 61 ∷ bs) ≡ Punctuation (total - length (33 ∷ 61 ∷ bs)) Unequal ∷ tokens_left false total bs
unfolding tokens_left
unequal_left total bs within =
    let n : ((total - length (33 ∷ 61 ∷ bs)) + 1) + 1 ≡ total - length bs = omega arith in
    ap (λ (n : ℕ). Punctuation (total - length (33 ∷ 61 ∷ bs)) Unequal ∷ map with_dollars_refused (tokens_from n (blanked false bs))) n

pub single_left : (total b : ℕ) (bs : List ℕ) → length (b ∷ bs) ≤ total → is_white b ≡ false → is_word_byte b ≡ false → (b == 37) ≡ false
    → ((b == 33) && begins (λ c. c == 61) bs) ≡ false
    → tokens_left false total (b ∷ bs) ≡ single sign_of (total - length (b ∷ bs)) b ∷ tokens_left false total bs
unfolding tokens_left
single_left total b bs within white word percent lone =
    let at = total - length (b ∷ bs) in
    let next : ((b == 33) && begins (λ c. c == 61) (blanked false bs)) ≡ false = ap (λ (v : Bool). (b == 33) && v) (begins_blanked (λ c. c == 61) bs refl refl) ∙ lone in
    ap (λ (cs : List ℕ). map with_dollars_refused (tokens_from at cs)) (blanked_plain b bs percent)
    ∙ ap (map with_dollars_refused) (with_single at b (blanked false bs) (tokens_from (at + 1) (blanked false bs)) white word next)
    ∙ ap (λ (t : Token). t ∷ map with_dollars_refused (tokens_from (at + 1) (blanked false bs))) (single_kept sign_of at b)
    ∙ ap (λ (ts : List Token). single sign_of at b ∷ ts) (moved false total b bs within)

pub word_left : (total b : ℕ) (bs rest : List ℕ) → length ((b ∷ bs) ++ rest) ≤ total → list_all is_word_byte (b ∷ bs) ≡ true → begins is_word_byte rest ≡ false
    → tokens_left false total ((b ∷ bs) ++ rest) ≡ with_dollars_refused (Word (total - length ((b ∷ bs) ++ rest)) (b ∷ bs)) ∷ tokens_left false total rest
unfolding tokens_left
word_left total b bs rest within all ends =
    let at = total - length ((b ∷ bs) ++ rest) in
    let n : at + length (b ∷ bs) ≡ total - length rest = omega (arith, length-append bs rest) in
    ap (map with_dollars_refused) (word_run at b bs rest all ends)
    ∙ ap (λ (n : ℕ). with_dollars_refused (Word at (b ∷ bs)) ∷ map with_dollars_refused (tokens_from n (blanked false rest))) n

-- ---- the same by the first byte and those behind it

pub single_first : (total b : ℕ) (all others : List ℕ) (t : Token) → all ≡ b ∷ others → length all ≤ total → is_white b ≡ false → is_word_byte b ≡ false
    → (b ≡ 37 → ⊥) → (b == 33 && begins (λ c. c == 61) others) ≡ false → t ≡ single sign_of (total - length all) b
    → tokens_left false total all ≡ t ∷ tokens_left false total others
single_first total b all others t first within white word percent lone token =
    rw (token, first) (single_left total b others (subst (λ (bs : List ℕ). length bs ≤ total) first within) white word (unlike b 37 percent) lone)

pub word_first : (total b : ℕ) (all others word behind : List ℕ) (t : Token) → all ≡ b ∷ others → all ≡ word ++ behind → length all ≤ total
    → is_word_byte b ≡ true → list_all is_word_byte word ≡ true → begins is_word_byte behind ≡ false
    → t ≡ with_dollars_refused (Word (total - length all) word) → tokens_left false total all ≡ t ∷ tokens_left false total behind
word_first total b all others [] behind t first whole within is_word each ends token =
    let same : b ∷ others ≡ behind = sym first ∙ whole in
    let bad : is_word_byte b ≡ false = ap (begins is_word_byte) same ∙ ends in
    absurd cc
word_first total b all others (c ∷ cs) behind t first whole within is_word each ends token =
    rw (token, whole) (word_left total c cs behind (subst (λ (bs : List ℕ). length bs ≤ total) whole within) each ends)

-- ---- the same at an index

pub inside_at : (total i : ℕ) (bs : List ℕ) → i < length bs → length bs ≤ total → (get_or bs i 0 == 10) ≡ false
    → tokens_left true total (drop i bs) ≡ tokens_left true total (drop (i + 1) bs)
inside_at total i bs below within inside =
    rw (drop-cons bs i 0 below, add-one)
    (inside_left total (get_or bs i 0) (drop (suc i) bs) (omega (arith, length-drop (suc i) bs)) inside)

pub line_at : (total i : ℕ) (bs : List ℕ) → i < length bs → get_or bs i 0 ≡ 10 → tokens_left true total (drop i bs) ≡ tokens_left false total (drop i bs)
line_at total i bs below line = rw (drop-cons bs i 0 below, line) (line_left total (drop (suc i) bs))

pub end_at : (total : ℕ) (bs : List ℕ) → tokens_left true total (drop (length bs) bs) ≡ tokens_left false total (drop (length bs) bs)
end_at total bs = rw (drop-length bs) (nothing_left true total ∙ sym (nothing_left false total))

pub ruleset comments = (inside_at, line_at, end_at)

-- ---- all tokens

pub all_left : (at : ℕ) (bytes : List ℕ) → at ≤ length bytes → tokens_left false (length bytes) (drop at bytes) ≡ tokens_behind at bytes
unfolding tokens_left
all_left at bytes within =
    let n : length bytes - length (drop at bytes) ≡ at = omega (arith, length-drop at bytes) in
    ap (λ (n : ℕ). map with_dollars_refused (tokens_from n (blanked false (drop at bytes)))) n

pub with_colons : (ts : List Token) → map (token_as true) ts ≡ ts
with_colons [] = refl
with_colons (t ∷ ts) = ap (λ (us : List Token). t ∷ us) (with_colons ts)

-- one turn: the token that was found goes behind those so far
pub found_none : (f : Token → Token) (ts left next all : List Token) → ts ++ map f left ≡ all → left ≡ in_front None next → ts ++ map f next ≡ all
found_none f ts left next all sofar e = rw e at sofar

pub found_one : (f : Token → Token) (ts left next all us : List Token) (t : Token) → ts ++ map f left ≡ all → left ≡ in_front (Some t) next → us ≡ ts ++ f t ∷ [] → us ++ map f next ≡ all
found_one f ts left next all us t sofar e pushed = rw (pushed, append_assoc) (rw e at sofar)

pub nothing_more : (f : Token → Token) (total : ℕ) (ts all : List Token) (rest : List ℕ) → ts ++ map f (tokens_left false total rest) ≡ all → (length rest == 0) ≡ true → ts ≡ all
nothing_more f total ts all [] sofar e = sym (append-nil ts) ∙ ap (λ (us : List Token). ts ++ map f us) (sym (nothing_left false total)) ∙ sofar
nothing_more f total ts all (b ∷ bs) sofar e = let bad : length (b ∷ bs) ≡ 0 = eqb-true (length (b ∷ bs)) 0 e in absurd (omega arith)

pub ruleset turns = (all_left)

pub ruleset pieces = (white_left, comment_left, unequal_left)
