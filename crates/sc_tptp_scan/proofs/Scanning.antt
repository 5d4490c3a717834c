-- What the first bytes of a text do to its tokens.
use Rattle.std.proofs.Common.{◌≡◌, refl, ap, sym, ◌∙◌, subst, ℕ, suc, ◌+◌, ◌-◌, ◌≤◌, ◌<◌, Bool, true, false, not, ◌&&◌, List, [], ◌∷◌, ◌++◌, length, ◌==◌, cond, ◌⊎◌, inl, inr, arith, length-append, Some, None, Option}
use Rattle.std.specs.List.{list_all}
use Rattle.std.proofs.lemmas.Bool.{eqb-true}
use Rattle.sc_input_rules.specs.declared.fault.InputKind.{InputKind}
use Rattle.sc_input_rules.specs.declared.token.Token.{Token}
use Rattle.sc_input_rules.specs.declared.token.Token.TheVariants.{Word, Punctuation, Refused}
use Rattle.sc_input_rules.specs.declared.token.Sign.TheVariants.{Unequal}
use Rattle.sc_input_rules.specs.Tokens.{is_one_of, is_white, is_word_byte, begins, with_word_byte, with_exclamation, single}
use Rattle.sc_input_scan.specs.Rest.{in_front}
use Rattle.sc_tptp_rules.specs.CnfTokens as spec
use Rattle.sc_tptp_scan.specs.declared.region.Region.{Region}
use Rattle.sc_tptp_scan.specs.declared.region.Region.TheVariants.{Outside, InLine, AtOpening, InComment, AtClosing, InQuotes}
use Rattle.sc_tptp_scan.specs.Left.{region_of, is_gap, tokens_left, stopped_by}

-- ---- one byte

same_or_not : (b c : ℕ) → (b ≡ c) ⊎ ((b == c) ≡ false)
same_or_not b c =
    elim (b == c) as (λ v. (b == c) ≡ v → (b ≡ c) ⊎ ((b == c) ≡ false)) [ true ↦ λ e. inl (eqb-true b c e) | false ↦ λ e. inr e ] refl

parts : (x y : Bool) → (x && y) ≡ true → (x ≡ true) × (y ≡ true)
parts true y e = (refl, e)
parts false y e = absurd cc

apart : (x : Bool) → not x ≡ true → x ≡ true → ⊥
apart true e h = cc
apart false e h = cc

-- a byte that passes a test is none of those that fail it
none_of : (test : ℕ → Bool) (bytes : List ℕ) (b : ℕ) → list_all (λ c. not (test c)) bytes ≡ true → test b ≡ true → is_one_of bytes b ≡ false
none_of test [] b fail pass = refl
none_of test (c ∷ cs) b fail pass =
    let both = parts (not (test c)) (list_all (λ d. not (test d)) cs) fail in
    elim (same_or_not b c) [
      | inl e ↦ absurd (apart (test c) both.0 (subst (λ (n : ℕ). test n ≡ true) e pass))
      | inr e ↦ rw e (none_of test cs b both.1 pass)
    ]

word_not_white : (b : ℕ) → is_word_byte b ≡ true → is_white b ≡ false
word_not_white b word = none_of is_word_byte (32 ∷ 9 ∷ 10 ∷ 13 ∷ 12 ∷ []) b refl word

passes_unlike : (test : ℕ → Bool) (b c : ℕ) → test c ≡ false → test b ≡ true → (b == c) ≡ false
passes_unlike test b c fail pass =
    elim (same_or_not b c) [
      | inl e ↦ let bad : test c ≡ true = subst (λ (n : ℕ). test n ≡ true) e pass in absurd cc
      | inr e ↦ e
    ]

if_true : {A : Type 0} (c : Bool) (x y : A) → c ≡ true → cond c x y ≡ x
if_true c x y e = rw e refl

if_false : {A : Type 0} (c : Bool) (x y : A) → c ≡ false → cond c x y ≡ y
if_false c x y e = rw e refl

no_opening : (b : ℕ) (next : List ℕ) → (b == 47) ≡ false → (b == 47 && begins (λ c. c == 42) next) ≡ false
no_opening b next e = ap (λ (v : Bool). v && begins (λ c. c == 42) next) e

-- ---- a byte among tokens

with_word : (at b : ℕ) (next : List ℕ) (ts : List Token) → is_word_byte b ≡ true
    → spec.with_byte_outside at b next ts ≡ with_word_byte at b (begins is_word_byte next) ts
with_word at b next ts word =
    if_false (is_white b) ts _ (word_not_white b word)
    ∙ if_false (b == 37) ts _ (passes_unlike is_word_byte b 37 refl word)
    ∙ if_false (b == 39) (Word at spec.quoted ∷ ts) _ (passes_unlike is_word_byte b 39 refl word)
    ∙ if_false (b == 47 && begins (λ c. c == 42) next) ts _ (no_opening b next (passes_unlike is_word_byte b 47 refl word))
    ∙ if_true (is_word_byte b) _ _ word

region_word : (b : ℕ) (next : List ℕ) → is_word_byte b ≡ true → spec.region_outside b next ≡ spec.Outside
region_word b next word =
    if_false (b == 37) spec.InLine _ (passes_unlike is_word_byte b 37 refl word)
    ∙ if_false (b == 39) spec.InQuotes _ (passes_unlike is_word_byte b 39 refl word)
    ∙ if_false (b == 47 && begins (λ c. c == 42) next) spec.AtOpening _ (no_opening b next (passes_unlike is_word_byte b 47 refl word))

-- the longest run of bytes of words is one token
word_run : (at b : ℕ) (bs rest : List ℕ) → list_all is_word_byte (b ∷ bs) ≡ true → begins is_word_byte rest ≡ false
    → spec.tokens_in spec.Outside at ((b ∷ bs) ++ rest) ≡ Word at (b ∷ bs) ∷ spec.tokens_in spec.Outside (at + length (b ∷ bs)) rest
word_run at b [] rest all ends =
    let word : is_word_byte b ≡ true = (parts (is_word_byte b) true all).0 in
    with_word at b rest (spec.tokens_in (spec.region_outside b rest) (at + 1) rest) word
    ∙ ap (λ (v : Bool). with_word_byte at b v (spec.tokens_in (spec.region_outside b rest) (at + 1) rest)) ends
    ∙ ap (λ (r : spec.Region). Word at (b ∷ []) ∷ spec.tokens_in r (at + 1) rest) (region_word b rest word)
word_run at b (c ∷ cs) rest all ends =
    let both = parts (is_word_byte b) (list_all is_word_byte (c ∷ cs)) all in
    let next : begins is_word_byte ((c ∷ cs) ++ rest) ≡ true = (parts (is_word_byte c) (list_all is_word_byte cs) both.1).0 in
    let place : (at + 1) + length (c ∷ cs) ≡ at + length (b ∷ c ∷ cs) = omega arith in
    with_word at b ((c ∷ cs) ++ rest) (spec.tokens_in (spec.region_outside b ((c ∷ cs) ++ rest)) (at + 1) ((c ∷ cs) ++ rest)) both.0
    ∙ ap (λ (v : Bool). with_word_byte at b v (spec.tokens_in (spec.region_outside b ((c ∷ cs) ++ rest)) (at + 1) ((c ∷ cs) ++ rest))) next
    ∙ ap (λ (r : spec.Region). with_word_byte at b true (spec.tokens_in r (at + 1) ((c ∷ cs) ++ rest))) (region_word b ((c ∷ cs) ++ rest) both.0)
    ∙ ap (with_word_byte at b true) (word_run (at + 1) c cs rest both.1 ends)
    ∙ ap (λ (n : ℕ). Word at (b ∷ c ∷ cs) ∷ spec.tokens_in spec.Outside n rest) place

-- ---- the tokens of what is left, by its first bytes

place : (total b : ℕ) (bs : List ℕ) → length (b ∷ bs) ≤ total → (total - length (b ∷ bs)) + 1 ≡ total - length bs
place total b bs within = omega arith

word_left : (total b : ℕ) (bs rest : List ℕ) → length ((b ∷ bs) ++ rest) ≤ total → list_all is_word_byte (b ∷ bs) ≡ true → begins is_word_byte rest ≡ false
    → tokens_left Outside total ((b ∷ bs) ++ rest) ≡ Word (total - length ((b ∷ bs) ++ rest)) (b ∷ bs) ∷ tokens_left Outside total rest
unfolding tokens_left
word_left total b bs rest within all ends =
    let at = total - length ((b ∷ bs) ++ rest) in
    let n : at + length (b ∷ bs) ≡ total - length rest = omega (arith, length-append bs rest) in
    word_run at b bs rest all ends ∙ ap (λ (n : ℕ). Word at (b ∷ bs) ∷ spec.tokens_in spec.Outside n rest) n

unequal_left : (total : ℕ) (bs : List ℕ) → length (33 ∷ 61 ∷ bs) ≤ total
    → tokens_left Outside total (33 ∷ 61 ∷ bs) ≡ Punctuation (total - length (33 ∷ 61 ∷ bs)) Unequal ∷ tokens_left Outside total bs
unfolding tokens_left
unequal_left total bs within =
    let n : ((total - length (33 ∷ 61 ∷ bs)) + 1) + 1 ≡ total - length bs = omega arith in
    ap (λ (n : ℕ). Punctuation (total - length (33 ∷ 61 ∷ bs)) Unequal ∷ spec.tokens_in spec.Outside n bs) n

byte_told : (region next : Region) (total b : ℕ) (others : List ℕ) (found : Option Token) → length (b ∷ others) ≤ total
    → ((ts : List Token) → spec.with_cnf_byte (region_of region) (total - length (b ∷ others)) b others ts ≡ in_front found ts)
    → region_of next ≡ spec.region_behind (region_of region) b others
    → tokens_left region total (b ∷ others) ≡ in_front found (tokens_left next total others)
unfolding tokens_left
byte_told region next total b others found within told behind =
    let at = total - length (b ∷ others) in
    told (spec.tokens_in (spec.region_behind (region_of region) b others) (at + 1) others)
    ∙ ap (λ (r : spec.Region). in_front found (spec.tokens_in r (at + 1) others)) (sym behind)
    ∙ ap (λ (n : ℕ). in_front found (spec.tokens_in (region_of next) n others)) (place total b others within)

fault_told : (total b : ℕ) (others : List ℕ) (kind : InputKind)
    → ((ts : List Token) → spec.with_quoted_byte (total - length (b ∷ others)) b ts ≡ Refused (total - length (b ∷ others)) kind ∷ [])
    → tokens_left InQuotes total (b ∷ others) ≡ Refused (total - length (b ∷ others)) kind ∷ tokens_left Outside total []
unfolding tokens_left
fault_told total b others kind told =
    told (spec.tokens_in (spec.region_behind spec.InQuotes b others) ((total - length (b ∷ others)) + 1) others)

-- ---- the same by the first byte and those behind it

pub word_first : (total b at : ℕ) (all others word behind : List ℕ) → all ≡ b ∷ others → all ≡ word ++ behind → length all ≤ total
    → is_word_byte b ≡ true → list_all is_word_byte word ≡ true → begins is_word_byte behind ≡ false → at ≡ total - length all
    → tokens_left Outside total all ≡ Word at word ∷ tokens_left Outside total behind
word_first total b at all others [] behind first whole within is_word each ends place =
    let same : b ∷ others ≡ behind = sym first ∙ whole in
    let bad : is_word_byte b ≡ false = ap (begins is_word_byte) same ∙ ends in
    absurd cc
word_first total b at all others (c ∷ cs) behind first whole within is_word each ends place =
    rw (place, whole) (word_left total c cs behind (subst (λ (bs : List ℕ). length bs ≤ total) whole within) each ends)

pub unequal_first : (total b at : ℕ) (all others behind : List ℕ) → all ≡ b ∷ others → b ≡ 33 → others ≡ 61 ∷ behind → length all ≤ total → at ≡ total - length all
    → tokens_left Outside total all ≡ Punctuation at Unequal ∷ tokens_left Outside total behind
unequal_first total b at all others behind first exclamation equal within place =
    let whole : all ≡ 33 ∷ 61 ∷ behind = first ∙ ap (λ (n : ℕ). n ∷ others) exclamation ∙ ap (λ (bs : List ℕ). 33 ∷ bs) equal in
    rw (place, whole) (unequal_left total behind (subst (λ (bs : List ℕ). length bs ≤ total) whole within))

pub byte_first : (region next : Region) (total b at : ℕ) (all others : List ℕ) (found : Option Token) → all ≡ b ∷ others → length all ≤ total → at ≡ total - length all
    → ((ts : List Token) → spec.with_cnf_byte (region_of region) at b others ts ≡ in_front found ts)
    → region_of next ≡ spec.region_behind (region_of region) b others
    → tokens_left region total all ≡ in_front found (tokens_left next total others)
byte_first region next total b at all others found first within place told behind =
    let here : at ≡ total - length (b ∷ others) = place ∙ ap (λ (bs : List ℕ). total - length bs) first in
    ap (tokens_left region total) first
    ∙ byte_told region next total b others found (subst (λ (bs : List ℕ). length bs ≤ total) first within)
    (subst (λ (n : ℕ). (ts : List Token) → spec.with_cnf_byte (region_of region) n b others ts ≡ in_front found ts) here told) behind

-- nothing stands where a comment goes on
gap_kept : (region : Region) (at b : ℕ) (next : List ℕ) (ts : List Token) → is_gap region ≡ true → spec.with_cnf_byte (region_of region) at b next ts ≡ ts
gap_kept Outside at b next ts e = absurd cc
gap_kept InLine at b next ts e = refl
gap_kept AtOpening at b next ts e = refl
gap_kept InComment at b next ts e = refl
gap_kept AtClosing at b next ts e = refl
gap_kept InQuotes at b next ts e = absurd cc

pub gap_first : (region next : Region) (total b : ℕ) (all others : List ℕ) → is_gap region ≡ true → all ≡ b ∷ others → length all ≤ total
    → region_of next ≡ spec.region_behind (region_of region) b others
    → tokens_left region total all ≡ tokens_left next total others
gap_first region next total b all others gap first within behind =
    byte_first region next total b (total - length all) all others None first within refl (λ ts. gap_kept region (total - length all) b others ts gap) behind

pub quoted_first : (next : Region) (total b at : ℕ) (all others : List ℕ) → all ≡ b ∷ others → length all ≤ total → at ≡ total - length all
    → ((n : ℕ) (ts : List Token) → spec.with_quoted_byte n b ts ≡ stopped_by n None ts)
    → region_of next ≡ spec.region_behind spec.InQuotes b others
    → tokens_left InQuotes total all ≡ tokens_left next total others
quoted_first next total b at all others first within place told behind =
    byte_first InQuotes next total b at all others None first within place (λ ts. told at ts) behind

pub fault_first : (total b at : ℕ) (all others none : List ℕ) (kind : InputKind) → all ≡ b ∷ others → at ≡ total - length all → none ≡ []
    → ((n : ℕ) (ts : List Token) → spec.with_quoted_byte n b ts ≡ stopped_by n (Some kind) ts)
    → tokens_left InQuotes total all ≡ Refused at kind ∷ tokens_left Outside total none
fault_first total b at all others none kind first place empty told =
    let here : at ≡ total - length (b ∷ others) = place ∙ ap (λ (bs : List ℕ). total - length bs) first in
    ap (tokens_left InQuotes total) first ∙ fault_told total b others kind (λ ts. told (total - length (b ∷ others)) ts)
    ∙ ap (λ (n : ℕ). Refused n kind ∷ tokens_left Outside total []) (sym here)
    ∙ ap (λ (bs : List ℕ). Refused at kind ∷ tokens_left Outside total bs) (sym empty)
