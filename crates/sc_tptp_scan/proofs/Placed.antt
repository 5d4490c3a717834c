-- Tokens in their places by what is kept of the tokens before them, and all tokens of a text.
use Rattle.std.proofs.Common.{◌≡◌, refl, ap, sym, ◌∙◌, ℕ, ◌+◌, ◌-◌, ◌≤◌, Bool, true, false, List, [], ◌∷◌, ◌++◌, length, ◌==◌, arith, length-append, append_assoc, append-nil, Some, None, Option}
use Rattle.std.specs.Prelude.{if◌then◌else◌}
use Rattle.std.proofs.lemmas.Bool.{eqb-true}
use Rattle.sc_input_rules.specs.declared.token.Token.{Token}
use Rattle.sc_input_rules.specs.declared.token.Token.TheVariants.{Word, Punctuation, Refused}
use Rattle.sc_input_rules.specs.declared.token.Sign.TheVariants.{Open, Close, Comma, Stop, Bar, Minus, Equal, Unequal, Colon}
use Rattle.sc_input_rules.specs.Token.{is_sign}
use Rattle.sc_input_rules.specs.Measures.{around_behind}
use Rattle.sc_input_scan.specs.Rest.{in_front}
use Rattle.sc_tptp_rules.specs.CnfTokens as spec
use Rattle.sc_tptp_rules.specs.Placing.{last_is, ends_side, is_variable_word, placed_token, placed_behind, cnf_tokens}
use Rattle.sc_tptp_scan.specs.declared.region.Region.{Region}
use Rattle.sc_tptp_scan.specs.declared.region.Region.TheVariants.{Outside, InLine, AtOpening, InComment, AtClosing, InQuotes}
use Rattle.sc_tptp_scan.specs.declared.standing.Standing.{Standing}
use Rattle.sc_tptp_scan.specs.Left.{region_of, tokens_left}
use Rattle.sc_tptp_scan.specs.Standing.{standing_of, start, standing_behind, token_at, placed_with, found_at, standing_found}

-- ---- with one token more

last_is-one_more : (test : Token → Bool) (tokens : List Token) (t : Token) → last_is test (tokens ++ t ∷ []) ≡ test t
last_is-one_more test [] t = refl
last_is-one_more test (u ∷ []) t = refl
last_is-one_more test (u ∷ v ∷ tokens) t = last_is-one_more test (v ∷ tokens) t

around_behind-one_more : (around : ℕ) (tokens : List Token) (t : Token) → around_behind around (tokens ++ t ∷ []) ≡ around_behind (around_behind around tokens) (t ∷ [])
around_behind-one_more around [] t = refl
around_behind-one_more around (Word at text ∷ tokens) t = around_behind-one_more around tokens t
around_behind-one_more around (Punctuation at s ∷ tokens) t =
    around_behind-one_more (if is_sign Open (Punctuation at s) then around + 1 else if is_sign Close (Punctuation at s) then around - 1 else around) tokens t
around_behind-one_more around (Refused at kind ∷ tokens) t = around_behind-one_more around tokens t

one_more : (earlier : List Token) (t : Token) (n : ℕ) → n ≡ around_behind (around_behind 0 earlier) (t ∷ [])
    → record { count = length earlier + 1; around = n; side = ends_side t; variable = is_variable_word t } ≡ standing_of (earlier ++ t ∷ [])
one_more earlier t n e =
    let counted : length earlier + 1 ≡ length (earlier ++ t ∷ []) = omega (arith, length-append earlier (t ∷ [])) in
    let open_still : n ≡ around_behind 0 (earlier ++ t ∷ []) = e ∙ sym (around_behind-one_more 0 earlier t) in
    let ends : ends_side t ≡ last_is ends_side (earlier ++ t ∷ []) = sym (last_is-one_more ends_side earlier t) in
    let upper : is_variable_word t ≡ last_is is_variable_word (earlier ++ t ∷ []) = sym (last_is-one_more is_variable_word earlier t) in
    λ j. record { count = counted j; around = open_still j; side = ends j; variable = upper j }

abbrev item_behind : List Token → Token → List Token
item_behind earlier t = if is_sign Stop t then [] else earlier ++ t ∷ []

stands_behind : (earlier : List Token) (t : Token) → standing_behind (standing_of earlier) t ≡ standing_of (item_behind earlier t)
stands_behind earlier (Word at text) = one_more earlier (Word at text) _ refl
stands_behind earlier (Punctuation at Open) = one_more earlier (Punctuation at Open) _ refl
stands_behind earlier (Punctuation at Close) = one_more earlier (Punctuation at Close) _ refl
stands_behind earlier (Punctuation at Comma) = one_more earlier (Punctuation at Comma) _ refl
stands_behind earlier (Punctuation at Stop) = refl
stands_behind earlier (Punctuation at Bar) = one_more earlier (Punctuation at Bar) _ refl
stands_behind earlier (Punctuation at Minus) = one_more earlier (Punctuation at Minus) _ refl
stands_behind earlier (Punctuation at Equal) = one_more earlier (Punctuation at Equal) _ refl
stands_behind earlier (Punctuation at Unequal) = one_more earlier (Punctuation at Unequal) _ refl
stands_behind earlier (Punctuation at Colon) = one_more earlier (Punctuation at Colon) _ refl
stands_behind earlier (Refused at kind) = one_more earlier (Refused at kind) _ refl

-- ---- tokens in their places

same_token : (earlier : List Token) (t : Token) → placed_token earlier t ≡ token_at (standing_of earlier) t
same_token earlier (Word at text) = refl
same_token earlier (Punctuation at s) = refl
same_token earlier (Refused at kind) = refl

same_tokens : (earlier tokens : List Token) → placed_behind earlier tokens ≡ placed_with (standing_of earlier) tokens
same_tokens earlier [] = refl
same_tokens earlier (t ∷ tokens) =
    ap (λ (u : Token). u ∷ placed_behind (item_behind earlier t) tokens) (same_token earlier t)
    ∙ ap (λ (us : List Token). token_at (standing_of earlier) t ∷ us) (same_tokens (item_behind earlier t) tokens)
    ∙ ap (λ (s : Standing). token_at (standing_of earlier) t ∷ placed_with s tokens) (sym (stands_behind earlier t))

-- ---- all tokens of a text

pub all_left : (bytes : List ℕ) → placed_with start (tokens_left Outside (length bytes) bytes) ≡ cnf_tokens bytes
unfolding tokens_left
all_left bytes =
    let n : length bytes - length bytes ≡ 0 = omega arith in
    ap (λ (n : ℕ). placed_with start (spec.tokens_in spec.Outside n bytes)) n ∙ sym (same_tokens [] (spec.raw_tokens bytes))

-- one turn: the token that was found goes behind those so far
placed_found : (s : Standing) (found : Option Token) (next : List Token)
    → placed_with s (in_front found next) ≡ found_at s found ++ placed_with (standing_found s found) next
placed_found s None next = refl
placed_found s (Some t) next = refl

pub goes_on : (ts left next all new : List Token) (s after : Standing) (found : Option Token) → ts ++ placed_with s left ≡ all → left ≡ in_front found next
    → new ≡ ts ++ found_at s found → after ≡ standing_found s found → new ++ placed_with after next ≡ all
goes_on ts left next all new s after found so_far e pushed stands =
    ap (λ (us : List Token). us ++ placed_with after next) pushed
    ∙ append_assoc ts (found_at s found) (placed_with after next)
    ∙ ap (λ (t : Standing). ts ++ (found_at s found ++ placed_with t next)) stands
    ∙ ap (λ (us : List Token). ts ++ us) (sym (placed_found s found next))
    ∙ ap (λ (us : List Token). ts ++ placed_with s us) (sym e)
    ∙ so_far

pub count_found : (s : Standing) (found : Option Token) → (standing_found s found).count ≤ s.count + 1
count_found s None = omega arith
count_found s (Some (Word at text)) = omega arith
count_found s (Some (Punctuation at Open)) = omega arith
count_found s (Some (Punctuation at Close)) = omega arith
count_found s (Some (Punctuation at Comma)) = omega arith
count_found s (Some (Punctuation at Stop)) = omega arith
count_found s (Some (Punctuation at Bar)) = omega arith
count_found s (Some (Punctuation at Minus)) = omega arith
count_found s (Some (Punctuation at Equal)) = omega arith
count_found s (Some (Punctuation at Unequal)) = omega arith
count_found s (Some (Punctuation at Colon)) = omega arith
count_found s (Some (Refused at kind)) = omega arith

pub around_found : (s : Standing) (found : Option Token) → (standing_found s found).around ≤ s.around + 1
around_found s None = omega arith
around_found s (Some (Word at text)) = omega arith
around_found s (Some (Punctuation at Open)) = omega arith
around_found s (Some (Punctuation at Close)) = omega arith
around_found s (Some (Punctuation at Comma)) = omega arith
around_found s (Some (Punctuation at Stop)) = omega arith
around_found s (Some (Punctuation at Bar)) = omega arith
around_found s (Some (Punctuation at Minus)) = omega arith
around_found s (Some (Punctuation at Equal)) = omega arith
around_found s (Some (Punctuation at Unequal)) = omega arith
around_found s (Some (Punctuation at Colon)) = omega arith
around_found s (Some (Refused at kind)) = omega arith

placed_at_end : (s : Standing) (region : Region) (at : ℕ) → placed_with s (spec.tokens_at_end (region_of region) at) ≡ spec.tokens_at_end (region_of region) at
placed_at_end s Outside at = refl
placed_at_end s InLine at = refl
placed_at_end s AtOpening at = refl
placed_at_end s InComment at = refl
placed_at_end s AtClosing at = refl
placed_at_end s InQuotes at = refl

nothing_left : (region : Region) (total : ℕ) → tokens_left region total [] ≡ spec.tokens_at_end (region_of region) total
unfolding tokens_left
nothing_left region total =
    let n : total - 0 ≡ total = omega arith in
    ap (spec.tokens_at_end (region_of region)) n

pub nothing_more : (s : Standing) (region : Region) (total : ℕ) (ts all new : List Token) (rest : List ℕ) → ts ++ placed_with s (tokens_left region total rest) ≡ all
    → (length rest == 0) ≡ true → new ≡ ts ++ spec.tokens_at_end (region_of region) total → new ≡ all
nothing_more s region total ts all new [] so_far e ended =
    ended ∙ ap (λ (us : List Token). ts ++ us) (sym (placed_at_end s region total))
    ∙ ap (λ (us : List Token). ts ++ placed_with s us) (sym (nothing_left region total)) ∙ so_far
nothing_more s region total ts all new (b ∷ bs) so_far e ended = let bad : length (b ∷ bs) ≡ 0 = eqb-true (length (b ∷ bs)) 0 e in absurd (omega arith)
