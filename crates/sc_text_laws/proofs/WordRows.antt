-- The tokens of words with spaces between them, and of a path.
use Rattle.std.proofs.Common.{◌≡◌, ◌∙◌, ap, refl, ℕ, ◌+◌, ◌<◌, ◌^◌, true, List, [], ◌∷◌, ◌++◌, map, append_assoc, arith}
use Rattle.std.specs.Prelude.{codes, decimal}
use Rattle.std.specs.List.{AllByRecursion}
use Rattle.sc_input_rules.specs.declared.token.Token.{Token}
use Rattle.sc_input_rules.specs.declared.token.Token.TheVariants.{Word, Punctuation}
use Rattle.sc_input_rules.specs.declared.token.Sign.TheVariants.{Comma}
use Rattle.sc_text_rules.specs.ClauseText.{joined_by}
use Rattle.sc_text_rules.specs.ProofText.{words}
use Rattle.sc_text_laws.specs.Printable.{is_name, IsShort, AreShort}
use Rattle.sc_text_laws.proofs.WordTokens.{tokens_at, Breaks, past, word_token, space_token, comma_token}
use Rattle.sc_text_laws.proofs.NumberTexts.{number_is_name}

abbrev pub AreWords : List (List ℕ) → Type 0
AreWords ws = AllByRecursion (λ w. is_name w ≡ true) ws

-- words, with one byte between each two
abbrev pub word_tokens : ℕ → List (List ℕ) → List Token
word_tokens at [] = []
word_tokens at (w ∷ ws) = Word at w ∷ word_tokens (past w at + 1) ws

abbrev pub words_end : ℕ → List (List ℕ) → ℕ
words_end at [] = at
words_end at (w ∷ []) = past w at
words_end at (w ∷ v ∷ vs) = words_end (past w at + 1) (v ∷ vs)

pub words_spelt : (at : ℕ) (w : List ℕ) (ws : List (List ℕ)) (rest : List ℕ) → AreWords (w ∷ ws) → Breaks rest → tokens_at at (words (w ∷ ws) ++ rest) ≡ word_tokens at (w ∷ ws) ++ tokens_at (words_end at (w ∷ ws)) rest
words_spelt at w [] rest h breaks = word_token at w rest h.0 breaks
words_spelt at w (v ∷ vs) rest h breaks =
    let others = words (v ∷ vs) in
    ap (tokens_at at) (append_assoc (w ++ codes " ") others rest ∙ append_assoc w (codes " ") (others ++ rest))
    ∙ word_token at w (32 ∷ (others ++ rest)) h.0 refl
    ∙ ap (λ (us : List Token). Word at w ∷ us) (space_token (past w at) (others ++ rest) ∙ words_spelt (past w at + 1) v vs rest h.1 breaks)

-- ---- paths

abbrev pub path_tokens : ℕ → List ℕ → List Token
path_tokens at [] = []
path_tokens at (n ∷ []) = Word at (decimal n) ∷ []
path_tokens at (n ∷ m ∷ ms) = Word at (decimal n) ∷ Punctuation (past (decimal n) at) Comma ∷ path_tokens (past (decimal n) at + 1) (m ∷ ms)

abbrev pub path_end : ℕ → List ℕ → ℕ
path_end at [] = at
path_end at (n ∷ []) = past (decimal n) at
path_end at (n ∷ m ∷ ms) = path_end (past (decimal n) at + 1) (m ∷ ms)

pub fits : (n : ℕ) → IsShort n → n < 2 ^ 64
fits n h = omega arith

pub path_spelt : (at n : ℕ) (ns rest : List ℕ) → AreShort (n ∷ ns) → Breaks rest
    → tokens_at at (joined_by (codes ",") (map decimal (n ∷ ns)) ++ rest) ≡ path_tokens at (n ∷ ns) ++ tokens_at (path_end at (n ∷ ns)) rest
path_spelt at n [] rest h breaks = word_token at (decimal n) rest (number_is_name n (fits n h.0)) breaks
path_spelt at n (m ∷ ms) rest h breaks =
    let w = decimal n in
    let others = joined_by (codes ",") (map decimal (m ∷ ms)) in
    ap (tokens_at at) (append_assoc (w ++ codes ",") others rest ∙ append_assoc w (codes ",") (others ++ rest))
    ∙ word_token at w (44 ∷ (others ++ rest)) (number_is_name n (fits n h.0)) refl
    ∙ ap (λ (us : List Token). Word at w ∷ us)
    (comma_token (past w at) (others ++ rest) ∙ ap (λ (us : List Token). Punctuation (past w at) Comma ∷ us) (path_spelt (past w at + 1) m ms rest h.1 breaks))
