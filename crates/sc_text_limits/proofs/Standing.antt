-- Where the next token stands, and the clause or term so far, with one token more.
use Rattle.std.proofs.Common.{◌≡◌, ◌∙◌, sym, ap, refl, ℕ, zero, suc, Bool, true, false, ◌&&◌, List, [], ◌∷◌, ◌++◌, length, arith}
use Rattle.std.specs.Prelude.{Option, Some, None, ◌==◌, if◌then◌else◌}
use Rattle.std.proofs.lemmas.Bool.{eqb-true}
use Rattle.sc_input_rules.specs.declared.token.Token.{Token}
use Rattle.sc_input_rules.specs.declared.token.Token.TheVariants.{Word, Punctuation, Refused}
use Rattle.sc_input_rules.specs.declared.token.Sign.TheVariants.{Open, Close, Comma, Stop, Bar, Minus, Equal, Unequal, Colon}
use Rattle.sc_input_rules.specs.Token.{is_sign}
use Rattle.sc_input_rules.specs.Measures.{commas_behind, open_commas}
use Rattle.sc_input_rules.proofs.OneMore.{open_commas-one_more}
use Rattle.sc_text_rules.specs.TextPosition.{behind_first, around, last_term}
use Rattle.sc_text_limits.specs.Formulas.{is_outer}

-- ---- what stands behind a first token

abbrev pub found_more : Bool → Token → Option (List Token) → Option (List Token)
found_more here t o = elim o [ Some ts ↦ Some (ts ++ t ∷ []) | None ↦ if here then Some [] else None ]

pub behind_first-one_more : (test : Token → Bool) (tokens : List Token) (t : Token) → behind_first test (tokens ++ t ∷ []) ≡ found_more (test t) t (behind_first test tokens)
behind_first-one_more test [] t = refl
behind_first-one_more test (u ∷ us) t = by (test u) (behind_first-one_more test us t)
  where
    by : (b : Bool) → behind_first test (us ++ t ∷ []) ≡ found_more (test t) t (behind_first test us)
        → (if b then Some (us ++ t ∷ []) else behind_first test (us ++ t ∷ [])) ≡ found_more (test t) t (if b then Some us else behind_first test us)
    by true e = refl
    by false e = e

-- ---- the last term

around-length : (t : Token) (commas : List ℕ) → around (length commas) t ≡ length (commas_behind t commas)
around-length (Word at text) commas = by commas
  where
    by : (commas : List ℕ) → around (length commas) (Word at text) ≡ length commas
    by [] = refl
    by (c ∷ cs) = refl
around-length (Refused at kind) commas = by commas
  where
    by : (commas : List ℕ) → around (length commas) (Refused at kind) ≡ length commas
    by [] = refl
    by (c ∷ cs) = refl
around-length (Punctuation at Open) [] = refl
around-length (Punctuation at Open) (c ∷ cs) = omega arith
around-length (Punctuation at Close) [] = refl
around-length (Punctuation at Close) (c ∷ cs) = refl
around-length (Punctuation at Comma) [] = refl
around-length (Punctuation at Comma) (c ∷ cs) = refl
around-length (Punctuation at Stop) [] = refl
around-length (Punctuation at Stop) (c ∷ cs) = refl
around-length (Punctuation at Bar) [] = refl
around-length (Punctuation at Bar) (c ∷ cs) = refl
around-length (Punctuation at Minus) [] = refl
around-length (Punctuation at Minus) (c ∷ cs) = refl
around-length (Punctuation at Equal) [] = refl
around-length (Punctuation at Equal) (c ∷ cs) = refl
around-length (Punctuation at Unequal) [] = refl
around-length (Punctuation at Unequal) (c ∷ cs) = refl
around-length (Punctuation at Colon) [] = refl
around-length (Punctuation at Colon) (c ∷ cs) = refl

abbrev pub term_with : Bool → Token → List Token → List Token
term_with ends t tokens = if ends then [] else tokens ++ t ∷ []

left : (a b : Bool) → (a && b) ≡ true → a ≡ true
left true b e = refl
left false b e = e

abbrev ends_term : ℕ → Token → Bool
ends_term n t = n == 0 && is_sign Comma t

level : (n : ℕ) (so_far : List Token) (t : Token) → n ≡ length (open_commas [] so_far) → around n t ≡ length (open_commas [] (term_with (ends_term n t) t so_far))
level n so_far t e = by n t e (ends_term n t) refl
  where
    goes_on : (n : ℕ) (t : Token) → n ≡ length (open_commas [] so_far) → around n t ≡ length (open_commas [] (so_far ++ t ∷ []))
    goes_on n t e = ap (λ (m : ℕ). around m t) e ∙ around-length t (open_commas [] so_far) ∙ sym (ap length (open_commas-one_more [] so_far t))

    ended : (n : ℕ) (t : Token) → ends_term n t ≡ true → around n t ≡ 0
    ended zero (Word at text) e = refl
    ended zero (Refused at kind) e = refl
    ended zero (Punctuation at Open) e = absurd cc
    ended zero (Punctuation at Close) e = refl
    ended zero (Punctuation at Comma) e = refl
    ended zero (Punctuation at Stop) e = refl
    ended zero (Punctuation at Bar) e = refl
    ended zero (Punctuation at Minus) e = refl
    ended zero (Punctuation at Equal) e = refl
    ended zero (Punctuation at Unequal) e = refl
    ended zero (Punctuation at Colon) e = refl
    ended (suc n) t e = absurd (let z = eqb-true (suc n) 0 (left (suc n == 0) (is_sign Comma t) e) in omega arith)

    by : (n : ℕ) (t : Token) → n ≡ length (open_commas [] so_far) → (b : Bool) → ends_term n t ≡ b → around n t ≡ length (open_commas [] (term_with b t so_far))
    by n t e true f = ended n t f
    by n t e false f = goes_on n t e

pub last_term-one_more : (n : ℕ) (so_far tokens : List Token) (t : Token) → n ≡ length (open_commas [] so_far)
    → last_term n so_far (tokens ++ t ∷ []) ≡ term_with (is_outer (last_term n so_far tokens) && is_sign Comma t) t (last_term n so_far tokens)
last_term-one_more n so_far [] t e = ap (λ (m : ℕ). term_with (ends_term m t) t so_far) e
last_term-one_more n so_far (u ∷ us) t e = last_term-one_more (around n u) (term_with (ends_term n u) u so_far) us t (level n so_far u e)
