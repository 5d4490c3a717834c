-- Which name a parenthesis closes: read backwards, and by the parentheses that are open.
use Rattle.std.proofs.Common.{◌≡◌, ◌∙◌, sym, ap, refl, ℕ, zero, suc, ◌+◌, List, [], ◌∷◌, arith}
use Rattle.std.specs.Prelude.{reverse, Option, None, option_map}
use Rattle.std.proofs.lemmas.List.{reverse-append, reverse-reverse}
use Rattle.sc_input_rules.specs.declared.token.Token.{Token}
use Rattle.sc_input_rules.specs.declared.token.Token.TheVariants.{Word, Punctuation, Refused}
use Rattle.sc_input_rules.specs.declared.token.Sign.TheVariants.{Open, Close, Comma, Stop, Bar, Minus, Equal, Unequal, Colon}
use Rattle.sc_input_rules.specs.Reader.{Name}
use Rattle.sc_input_rules.specs.Measures.{commas_behind, one_more, without_innermost, open_commas}
use Rattle.sc_input_rules.specs.declared.written.Occurrence.{Occurrence}
use Rattle.sc_input_rules.proofs.OneMore.{open_commas-one_more}
use Rattle.sc_text_rules.specs.TextPosition.{applied_name}
use Rattle.sc_text_limits.specs.Names.{first_word, open_words, without_first, applied_to}

-- the commas in the parentheses that are open, tokens read backwards
abbrev pub commas_back : List Token → List ℕ
commas_back [] = []
commas_back (t ∷ tokens) = commas_behind t (commas_back tokens)

-- the name of a parenthesis that is open, with so many arguments more than commas stand in it
abbrev pub named : ℕ → ℕ → List (Option Name) → List ℕ → Option Occurrence
named n arity [] commas = None
named n arity (w ∷ ws) [] = None
named zero arity (w ∷ ws) (c ∷ cs) = option_map (applied_to (arity + c)) w
named (suc n) arity (w ∷ ws) (c ∷ cs) = named n arity ws cs

named-outer : (n arity : ℕ) (ws : List (Option Name)) (cs : List ℕ) → named (suc n) arity ws cs ≡ named n arity (without_first ws) (without_innermost cs)
named-outer n arity [] [] = refl
named-outer n arity [] (c ∷ cs) = refl
named-outer n arity (w ∷ []) [] = refl
named-outer n arity (w ∷ v ∷ vs) [] = refl
named-outer n arity (w ∷ ws) (c ∷ cs) = refl

named-comma : (arity : ℕ) (ws : List (Option Name)) (cs : List ℕ) → named zero (arity + 1) ws cs ≡ named zero arity ws (one_more cs)
named-comma arity [] [] = refl
named-comma arity [] (c ∷ cs) = refl
named-comma arity (w ∷ ws) [] = refl
named-comma arity (w ∷ ws) (c ∷ cs) = let e : arity + 1 + c ≡ arity + (c + 1) = omega arith in ap (λ (n : ℕ). option_map (applied_to n) w) e

named-inner : (n arity : ℕ) (ws : List (Option Name)) (cs : List ℕ) → named (suc n) arity ws cs ≡ named (suc n) arity ws (one_more cs)
named-inner n arity [] [] = refl
named-inner n arity [] (c ∷ cs) = refl
named-inner n arity (w ∷ ws) [] = refl
named-inner n arity (w ∷ ws) (c ∷ cs) = refl

word_opens : (arity : ℕ) (tokens : List Token) → applied_name zero arity (Punctuation 0 Open ∷ tokens) ≡ option_map (applied_to arity) (first_word tokens)
word_opens arity [] = refl
word_opens arity (Word at text ∷ tokens) = refl
word_opens arity (Punctuation at s ∷ tokens) = refl
word_opens arity (Refused at kind ∷ tokens) = refl

pub applied-named : (n arity : ℕ) (tokens : List Token) → applied_name n arity tokens ≡ named n arity (open_words tokens) (commas_back tokens)
applied-named zero arity [] = refl
applied-named (suc n) arity [] = refl
applied-named zero arity (Word at text ∷ tokens) = applied-named zero arity tokens
applied-named (suc n) arity (Word at text ∷ tokens) = applied-named (suc n) arity tokens
applied-named zero arity (Refused at kind ∷ tokens) = applied-named zero arity tokens
applied-named (suc n) arity (Refused at kind ∷ tokens) = applied-named (suc n) arity tokens
applied-named zero arity (Punctuation at Open ∷ tokens) =
    let e : arity ≡ arity + 0 = omega arith in word_opens arity tokens ∙ ap (λ (n : ℕ). option_map (applied_to n) (first_word tokens)) e
applied-named zero arity (Punctuation at Close ∷ tokens) = applied-named 1 arity tokens ∙ named-outer 0 arity (open_words tokens) (commas_back tokens)
applied-named zero arity (Punctuation at Comma ∷ tokens) = applied-named zero (arity + 1) tokens ∙ named-comma arity (open_words tokens) (commas_back tokens)
applied-named zero arity (Punctuation at Stop ∷ tokens) = applied-named zero arity tokens
applied-named zero arity (Punctuation at Bar ∷ tokens) = applied-named zero arity tokens
applied-named zero arity (Punctuation at Minus ∷ tokens) = applied-named zero arity tokens
applied-named zero arity (Punctuation at Equal ∷ tokens) = applied-named zero arity tokens
applied-named zero arity (Punctuation at Unequal ∷ tokens) = applied-named zero arity tokens
applied-named zero arity (Punctuation at Colon ∷ tokens) = applied-named zero arity tokens
applied-named (suc n) arity (Punctuation at Open ∷ tokens) = applied-named n arity tokens
applied-named (suc n) arity (Punctuation at Close ∷ tokens) =
    let e : n + 2 ≡ suc (suc n) = omega arith in
    ap (λ (m : ℕ). applied_name m arity tokens) e ∙ applied-named (suc (suc n)) arity tokens ∙ named-outer (suc n) arity (open_words tokens) (commas_back tokens)
applied-named (suc n) arity (Punctuation at Comma ∷ tokens) =
    let e : n + 1 ≡ suc n = omega arith in
    ap (λ (m : ℕ). applied_name m arity tokens) e ∙ applied-named (suc n) arity tokens ∙ named-inner n arity (open_words tokens) (commas_back tokens)
applied-named (suc n) arity (Punctuation at Stop ∷ tokens) = let e : n + 1 ≡ suc n = omega arith in ap (λ (m : ℕ). applied_name m arity tokens) e ∙ applied-named (suc n) arity tokens
applied-named (suc n) arity (Punctuation at Bar ∷ tokens) = let e : n + 1 ≡ suc n = omega arith in ap (λ (m : ℕ). applied_name m arity tokens) e ∙ applied-named (suc n) arity tokens
applied-named (suc n) arity (Punctuation at Minus ∷ tokens) = let e : n + 1 ≡ suc n = omega arith in ap (λ (m : ℕ). applied_name m arity tokens) e ∙ applied-named (suc n) arity tokens
applied-named (suc n) arity (Punctuation at Equal ∷ tokens) = let e : n + 1 ≡ suc n = omega arith in ap (λ (m : ℕ). applied_name m arity tokens) e ∙ applied-named (suc n) arity tokens
applied-named (suc n) arity (Punctuation at Unequal ∷ tokens) = let e : n + 1 ≡ suc n = omega arith in ap (λ (m : ℕ). applied_name m arity tokens) e ∙ applied-named (suc n) arity tokens
applied-named (suc n) arity (Punctuation at Colon ∷ tokens) = let e : n + 1 ≡ suc n = omega arith in ap (λ (m : ℕ). applied_name m arity tokens) e ∙ applied-named (suc n) arity tokens

commas_forth : (tokens : List Token) → commas_back tokens ≡ open_commas [] (reverse tokens)
commas_forth [] = refl
commas_forth (t ∷ tokens) = ap (commas_behind t) (commas_forth tokens) ∙ sym (open_commas-one_more [] (reverse tokens) t) ∙ ap (open_commas []) (sym (reverse-append (t ∷ []) tokens))

pub commas_backwards : (tokens : List Token) → commas_back (reverse tokens) ≡ open_commas [] tokens
commas_backwards tokens = commas_forth (reverse tokens) ∙ ap (open_commas []) (reverse-reverse tokens)
