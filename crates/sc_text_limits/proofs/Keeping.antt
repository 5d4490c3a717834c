-- What is kept of a clause or term so far, with one token more.
use Rattle.std.proofs.Common.{◌≡◌, ◌∙◌, sym, ap, refl, ℕ, suc, ◌+◌, ◌-◌, min, Bool, true, false, ◌||◌, List, [], ◌∷◌, ◌++◌, length, slice_get, arith}
use Rattle.std.specs.Prelude.{reverse, Option, Some, None, nat_lt, option_map, option_and_then, codes, if◌then◌else◌}
use Rattle.std.proofs.lemmas.Bool.{lt-ltb}
use Rattle.std.proofs.lemmas.List.{reverse-append, reverse-reverse}
use Rattle.sc_term.specs.declared.symbol.Symbol.{Symbol}
use Rattle.sc_term.specs.Symbol.{IsSignature}
use Rattle.sc_input_rules.specs.declared.token.Token.{Token}
use Rattle.sc_input_rules.specs.declared.token.Token.TheVariants.{Word, Punctuation, Refused}
use Rattle.sc_input_rules.specs.declared.token.Sign.TheVariants.{Open, Close, Comma, Stop, Bar, Minus, Equal, Unequal, Colon}
use Rattle.sc_input_rules.specs.Token.{is_sign, same_text}
use Rattle.sc_input_rules.specs.Reader.{Name}
use Rattle.sc_input_rules.specs.ClauseGrammar.{is_equality}
use Rattle.sc_input_rules.specs.Measures.{open_commas, commas_behind, around_behind, last_literal}
use Rattle.sc_input_rules.specs.declared.written.Occurrence.{Occurrence}
use Rattle.sc_input_limits.specs.declared.count.ClauseCount.{ClauseCount}
use Rattle.sc_input_limits.specs.Counted.{Counted, low}
use Rattle.sc_text_rules.specs.TextPosition.{name_before, applied_name, is_nonempty, in_term_place}
use Rattle.sc_text_limits.specs.declared.formula.NameEnding.{NameEnding}
use Rattle.sc_text_limits.specs.declared.names.EndedName.{EndedName}
use Rattle.sc_text_limits.specs.declared.formula.FormulaCount.{FormulaCount}
use Rattle.sc_text_limits.specs.Names.{word_of, word_at, first_word, words_behind, without_first, open_words, applied_to, applied_by, name_ended, word_ended, as_occurrence, low_arity}
use Rattle.sc_text_limits.specs.Names as spec
use Rattle.sc_text_limits.specs.Limits.{fault_of_name, fault_of_ended}
use Rattle.sc_text_limits.specs.Formulas.{words_at, ended_by, is_in_term, IsKept}
use Rattle.sc_text_limits.proofs.Backwards.{named, applied-named, commas_backwards}
use Rattle.sc_text_limits.proofs.LookUps.{fault_low}

-- ---- words

abbrev seen : List Token → Option ℕ → Option Name
seen tokens n = option_and_then (word_at tokens) n

words-behind : (tokens : List Token) (before : Option ℕ) (t : Token) (numbers : List (Option ℕ))
    → words_at tokens (words_behind before t numbers) ≡ words_behind (seen tokens before) t (words_at tokens numbers)
words-behind tokens before t numbers = by (is_sign Open t) (is_sign Close t)
  where
    outer : (numbers : List (Option ℕ)) → words_at tokens (without_first numbers) ≡ without_first (words_at tokens numbers)
    outer [] = refl
    outer (n ∷ ns) = refl

    by : (o c : Bool) → words_at tokens (if o then before ∷ numbers else if c then without_first numbers else numbers)
        ≡ (if o then seen tokens before ∷ words_at tokens numbers else if c then without_first (words_at tokens numbers) else words_at tokens numbers)
    by true c = refl
    by false true = outer numbers
    by false false = refl

-- ---- the name that ends

name_closed : (tokens : List Token) (numbers : List (Option ℕ)) (commas : List ℕ) → name_ended tokens (applied_by numbers (low commas)) ≡ option_map low_arity (named 0 1 (words_at tokens numbers) commas)
name_closed tokens [] commas = refl
name_closed tokens (None ∷ ns) [] = refl
name_closed tokens (None ∷ ns) (c ∷ cs) = refl
name_closed tokens (Some n ∷ ns) [] = refl
name_closed tokens (Some n ∷ ns) (c ∷ cs) = by (word_at tokens n)
  where
    by : (w : Option Name) → option_map (applied_to (min (min c 8) 8 + 1)) w ≡ option_map low_arity (option_map (applied_to (1 + c)) w)
    by None = refl
    by (Some w) = let e : min (min c 8) 8 + 1 ≡ min (1 + c) 9 = omega arith in ap (λ (n : ℕ). Some (applied_to n w)) e

name_alone : (text : List ℕ) (at : ℕ) (b : Bool) → (if b then None else Some (record { at = at; name = text; arity = 0 })) ≡ option_map low_arity (if b then None else Some (record { at = at; name = text; arity = 0 }))
name_alone text at true = refl
name_alone text at false = refl

commas_reversed : (formula : List Token) (c : ClauseCount) → Counted formula c → reverse c.commas ≡ low (open_commas [] formula)
commas_reversed formula c h = ap reverse h.commas ∙ reverse-reverse (low (open_commas [] formula))

name-closed : (tokens formula : List Token) (f : FormulaCount) → IsKept tokens formula f
    → name_ended tokens (applied_by (reverse f.words) (reverse f.count.commas)) ≡ option_map low_arity (applied_name 0 1 (reverse formula))
name-closed tokens formula f h =
    let commas = open_commas [] formula in
    ap (λ (cs : List ℕ). name_ended tokens (applied_by (reverse f.words) cs)) (commas_reversed formula f.count h.count)
    ∙ name_closed tokens (reverse f.words) commas
    ∙ ap (λ (ws : List (Option Name)). option_map low_arity (named 0 1 ws commas)) h.words
    ∙ ap (λ (cs : List ℕ). option_map low_arity (named 0 1 (open_words (reverse formula)) cs)) (sym (commas_backwards formula))
    ∙ ap (option_map low_arity) (sym (applied-named 0 1 (reverse formula)))

no_word : (numbers : List (Option ℕ)) (commas : List ℕ) → word_ended (applied_by numbers commas) ≡ None
no_word [] commas = refl
no_word (None ∷ ns) [] = refl
no_word (None ∷ ns) (c ∷ cs) = refl
no_word (Some n ∷ ns) [] = refl
no_word (Some n ∷ ns) (c ∷ cs) = refl

-- the name that ends with the token, and the word that it is
record EndsWith (tokens formula : List Token) (t : Token) (e : NameEnding) : Type 0 where
  pub word : seen tokens (word_ended e) ≡ word_of t
  pub name : name_ended tokens e ≡ option_map low_arity (name_before (t ∷ reverse formula))

ends_with : (tokens formula : List Token) (n : ℕ) (t : Token) (f : FormulaCount) → slice_get tokens n ≡ Some t → IsKept tokens formula f → EndsWith tokens formula t (ended_by n t f)
ends_with tokens formula n (Word at text) f e h =
    let w : word_at tokens n ≡ Some (record { at = at; text = text }) = ap (option_and_then word_of) e in
    record { word = w; name = ap (λ (o : Option Name). option_and_then spec.name_alone o) w ∙ name_alone text at (same_text text (codes "$F")) }
ends_with tokens formula n (Refused at kind) f e h = record { word = refl; name = refl }
ends_with tokens formula n (Punctuation at Close) f e h =
    record { word = ap (seen tokens) (no_word (reverse f.words) (reverse f.count.commas)); name = name-closed tokens formula f h }
ends_with tokens formula n (Punctuation at Open) f e h = record { word = refl; name = refl }
ends_with tokens formula n (Punctuation at Comma) f e h = record { word = refl; name = refl }
ends_with tokens formula n (Punctuation at Stop) f e h = record { word = refl; name = refl }
ends_with tokens formula n (Punctuation at Bar) f e h = record { word = refl; name = refl }
ends_with tokens formula n (Punctuation at Minus) f e h = record { word = refl; name = refl }
ends_with tokens formula n (Punctuation at Equal) f e h = record { word = refl; name = refl }
ends_with tokens formula n (Punctuation at Unequal) f e h = record { word = refl; name = refl }
ends_with tokens formula n (Punctuation at Colon) f e h = record { word = refl; name = refl }

-- ---- all

pub kept_with : (tokens formula : List Token) (n : ℕ) (t : Token) (f g : FormulaCount) → slice_get tokens n ≡ Some t → IsKept tokens formula f
    → Counted (formula ++ t ∷ []) g.count → reverse g.words ≡ words_behind (word_ended f.ended) t (reverse f.words) → g.ended ≡ ended_by n t f → IsKept tokens (formula ++ t ∷ []) g
kept_with tokens formula n t f g e h counted words ended =
    let back : reverse (formula ++ t ∷ []) ≡ t ∷ reverse formula = reverse-append formula (t ∷ []) in
    let ends = ends_with tokens formula n t f e h in
    record {
      count = counted;
      words =
          ap (words_at tokens) words ∙ words-behind tokens (word_ended f.ended) t (reverse f.words) ∙ ap (λ (w : Option Name). words_behind w t (words_at tokens (reverse f.words))) h.before
          ∙ ap (words_behind (first_word (reverse formula)) t) h.words ∙ ap open_words (sym back);
      before = ap (λ (e : NameEnding). seen tokens (word_ended e)) ended ∙ ends.word ∙ ap first_word (sym back);
      ended = ap (name_ended tokens) ended ∙ ends.name ∙ ap (λ (ts : List Token). option_map low_arity (name_before ts)) (sym back);
    }

-- ---- the place of a term

around_one : (t : Token) (commas : List ℕ) (tokens : List Token) → around_behind (length commas) (t ∷ tokens) ≡ around_behind (length (commas_behind t commas)) tokens
around_one (Word at text) commas tokens = refl
around_one (Refused at kind) commas tokens = refl
around_one (Punctuation at Open) commas tokens = let e : length commas + 1 ≡ suc (length commas) = omega arith in ap (λ (n : ℕ). around_behind n tokens) e
around_one (Punctuation at Close) [] tokens = refl
around_one (Punctuation at Close) (c ∷ cs) tokens = let e : suc (length cs) - 1 ≡ length cs = omega arith in ap (λ (n : ℕ). around_behind n tokens) e
around_one (Punctuation at Comma) [] tokens = refl
around_one (Punctuation at Comma) (c ∷ cs) tokens = refl
around_one (Punctuation at Stop) commas tokens = refl
around_one (Punctuation at Bar) commas tokens = refl
around_one (Punctuation at Minus) commas tokens = refl
around_one (Punctuation at Equal) commas tokens = refl
around_one (Punctuation at Unequal) commas tokens = refl
around_one (Punctuation at Colon) commas tokens = refl

enclosed : (commas : List ℕ) (tokens : List Token) → nat_lt 0 (around_behind (length commas) tokens) ≡ is_nonempty (open_commas commas tokens)
enclosed [] [] = refl
enclosed (c ∷ cs) [] = lt-ltb 0 (length (c ∷ cs)) (omega arith)
enclosed commas (t ∷ tokens) = ap (nat_lt 0) (around_one t commas tokens) ∙ enclosed (commas_behind t commas) tokens

pub in_place : (is_term : Bool) (formula : List Token) (t : Token) (c : ClauseCount) → Counted formula c → is_in_term is_term c.literal.atom t ≡ in_term_place (record { is_term = is_term; tokens = formula }) t
in_place is_term formula t c h =
    let atom = h.literal.atom in
    ap (λ (n : ℕ). is_term || nat_lt 0 n || c.literal.atom.equality || is_equality t) atom.around
    ∙ ap (λ (b : Bool). is_term || b || c.literal.atom.equality || is_equality t) (enclosed [] (last_literal formula))
    ∙ ap (λ (b : Bool). is_term || is_nonempty (open_commas [] (last_literal formula)) || b || is_equality t) atom.equality

-- what is told of the name that ends
pub ended_told : (symbols : List Symbol) (tokens formula : List Token) (is_term : Bool) (t : Token) (f : FormulaCount) (o : Option EndedName) (name : EndedName) → IsSignature symbols → is_sign Open t ≡ false
    → option_map as_occurrence o ≡ name_ended tokens f.ended → o ≡ Some name → IsKept tokens formula f
    → fault_of_name symbols (is_in_term is_term f.count.literal.atom t) (as_occurrence name) ≡ fault_of_ended symbols (record { is_term = is_term; tokens = formula }) t
ended_told symbols tokens formula is_term t f o name is shut e some h =
    let place = in_term_place (record { is_term = is_term; tokens = formula }) t in
    ap (λ (b : Bool). fault_of_name symbols b (as_occurrence name)) (in_place is_term formula t f.count h.count)
    ∙ by (name_before (reverse formula)) (sym (ap (option_map as_occurrence) some) ∙ e ∙ h.ended)
    ∙ ap (λ (b : Bool). option_and_then (λ o. fault_of_name symbols place o) (elim b [ true ↦ None | false ↦ name_before (reverse formula) ])) (sym shut)
  where
    by : (n : Option Occurrence) → Some (as_occurrence name) ≡ option_map low_arity n
        → fault_of_name symbols (in_term_place (record { is_term = is_term; tokens = formula }) t) (as_occurrence name)
        ≡ option_and_then (λ o. fault_of_name symbols (in_term_place (record { is_term = is_term; tokens = formula }) t) o) n
    by None e = absurd cc
    by (Some n) e =
        let low : as_occurrence name ≡ low_arity n = cc in
        ap (fault_of_name symbols (in_term_place (record { is_term = is_term; tokens = formula }) t)) low ∙ fault_low symbols (in_term_place (record { is_term = is_term; tokens = formula }) t) n is
