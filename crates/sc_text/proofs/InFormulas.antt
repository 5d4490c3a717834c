-- Where no limit is passed behind the words of a clause or of a term list, their variables are small.
use Rattle.std.proofs.Common.{◌≡◌, ◌∙◌, sym, ap, subst, refl, Bool, true, false, List, [], ◌∷◌, ◌++◌, append_assoc, reverse, Option, Some, None}
use Rattle.std.specs.Prelude.{ℕ, ◌==◌, ◌&&◌, if◌then◌else◌, codes, option_and_then}
use Rattle.std.specs.List.{AllByRecursion}
use Rattle.std.specs.Cmp.Lexicographic.{bytes_decides}
use Rattle.std.proofs.lemmas.List.{reverse-append}
use Rattle.sc_term.proofs.SubstitutionLaws.{all_join, all_split}
use Rattle.sc_term.specs.declared.symbol.Symbol.{Symbol}
use Rattle.sc_input_rules.specs.declared.token.Token.{Token}
use Rattle.sc_input_rules.specs.declared.token.Token.TheVariants.{Word, Punctuation}
use Rattle.sc_input_rules.specs.declared.token.Sign.TheVariants.{Open, Comma, Stop, Colon}
use Rattle.sc_input_rules.specs.Token.{is_sign, same_text}
use Rattle.sc_input_rules.specs.ClauseLimits.{when}
use Rattle.sc_input_rules.specs.declared.written.Occurrence.{Occurrence}
use Rattle.sc_input_rules.proofs.ClauseWithin.{not_when}
use Rattle.sc_input_rules.proofs.Standing.{HasNoStop}
use Rattle.sc_text_rules.specs.TextWords.{is_large_variable}
use Rattle.sc_text_rules.specs.TextPosition.{behind_first, around, last_term, is_table_row, is_instance, Formula, formula, ended_name, name_before, in_term_place}
use Rattle.sc_text_rules.specs.TextLimits.{variable_told}
use Rattle.sc_text.proofs.TextStanding.{InSentence, further, clear_at}
use Rattle.sc_text.proofs.SmallWords.{SmallVariable, bare, next_or, SmallWords}
use Rattle.sc_text.proofs.SmallClauses.{SmallTerms}

-- ---- the word that ends

same_text-false : (xs ys : List ℕ) → same_text xs ys ≡ false → same_text ys xs ≡ false
same_text-false xs ys e = by (same_text ys xs) refl
  where
    by : (b : Bool) → same_text ys xs ≡ b → b ≡ false
    by true h = sym ((bytes_decides xs ys).1 (sym ((bytes_decides ys xs).0 h))) ∙ e
    by false h = refl

abbrev told_of : Bool → Option Occurrence → Option ℕ
told_of place o = option_and_then (λ (o : Occurrence). when (place && is_large_variable o) (Some o.at)) o

abbrev named_before : Bool → List Token → Option Occurrence
named_before opens tokens = elim opens [ true ↦ None | false ↦ name_before tokens ]

abbrev bare_unless : Bool → ℕ → List ℕ → Option Occurrence
bare_unless b at text = if b then None else Some (bare at text)

-- the name that ends with a word is that word
word_ends : (before : List Token) (at : ℕ) (text : List ℕ) (u : Token) → is_sign Open u ≡ false → same_text (codes "$F") text ≡ false → ended_name (before ++ Word at text ∷ []) u ≡ Some (bare at text)
word_ends before at text u opens named =
    ap (λ (b : Bool). named_before b (reverse (before ++ Word at text ∷ []))) opens
    ∙ ap name_before (reverse-append before (Word at text ∷ []))
    ∙ ap (λ (b : Bool). bare_unless b at text) (same_text-false (codes "$F") text named)

not_large : (o : Occurrence) → when (is_large_variable o) (Some o.at) ≡ None → SmallVariable o
not_large o e = not_when (is_large_variable o) o.at (Some o.at) refl e

-- not told behind a word in the place of a term
pub told_small : (earlier : List Token) (u : Token) (f : Formula) (before : List Token) (at : ℕ) (text : List ℕ) → variable_told (record { earlier = earlier; last = u }) ≡ None → formula earlier ≡ Some f
    → f.tokens ≡ before ++ Word at text ∷ [] → in_term_place f u ≡ true → is_sign Open u ≡ false → same_text (codes "$F") text ≡ false → SmallVariable (bare at text)
told_small earlier u f before at text none found ends place opens named =
    not_large (bare at text)
    (sym (ap (λ (o : Option Formula). option_and_then (λ (f : Formula). told_of (in_term_place f u) (ended_name f.tokens u)) o) found
    ∙ ap (λ (b : Bool). told_of b (ended_name f.tokens u)) place
    ∙ ap (λ (ts : List Token). told_of true (ended_name ts u)) ends
    ∙ ap (told_of true) (word_ends before at text u opens named)) ∙ none)

-- ---- the formula of a sentence

-- no colon among them
abbrev pub HasNoColon : List Token → Type 0
HasNoColon ts = AllByRecursion (λ t. is_sign Colon t ≡ false) ts

pub no_colon : (ts : List Token) → HasNoColon ts → behind_first (is_sign Colon) ts ≡ None
no_colon [] h = refl
no_colon (t ∷ ts) h = ap (λ (b : Bool). if b then Some ts else behind_first (is_sign Colon) ts) h.0 ∙ no_colon ts h.1

behind_colon : (ts zs : List Token) (at : ℕ) → HasNoColon ts → behind_first (is_sign Colon) (ts ++ Punctuation at Colon ∷ zs) ≡ Some zs
behind_colon [] zs at h = refl
behind_colon (t ∷ ts) zs at h =
    ap (λ (b : Bool). if b then Some (ts ++ Punctuation at Colon ∷ zs) else behind_first (is_sign Colon) (ts ++ Punctuation at Colon ∷ zs)) h.0 ∙ behind_colon ts zs at h.1

abbrev of_colon : List Token → Option (List Token) → Option Formula
of_colon sentence o =
    elim o [
      | Some tokens ↦ Some (record { is_term = false; tokens = tokens })
      | None ↦ elim (is_instance sentence) [
        | true ↦ elim (behind_first (is_sign Open) sentence) [ Some tokens ↦ Some (record { is_term = true; tokens = last_term 0 [] tokens }) | None ↦ None ]
        | false ↦ None
      ]
    ]

abbrev of_row : List Token → Bool → Option Formula
of_row sentence row = elim row [ true ↦ None | false ↦ of_colon sentence (behind_first (is_sign Colon) sentence) ]

pub clause_formula : (front zs : List Token) (at : ℕ) → is_table_row (front ++ Punctuation at Colon ∷ zs) ≡ false → HasNoColon front
    → formula (front ++ Punctuation at Colon ∷ zs) ≡ Some (record { is_term = false; tokens = zs })
clause_formula front zs at row colons =
    ap (of_row (front ++ Punctuation at Colon ∷ zs)) row ∙ ap (of_colon (front ++ Punctuation at Colon ∷ zs)) (behind_colon front zs at colons)

-- none before the colon, but in the terms of an instance
pub no_formula : (front : List Token) → is_table_row front ≡ false → HasNoColon front → is_instance front ≡ false → formula front ≡ None
no_formula front row colons other =
    ap (of_row front) row ∙ ap (of_colon front) (no_colon front colons)
    ∙ ap (λ (b : Bool). elim b [
      | true ↦ elim (behind_first (is_sign Open) front) [ Some tokens ↦ Some (record { is_term = true; tokens = last_term 0 [] tokens }) | None ↦ None ]
      | false ↦ None
    ]) other

-- ---- the words of a clause

-- the tokens up to a word, and those behind
next_stands : (t : Token) (ys left : List Token) → (more : List Token) × (ys ++ t ∷ left ≡ next_or t ys ∷ more)
next_stands t [] left = (left, refl)
next_stands t (y ∷ ys) left = (ys ++ t ∷ left, refl)

module _ (symbols : List Symbol) where
  -- no variable is told behind a word of tokens that stand behind the front
  not_told_behind : (whole front xs ys : List Token) (at : ℕ) (text : List ℕ) (t : Token) (left : List Token) → HasNoStop (xs ++ Word at text ∷ ys) → InSentence symbols whole front ((xs ++ Word at text ∷ ys) ++ t ∷ left)
      → variable_told (record { earlier = front ++ (xs ++ Word at text ∷ []); last = next_or t ys }) ≡ None
  not_told_behind whole front xs ys at text t left stops s =
      let word = Word at text ∷ [] in
      let next = next_stands t ys left in
      let split : (xs ++ Word at text ∷ ys) ++ t ∷ left ≡ (xs ++ Word at text ∷ []) ++ (next_or t ys ∷ next.0) =
      append_assoc xs (Word at text ∷ ys) (t ∷ left) ∙ ap (λ us. xs ++ Word at text ∷ us) next.1 ∙ sym (append_assoc xs word (next_or t ys ∷ next.0)) in
      let few = all_join (λ t. is_sign Stop t ≡ false) xs (Word at text ∷ []) (all_split (λ t. is_sign Stop t ≡ false) xs (Word at text ∷ ys) stops).0 (refl, tt) in
      (clear_at symbols whole (front ++ (xs ++ word)) (next_or t ys) next.0 (further symbols whole front (xs ++ word) (next_or t ys ∷ next.0) few (subst (InSentence symbols whole front) split s))).variable

  pub clause_terms : (whole front ts : List Token) (at : ℕ) (t : Token) (left : List Token) → HasNoStop ts → HasNoColon front → ((zs : List Token) → is_table_row (front ++ Punctuation at Colon ∷ zs) ≡ false)
      → InSentence symbols whole (front ++ Punctuation at Colon ∷ []) (ts ++ t ∷ left) → SmallTerms [] ts t
  clause_terms whole front ts at t left stops colons row s xs ys n text e place opens named =
      let colon = Punctuation at Colon in
      let l = xs ++ Word n text ∷ [] in
      let here : (front ++ colon ∷ []) ++ (xs ++ Word n text ∷ []) ≡ front ++ colon ∷ (xs ++ Word n text ∷ []) = append_assoc front (colon ∷ []) l in
      told_small ((front ++ colon ∷ []) ++ l) (next_or t ys) (record { is_term = false; tokens = l }) xs n text
      (not_told_behind whole (front ++ colon ∷ []) xs ys n text t left (subst HasNoStop e stops) (subst (λ ts. InSentence symbols whole (front ++ colon ∷ []) (ts ++ t ∷ left)) e s))
      (ap formula here ∙ clause_formula front l at (row l) colons) refl place opens named

  -- ---- the words of the terms of an instance

  abbrev Ending : List Token → Token → Type 0
  Ending ts t = (before : List Token) × (ts ≡ before ++ t ∷ [])

  last_term-word : (n : ℕ) (so_far xs : List Token) (at : ℕ) (text : List ℕ) → Ending (last_term n so_far (xs ++ Word at text ∷ [])) (Word at text)
  last_term-word n so_far [] at text = by (n == 0)
    where
      by : (b : Bool) → Ending (if b && false then [] else so_far ++ Word at text ∷ []) (Word at text)
      by true = (so_far, refl)
      by false = (so_far, refl)
  last_term-word n so_far (x ∷ xs) at text = last_term-word (around n x) (if n == 0 && is_sign Comma x then [] else so_far ++ x ∷ []) xs at text

  -- the line's number, `instance`, the number of a line and `(`
  abbrev pub instance_front : ℕ → List ℕ → ℕ → ℕ → List ℕ → ℕ → List Token → List Token
  instance_front n number m k line at zs = Word n number ∷ Word m (codes "instance") ∷ Word k line ∷ Punctuation at Open ∷ zs

  terms_formula : (n : ℕ) (number : List ℕ) (m k : ℕ) (line : List ℕ) (at : ℕ) (zs : List Token) → is_table_row (Word n number ∷ []) ≡ false → HasNoColon zs
      → formula (instance_front n number m k line at zs) ≡ Some (record { is_term = true; tokens = last_term 0 [] zs })
  terms_formula n number m k line at zs row colons =
      ap (of_row (instance_front n number m k line at zs)) row ∙ ap (of_colon (instance_front n number m k line at zs)) (no_colon zs colons)

  pub instance_terms : (whole : List Token) (n : ℕ) (number : List ℕ) (m k : ℕ) (line : List ℕ) (at : ℕ) (ts : List Token) (t : Token) (left : List Token) → is_table_row (Word n number ∷ []) ≡ false
      → HasNoStop ts → HasNoColon ts → InSentence symbols whole (instance_front n number m k line at []) (ts ++ t ∷ left) → SmallWords true [] ts t
  instance_terms whole n number m k line at ts t left row stops colons s xs ys i text e place opens named =
      let l = xs ++ Word i text ∷ [] in
      let few = subst HasNoColon e colons in
      let front = all_join (λ t. is_sign Colon t ≡ false) xs (Word i text ∷ []) (all_split (λ t. is_sign Colon t ≡ false) xs (Word i text ∷ ys) few).0 (refl, tt) in
      let ends = last_term-word 0 [] xs i text in
      told_small (instance_front n number m k line at l) (next_or t ys) (record { is_term = true; tokens = last_term 0 [] l }) ends.0 i text
      (not_told_behind whole (instance_front n number m k line at []) xs ys i text t left (subst HasNoStop e stops) (subst (λ ts. InSentence symbols whole (instance_front n number m k line at []) (ts ++ t ∷ left)) e s))
      (terms_formula n number m k line at l row front) ends.1 refl opens named

pub instance_outside : (n : ℕ) (number : List ℕ) (m : ℕ) → is_table_row (Word n number ∷ []) ≡ false → formula (Word n number ∷ Word m (codes "instance") ∷ []) ≡ None
instance_outside n number m row = ap (of_row (Word n number ∷ Word m (codes "instance") ∷ [])) row
