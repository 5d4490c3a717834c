-- Where the next token stands, with one token more.
use Rattle.std.proofs.Common.{◌≡◌, ◌∙◌, sym, ap, subst, refl, Bool, true, false, not, ◌&&◌, List, [], ◌∷◌, ◌++◌}
use Rattle.std.specs.Prelude.{Option, Some, None, codes, if◌then◌else◌}
use Rattle.sc_input_rules.specs.declared.token.Token.{Token}
use Rattle.sc_input_rules.specs.declared.token.Token.TheVariants.{Word, Punctuation, Refused}
use Rattle.sc_input_rules.specs.declared.token.Sign.TheVariants.{Open, Comma, Colon}
use Rattle.sc_input_rules.specs.Token.{is_sign, is_word, same_text}
use Rattle.sc_text_rules.specs.TextPosition.{Formula, behind_first, last_term, is_table_row, formula}
use Rattle.sc_text_limits.specs.declared.part.SentencePart.{SentencePart}
use Rattle.sc_text_limits.specs.declared.part.SentencePart.TheVariants.{First, FirstOpen, RowName, Row, Step, Instance, Terms, Clause}
use Rattle.sc_text_limits.specs.Parts.{part_of, part_of_first, formula_in, Stands, part_with, joins}
use Rattle.sc_text_limits.specs.Formulas.{is_outer}
use Rattle.sc_text_limits.proofs.Standing.{found_more, behind_first-one_more, term_with, last_term-one_more}

-- the formula so far, with one token more
abbrev pub formula_with : SentencePart → Token → List Token → List Token
formula_with p t tokens = if joins p (is_outer tokens) t then tokens ++ t ∷ [] else []

-- ---- sentences of two and more tokens, by what decides

abbrev Found : Type 0
Found = Option (List Token)

abbrev formula_by : Bool → Found → Bool → Found → Option Formula
formula_by row colon instance round =
    elim row [
      | true ↦ None
      | false ↦ elim colon [
        | Some ts ↦ Some (record { is_term = false; tokens = ts })
        | None ↦ elim instance [
          | true ↦ elim round [ Some ts ↦ Some (record { is_term = true; tokens = last_term 0 [] ts }) | None ↦ None ]
          | false ↦ None
        ]
      ]
    ]

abbrev pub part_by : Bool → Found → Bool → Found → SentencePart
part_by row colon instance round =
    if row then Row else elim colon [ Some ts ↦ Clause | None ↦ if instance then elim round [ Some ts ↦ Terms | None ↦ Instance ] else Step ]

record StandsBy (row : Bool) (colon : Found) (instance : Bool) (round : Found) (p : SentencePart) (tokens : List Token) : Type 0 where
  pub part : p ≡ part_by row colon instance round
  pub so_far : formula_by row colon instance round ≡ formula_in p tokens
  pub none : formula_in p tokens ≡ None → tokens ≡ []

tokens_of : (f g : Formula) → Some f ≡ Some g → f.tokens ≡ g.tokens
tokens_of f g e = let same : f ≡ g = cc in ap (λ (f : Formula). f.tokens) same

not_none : (f : Formula) → Some f ≡ None → ⊥
not_none f e = cc

in_row : (colon round : Found) (instance : Bool) → StandsBy true colon instance round Row []
in_row colon round instance = record { part = refl; so_far = refl; none = λ e. refl }

in_clause : (ts : List Token) (round : Found) (instance : Bool) → StandsBy false (Some ts) instance round Clause ts
in_clause ts round instance = record { part = refl; so_far = refl; none = λ e. absurd (not_none _ e) }

in_step : (round : Found) → StandsBy false None false round Step []
in_step round = record { part = refl; so_far = refl; none = λ e. refl }

in_instance : StandsBy false None true None Instance []
in_instance = record { part = refl; so_far = refl; none = λ e. refl }

in_terms : (ts : List Token) → StandsBy false None true (Some ts) Terms (last_term 0 [] ts)
in_terms ts = record { part = refl; so_far = refl; none = λ e. absurd (not_none _ e) }

abbrev Further : Bool → Found → Bool → Found → SentencePart → List Token → Token → Type 0
Further row colon instance round p tokens t =
    StandsBy row (found_more (is_sign Colon t) t colon) instance (found_more (is_sign Open t) t round) (part_with t p) (formula_with p t tokens)

further_step : (round : Found) (t : Token) → Further false None false round Step [] t
further_step round t = by (is_sign Colon t)
  where
    by : (b : Bool) → StandsBy false (if b then Some [] else None) false (found_more (is_sign Open t) t round) (if b then Clause else Step) []
    by true = in_clause [] _ false
    by false = in_step _

further_instance : (t : Token) → Further false None true None Instance [] t
further_instance t = by (is_sign Colon t) (is_sign Open t)
  where
    by : (b o : Bool) → StandsBy false (if b then Some [] else None) true (if o then Some [] else None) (if b then Clause else if o then Terms else Instance) []
    by true o = in_clause [] _ true
    by false true = in_terms []
    by false false = in_instance

further_terms : (ts : List Token) (t : Token) → Further false None true (Some ts) Terms (last_term 0 [] ts) t
further_terms ts t = by (is_sign Colon t) (is_outer (last_term 0 [] ts) && is_sign Comma t) refl
  where
    by : (b ends : Bool) → (is_outer (last_term 0 [] ts) && is_sign Comma t) ≡ ends
        → StandsBy false (if b then Some [] else None) true (Some (ts ++ t ∷ [])) (if b then Clause else Terms) (if not b && not ends then last_term 0 [] ts ++ t ∷ [] else [])
    by true ends e = in_clause [] _ true
    by false ends e =
        let P : List Token → Type 0 = λ f. StandsBy false None true (Some (ts ++ t ∷ [])) Terms f in
        subst P (last_term-one_more 0 [] ts t refl ∙ ap (λ (b : Bool). term_with b t (last_term 0 [] ts)) e ∙ turned ends) (in_terms (ts ++ t ∷ []))
      where
        turned : (b : Bool) → term_with b t (last_term 0 [] ts) ≡ (if not b then last_term 0 [] ts ++ t ∷ [] else [])
        turned true = refl
        turned false = refl

further : (row : Bool) (colon : Found) (instance : Bool) (round : Found) (tokens : List Token) (t : Token)
    → formula_by row colon instance round ≡ formula_in (part_by row colon instance round) tokens → (formula_in (part_by row colon instance round) tokens ≡ None → tokens ≡ [])
    → Further row colon instance round (part_by row colon instance round) tokens t
further true colon instance round tokens t e n = in_row _ _ instance
further false (Some ts) instance round tokens t e n =
    let P : List Token → Type 0 = λ f. Further false (Some ts) instance round Clause f t in subst P (tokens_of _ _ e) (in_clause (ts ++ t ∷ []) _ instance)
further false None false round tokens t e n = further_step round t
further false None true None tokens t e n = further_instance t
further false None true (Some ts) tokens t e n =
    let P : List Token → Type 0 = λ f. Further false None true (Some ts) Terms f t in subst P (tokens_of _ _ e) (further_terms ts t)

-- ---- the second token

abbrev pub part_first : Bool → Bool → Bool → SentencePart
part_first row c o = if row then RowName else if c then Clause else if o then FirstOpen else First

abbrev first_formula : Bool → Bool → Option Formula
first_formula row c = elim row [ true ↦ None | false ↦ elim (if c then Some [] else None) [ Some ts ↦ Some (record { is_term = false; tokens = ts }) | None ↦ None ] ]

-- behind the first token no formula has a token
first_empty : (a : Token) (tokens : List Token) → formula (a ∷ []) ≡ formula_in (part_of_first a) tokens → (formula_in (part_of_first a) tokens ≡ None → tokens ≡ []) → tokens ≡ []
first_empty a tokens = by (is_table_row (a ∷ [])) (is_sign Colon a) (is_sign Open a)
  where
    by : (row c o : Bool) → first_formula row c ≡ formula_in (part_first row c o) tokens → (formula_in (part_first row c o) tokens ≡ None → tokens ≡ []) → tokens ≡ []
    by true c o e n = n refl
    by false true o e n = sym (tokens_of _ _ e)
    by false false true e n = n refl
    by false false false e n = n refl

abbrev Second : Token → Bool → Bool → Bool → Type 0
Second t row c o =
    StandsBy row (if c then Some (t ∷ []) else if is_sign Colon t then Some [] else None) (is_word (codes "instance") t) (if o then Some (t ∷ []) else if is_sign Open t then Some [] else None)
    (part_with t (part_first row c o)) (formula_with (part_first row c o) t [])

second : (t : Token) (row c o : Bool) → Second t row c o
second t true c o = in_row _ _ _
second t false true o = in_clause (t ∷ []) _ _
second (Word at text) false false true = by (same_text (codes "instance") text)
  where
    by : (i : Bool) → StandsBy false None i (Some (Word at text ∷ [])) (if i then Terms else Step) (if i then Word at text ∷ [] else [])
    by true = in_terms (Word at text ∷ [])
    by false = in_step _
second (Word at text) false false false = by (same_text (codes "instance") text)
  where
    by : (i : Bool) → StandsBy false None i None (if i then Instance else Step) []
    by true = in_instance
    by false = in_step _
second (Punctuation at s) false false true = by (is_sign Colon (Punctuation at s))
  where
    by : (c : Bool) → StandsBy false (if c then Some [] else None) false (Some (Punctuation at s ∷ [])) (if c then Clause else Step) []
    by true = in_clause [] _ false
    by false = in_step _
second (Punctuation at s) false false false = by (is_sign Colon (Punctuation at s))
  where
    by : (c : Bool) → StandsBy false (if c then Some [] else None) false (if is_sign Open (Punctuation at s) then Some [] else None) (if c then Clause else Step) []
    by true = in_clause [] _ false
    by false = in_step _
second (Refused at kind) false false true = in_step _
second (Refused at kind) false false false = in_step _

-- ---- all

first : (t : Token) → Stands (t ∷ []) (part_of_first t) []
first t = record { part = refl; so_far = by (is_table_row (t ∷ [])) (is_sign Colon t) (is_sign Open t); none = λ e. refl }
  where
    by : (row c o : Bool) → first_formula row c ≡ formula_in (part_first row c o) []
    by true c o = refl
    by false true o = refl
    by false false true = refl
    by false false false = refl

abbrev Met : Token → Token → List Token → SentencePart → List Token → Type 0
Met a b rest p tokens =
    StandsBy (is_table_row (a ∷ [])) (behind_first (is_sign Colon) (a ∷ b ∷ rest)) (is_word (codes "instance") b) (behind_first (is_sign Open) (a ∷ b ∷ rest)) p tokens

met : (a b : Token) (rest : List Token) (p : SentencePart) (tokens : List Token) → Met a b rest p tokens → Stands (a ∷ b ∷ rest) p tokens
met a b rest p tokens h = record { part = h.part; so_far = h.so_far; none = h.none }

abbrev Grown : List Token → List Token → Token → SentencePart → Type 0
Grown sentence tokens t p = Stands (sentence ++ t ∷ []) (part_with t p) (formula_with p t tokens)

grown : (sentence tokens : List Token) (t : Token) → formula sentence ≡ formula_in (part_of sentence) tokens → (formula_in (part_of sentence) tokens ≡ None → tokens ≡ []) → Grown sentence tokens t (part_of sentence)
grown [] tokens t e n = first t
grown (a ∷ []) tokens t e n =
    let P : List Token → Type 0 = λ f. Grown (a ∷ []) f t (part_of_first a) in
    subst P (sym (first_empty a tokens e n)) (met a t [] _ _ (second t (is_table_row (a ∷ [])) (is_sign Colon a) (is_sign Open a)))
grown (a ∷ b ∷ rest) tokens t e n =
    let row = is_table_row (a ∷ []) in
    let c = behind_first (is_sign Colon) (a ∷ b ∷ rest) in
    let o = behind_first (is_sign Open) (a ∷ b ∷ rest) in
    let i = is_word (codes "instance") b in
    let p : SentencePart = part_by row c i o in
    let P : Found → Type 0 = λ c'. StandsBy row c' i (found_more (is_sign Open t) t o) (part_with t p) (formula_with p t tokens) in
    let Q : Found → Type 0 = λ o'. StandsBy row (behind_first (is_sign Colon) (a ∷ b ∷ (rest ++ t ∷ []))) i o' (part_with t p) (formula_with p t tokens) in
    met a b (rest ++ t ∷ []) _ _
    (subst Q (sym (behind_first-one_more (is_sign Open) (a ∷ b ∷ rest) t)) (subst P (sym (behind_first-one_more (is_sign Colon) (a ∷ b ∷ rest) t)) (further row c i o tokens t e n)))

-- a sentence so far with one token more
pub stands_with : (sentence tokens : List Token) (p : SentencePart) (t : Token) → Stands sentence p tokens → Stands (sentence ++ t ∷ []) (part_with t p) (formula_with p t tokens)
stands_with sentence tokens p t h =
    let P : SentencePart → Type 0 = λ q. Grown sentence tokens t q in
    let Q : SentencePart → Type 0 = λ q. formula sentence ≡ formula_in q tokens in
    let R : SentencePart → Type 0 = λ q. formula_in q tokens ≡ None → tokens ≡ [] in
    subst P (sym h.part) (grown sentence tokens t (subst Q h.part h.so_far) (subst R h.part h.none))
