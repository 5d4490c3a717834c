-- Where no variable that is too large is told behind the words of a side, it has none.
use Rattle.std.proofs.Common.{◌≡◌, ◌∙◌, sym, ap, subst, refl, Bool, true, false, List, [], ◌∷◌, ◌++◌, append_assoc, arith}
use Rattle.std.specs.Prelude.{ℕ, ◌+◌, ◌==◌, ◌||◌, ◌&&◌, codes}
use Rattle.std.specs.List.{AllByRecursion}
use Rattle.std.proofs.lemmas.Bool.{eqb-true}
use Rattle.sc_term.proofs.SubstitutionLaws.{all_join}
use Rattle.sc_input_rules.specs.declared.token.Token.{Token}
use Rattle.sc_input_rules.specs.declared.token.Token.TheVariants.{Word, Punctuation}
use Rattle.sc_input_rules.specs.declared.token.Sign.TheVariants.{Open, Close, Comma}
use Rattle.sc_input_rules.specs.Token.{is_sign, same_text}
use Rattle.sc_input_rules.specs.declared.written.Occurrence.{Occurrence}
use Rattle.sc_input_rules.specs.Measures.{open_commas, one_more}
use Rattle.sc_input_rules.proofs.Spelling.{Head, Sides, Empty, Entry, in_brackets, behind_comma, tokens_of, count, occurrence, occurrences, IsName, AreNames}
use Rattle.sc_input_rules.proofs.ArityLaw.{open_commas-append, side-commas}
use Rattle.sc_text_rules.specs.TextWords.{is_some_digits, digits_behind_x, is_longer_or_above, is_large_variable}
use Rattle.sc_text_rules.specs.TextPosition.{is_nonempty}

abbrev pub SmallVariable : Occurrence → Type 0
SmallVariable o = is_large_variable o ≡ false

abbrev pub bare : ℕ → List ℕ → Occurrence
bare at text = record { at = at; name = text; arity = 0 }

-- the token behind some tokens, which t follows
abbrev pub next_or : Token → List Token → Token
next_or t [] = t
next_or t (u ∷ us) = u

pub next_or-append : (t : Token) (xs ys : List Token) → next_or t (xs ++ ys) ≡ next_or (next_or t ys) xs
next_or-append t [] ys = refl
next_or-append t (x ∷ xs) ys = refl

-- Words of the tokens, which t follows, are no large variables, in argument lists or everywhere.
abbrev pub SmallWords : Bool → List ℕ → List Token → Token → Type 0
SmallWords always commas ts t =
    (xs ys : List Token) (at : ℕ) (text : List ℕ) → ts ≡ xs ++ Word at text ∷ ys → (always || is_nonempty (open_commas commas xs)) ≡ true
    → is_sign Open (next_or t ys) ≡ false → same_text (codes "$F") text ≡ false → SmallVariable (bare at text)

pub small_front : (always : Bool) (commas : List ℕ) (xs ys : List Token) (t : Token) → SmallWords always commas (xs ++ ys) t → SmallWords always commas xs (next_or t ys)
small_front always commas xs ys t s us vs at text e here opens named =
    s us (vs ++ ys) at text (ap (λ ts. ts ++ ys) e ∙ append_assoc us (Word at text ∷ vs) ys) here (ap (is_sign Open) (next_or-append t vs ys) ∙ opens) named

pub small_back : (always : Bool) (commas : List ℕ) (xs ys : List Token) (t : Token) → SmallWords always commas (xs ++ ys) t → SmallWords always (open_commas commas xs) ys t
small_back always commas xs ys t s us vs at text e here opens named =
    s (xs ++ us) vs at text (ap (λ ts. xs ++ ts) e ∙ sym (append_assoc xs us (Word at text ∷ vs)))
    (ap (λ (c : List ℕ). always || is_nonempty c) (open_commas-append commas xs us) ∙ here) opens named

-- ---- a name with arguments is no variable

not_none : (n : ℕ) → (n + 1 == 0) ≡ false
not_none n = by (n + 1 == 0) refl
  where
    by : (b : Bool) → (n + 1 == 0) ≡ b → b ≡ false
    by true e = let k = eqb-true (n + 1) 0 e in absurd (omega (arith, k))
    by false e = refl

pub applied_small : (h : Head) (g : Head) (args : Sides) (comma : ℕ) (others : Sides) → SmallVariable (occurrence h (Entry g args comma others))
applied_small h g args comma others =
    ap (λ (b : Bool). (b && is_some_digits (digits_behind_x h.text)) && is_longer_or_above 65535 (digits_behind_x h.text)) (not_none (count others))

pub head_small : (h : Head) (args : Sides) → (args ≡ Empty → SmallVariable (bare h.at h.text)) → SmallVariable (occurrence h args)
head_small h Empty s = s refl
head_small h (Entry g args comma others) s = applied_small h g args comma others

-- ---- sides

always-or : (always : Bool) → (always || true) ≡ true
always-or true = refl
always-or false = refl

one_more-nonempty : (always : Bool) (commas : List ℕ) → (always || is_nonempty commas) ≡ true → (always || is_nonempty (one_more commas)) ≡ true
one_more-nonempty always [] e = e
one_more-nonempty always (n ∷ ns) e = e

abbrev AreSmall : Sides → Type 0
AreSmall f = AllByRecursion SmallVariable (occurrences f)

-- where each of the sides' own laws holds
abbrev SidesSmall : Bool → Sides → Type 0
SidesSmall always f = (commas : List ℕ) (t : Token) → (always || is_nonempty commas) ≡ true → is_sign Open t ≡ false → AreNames f → SmallWords always commas (tokens_of f) t → AreSmall f

brackets_by : (always : Bool) (h : Head) (args : Sides) (commas : List ℕ) (t : Token) → AreNames args → SmallWords always commas (in_brackets h args (tokens_of args)) t → SidesSmall always args → AreSmall args
brackets_by always h Empty commas t names s ih = tt
brackets_by always h (Entry g args comma others) commas t names s ih =
    let ts = tokens_of (Entry g args comma others) in
    let close = Punctuation h.closing Close ∷ [] in
    let inner = small_back always commas (Punctuation h.opening Open ∷ []) (ts ++ close) t s in
    ih (0 ∷ commas) (Punctuation h.closing Close) (always-or always) refl names (small_front always (0 ∷ commas) ts close t inner)

comma_by : (always : Bool) (at : ℕ) (others : Sides) (commas : List ℕ) (t : Token) → (always || is_nonempty commas) ≡ true → is_sign Open t ≡ false → AreNames others
    → SmallWords always commas (behind_comma at others (tokens_of others)) t → SidesSmall always others → AreSmall others
comma_by always at Empty commas t here opens names s ih = tt
comma_by always at (Entry g args comma others) commas t here opens names s ih =
    ih (one_more commas) t (one_more-nonempty always commas here) opens names
    (small_back always commas (Punctuation at Comma ∷ []) (tokens_of (Entry g args comma others)) t s)

next-comma : (at : ℕ) (others : Sides) (t : Token) → is_sign Open t ≡ false → is_sign Open (next_or t (behind_comma at others (tokens_of others))) ≡ false
next-comma at Empty t opens = opens
next-comma at (Entry g args comma others) t opens = refl

head_by : (always : Bool) (h : Head) (args : Sides) (more : List Token) (commas : List ℕ) (t : Token) → (always || is_nonempty commas) ≡ true → is_sign Open (next_or t more) ≡ false → IsName h
    → SmallWords always commas (Word h.at h.text ∷ (in_brackets h args (tokens_of args) ++ more)) t → SmallVariable (occurrence h args)
head_by always h Empty more commas t here opens name s = s [] more h.at h.text refl here opens name
head_by always h (Entry g args comma others) more commas t here opens name s = applied_small h g args comma others

pub sides_small : (always : Bool) (f : Sides) (commas : List ℕ) (t : Token) → (always || is_nonempty commas) ≡ true → is_sign Open t ≡ false → AreNames f → SmallWords always commas (tokens_of f) t
    → AllByRecursion SmallVariable (occurrences f)
sides_small always Empty commas t here opens names s = tt
sides_small always (Entry h args comma others) commas t here opens names s =
    let inner = in_brackets h args (tokens_of args) in
    let behind = behind_comma comma others (tokens_of others) in
    let rest = small_back always commas (Word h.at h.text ∷ []) (inner ++ behind) t s in
    let last = subst (λ (c : List ℕ). SmallWords always c behind t) (side-commas h args commas) (small_back always commas inner behind t rest) in (
      head_by always h args behind commas t here (next-comma comma others t opens) names.0 s,
      all_join SmallVariable (occurrences args) (occurrences others)
          (brackets_by always h args commas (next_or t behind) names.1 (small_front always commas inner behind t rest) (sides_small always args))
          (comma_by always comma others commas t here opens names.2 last (sides_small always others)),
    )

-- arguments, wherever their name stands
pub brackets_small : (always : Bool) (h : Head) (args : Sides) (commas : List ℕ) (t : Token) → AreNames args → SmallWords always commas (in_brackets h args (tokens_of args)) t → AllByRecursion SmallVariable (occurrences args)
brackets_small always h args commas t names s = brackets_by always h args commas t names s (sides_small always args)
