-- Finding symbols in one item after another.
use Rattle.std.proofs.Common.{◌≡◌, ◌∙◌, sym, ap, subst, refl, ℕ, ◌+◌, ◌<◌, Bool, true, false, not, List, [], ◌∷◌, ◌++◌, length, get_or, take, drop, map, filter, append_assoc}
use Rattle.std.specs.Prelude.{Option, Some, None, flat_map, if◌then◌else◌}
use Rattle.std.proofs.lemmas.List.{append-nil, map-append, take_more, take-append-drop}
use Rattle.sc_input_rules.specs.declared.written.Occurrence.{Occurrence}
use Rattle.sc_input_rules.specs.declared.written.WrittenLiteral.{WrittenLiteral}
use Rattle.sc_input_rules.specs.Numbering.{Found, is_variable, function_at, found_in}
use Rattle.sc_input_limits.specs.declared.symbols.WrittenSymbol.{WrittenSymbol}
use Rattle.sc_input_limits.specs.Symbols.{FindsMore}
use Rattle.sc_input_limits.proofs.Once.{finds_none, finds_then, finds_told}

module _ {A : Type 0} (g : List A → List Found) (g-append : (xs ys : List A) → g (xs ++ ys) ≡ g xs ++ g ys) where
  one_more_taken : (xs : List A) (i : ℕ) (x : A) → i < length xs → x ≡ get_or xs i x → g (take (i + 1) xs) ≡ g (take i xs) ++ g (x ∷ [])
  one_more_taken xs i x lt e = ap g (take_more xs i x lt ∙ ap (λ (y : A). take i xs ++ y ∷ []) (sym e)) ∙ g-append (take i xs) (x ∷ [])

  finds_one_more : (xs : List A) (i : ℕ) (x : A) (before between after : List WrittenSymbol) → i < length xs → x ≡ get_or xs i x
      → FindsMore (g (take i xs)) before between None → FindsMore (g (x ∷ [])) between after None → FindsMore (g (take (i + 1) xs)) before after None
  finds_one_more xs i x before between after lt e h k =
      let P : List Found → Type 0 = λ fs. FindsMore fs before after None in
      subst P (sym (one_more_taken xs i x lt e)) (finds_then (g (take i xs)) (g (x ∷ [])) before between after None h k)

  tells_in_one : (xs : List A) (i : ℕ) (x : A) (before between after : List WrittenSymbol) (at : ℕ) → i < length xs → x ≡ get_or xs i x
      → FindsMore (g (take i xs)) before between None → FindsMore (g (x ∷ [])) between after (Some at) → FindsMore (g xs) before after (Some at)
  tells_in_one xs i x before between after at lt e h k =
      let P : List Found → Type 0 = λ fs. FindsMore fs before after (Some at) in
      let whole : g xs ≡ g (take (i + 1) xs) ++ g (drop (i + 1) xs) = ap g (sym (take-append-drop (i + 1) xs)) ∙ g-append (take (i + 1) xs) (drop (i + 1) xs) in
      let front : FindsMore (g (take (i + 1) xs)) before after (Some at) =
      subst P (sym (one_more_taken xs i x lt e)) (finds_then (g (take i xs)) (g (x ∷ [])) before between after (Some at) h k) in
      subst P (sym whole) (finds_told (g (take (i + 1) xs)) (g (drop (i + 1) xs)) before after at front)

-- ---- the function symbols of names

abbrev functions : List Occurrence → List Found
functions names = map function_at (filter (λ o. not (is_variable o)) names)

kept_first : (b : Bool) (x : Occurrence) (xs ys : List Occurrence) → (if b then x ∷ (xs ++ ys) else (xs ++ ys)) ≡ (if b then x ∷ xs else xs) ++ ys
kept_first true x xs ys = refl
kept_first false x xs ys = refl

filter-both : (p : Occurrence → Bool) (xs ys : List Occurrence) → filter p (xs ++ ys) ≡ filter p xs ++ filter p ys
filter-both p [] ys = refl
filter-both p (x ∷ xs) ys = ap (λ (zs : List Occurrence). if p x then x ∷ zs else zs) (filter-both p xs ys) ∙ kept_first (p x) x (filter p xs) (filter p ys)

functions-append : (xs ys : List Occurrence) → functions (xs ++ ys) ≡ functions xs ++ functions ys
functions-append xs ys =
    ap (map function_at) (filter-both (λ o. not (is_variable o)) xs ys) ∙ map-append function_at (filter (λ o. not (is_variable o)) xs) (filter (λ o. not (is_variable o)) ys)

abbrev functions_if : Bool → Occurrence → List Found
functions_if b x = map function_at (if not b then x ∷ [] else [])

pub past_variable : (xs : List Occurrence) (i : ℕ) (x : Occurrence) (before after : List WrittenSymbol) → i < length xs → x ≡ get_or xs i x → is_variable x ≡ true
    → FindsMore (functions (take i xs)) before after None → FindsMore (functions (take (i + 1) xs)) before after None
past_variable xs i x before after lt e v h =
    let P : Bool → Type 0 = λ b. FindsMore (functions_if b x) after after None in
    finds_one_more functions functions-append xs i x before after after lt e h (subst P (sym v) (finds_none after))

pub past_function : (xs : List Occurrence) (i : ℕ) (x : Occurrence) (before between after : List WrittenSymbol) → i < length xs → x ≡ get_or xs i x → is_variable x ≡ false
    → FindsMore (functions (take i xs)) before between None → FindsMore (function_at x ∷ []) between after None → FindsMore (functions (take (i + 1) xs)) before after None
past_function xs i x before between after lt e v h k =
    let P : Bool → Type 0 = λ b. FindsMore (functions_if b x) between after None in
    finds_one_more functions functions-append xs i x before between after lt e h (subst P (sym v) k)

pub at_function : (xs : List Occurrence) (i : ℕ) (x : Occurrence) (before between after : List WrittenSymbol) (at : ℕ) → i < length xs → x ≡ get_or xs i x → is_variable x ≡ false
    → FindsMore (functions (take i xs)) before between None → FindsMore (function_at x ∷ []) between after (Some at) → FindsMore (functions xs) before after (Some at)
at_function xs i x before between after at lt e v h k =
    let P : Bool → Type 0 = λ b. FindsMore (functions_if b x) between after (Some at) in
    tells_in_one functions functions-append xs i x before between after at lt e h (subst P (sym v) k)

-- ---- the symbols of literals

abbrev symbols_in : List WrittenLiteral → List Found
symbols_in literals = flat_map found_in literals

symbols_in-append : (xs ys : List WrittenLiteral) → symbols_in (xs ++ ys) ≡ symbols_in xs ++ symbols_in ys
symbols_in-append [] ys = refl
symbols_in-append (x ∷ xs) ys = ap (λ (fs : List Found). found_in x ++ fs) (symbols_in-append xs ys) ∙ sym (append_assoc (found_in x) (symbols_in xs) (symbols_in ys))

alone : (x : WrittenLiteral) (before after : List WrittenSymbol) (told : Option ℕ) → FindsMore (found_in x) before after told → FindsMore (symbols_in (x ∷ [])) before after told
alone x before after told h = let P : List Found → Type 0 = λ fs. FindsMore fs before after told in subst P (sym (append-nil (found_in x))) h

pub past_literal : (xs : List WrittenLiteral) (i : ℕ) (x : WrittenLiteral) (before between after : List WrittenSymbol) → i < length xs → x ≡ get_or xs i x
    → FindsMore (symbols_in (take i xs)) before between None → FindsMore (found_in x) between after None → FindsMore (symbols_in (take (i + 1) xs)) before after None
past_literal xs i x before between after lt e h k =
    finds_one_more symbols_in symbols_in-append xs i x before between after lt e h (alone x between after None k)

pub at_literal : (xs : List WrittenLiteral) (i : ℕ) (x : WrittenLiteral) (before between after : List WrittenSymbol) (at : ℕ) → i < length xs → x ≡ get_or xs i x
    → FindsMore (symbols_in (take i xs)) before between None → FindsMore (found_in x) between after (Some at) → FindsMore (symbols_in xs) before after (Some at)
at_literal xs i x before between after at lt e h k =
    tells_in_one symbols_in symbols_in-append xs i x before between after at lt e h (alone x between after (Some at) k)
