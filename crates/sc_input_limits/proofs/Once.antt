-- What each of several once is, with one more or with more of them.
use Rattle.std.proofs.Common.{◌≡◌, ◌∙◌, sym, ap, subst, refl, ℕ, zero, suc, ◌≤◌, Bool, true, false, ◌||◌, List, [], ◌∷◌, ◌++◌, length, map, length-append, append_assoc, arith}
use Rattle.std.specs.Prelude.{Option, Some, None, option_map, slice_get, if◌then◌else◌}
use Rattle.std.specs.List.{list_any}
use Rattle.std.proofs.lemmas.List.{map-append, append-nil, length-map}
use Rattle.sc_input_rules.specs.Numbering.{Found, once}
use Rattle.sc_input_limits.specs.declared.symbols.WrittenSymbol.{WrittenSymbol}
use Rattle.sc_input_limits.specs.Symbols.{same_written, as_written, same_found, Keeps, one_too_many, KeepsOrTells, FindsMore}

or-false : (b : Bool) → (b || false) ≡ b
or-false true = refl
or-false false = refl

or-swap : (a b c : Bool) → ((a || b) || c) ≡ (b || (a || c))
or-swap true true c = refl
or-swap true false c = refl
or-swap false true c = refl
or-swap false false c = refl

module _ {X : Type 0} (same : X → X → Bool) where
  abbrev added : Bool → X → List X
  added among x = if among then [] else x ∷ []

  abbrev chosen : Bool → X → List X → List X → List X
  chosen among x others kept = if among then others else x ∷ kept

  once-one : (before : List X) (x : X) → once same before (x ∷ []) ≡ added (list_any (same x) before) x
  once-one before x = by (list_any (same x) before)
    where
      by : (b : Bool) → chosen b x [] [] ≡ added b x
      by true = refl
      by false = refl

  pub once-one_more : (before xs : List X) (x : X) → once same before (xs ++ x ∷ []) ≡ once same before xs ++ added (list_any (same x) before || list_any (same x) (once same before xs)) x
  once-one_more before [] x = once-one before x ∙ ap (λ (b : Bool). added b x) (sym (or-false (list_any (same x) before)))
  once-one_more before (y ∷ ys) x = by (list_any (same y) before) (once-one_more before ys x) (once-one_more (y ∷ before) ys x)
    where
      by : (b : Bool) → once same before (ys ++ x ∷ []) ≡ once same before ys ++ added (list_any (same x) before || list_any (same x) (once same before ys)) x
          → once same (y ∷ before) (ys ++ x ∷ []) ≡ once same (y ∷ before) ys ++ added ((same x y || list_any (same x) before) || list_any (same x) (once same (y ∷ before) ys)) x
          → chosen b y (once same before (ys ++ x ∷ [])) (once same (y ∷ before) (ys ++ x ∷ []))
          ≡ chosen b y (once same before ys) (once same (y ∷ before) ys) ++ added (list_any (same x) before || list_any (same x) (chosen b y (once same before ys) (once same (y ∷ before) ys))) x
      by true h k = h
      by false h k =
          ap (λ (zs : List X). y ∷ zs) k
          ∙ ap (λ (b : Bool). y ∷ (once same (y ∷ before) ys ++ added b x)) (or-swap (same x y) (list_any (same x) before) (list_any (same x) (once same (y ∷ before) ys)))

  -- the first of them stay where they are
  pub once-first : (before xs ys : List X) (k : ℕ) (z : X) → slice_get (once same before xs) k ≡ Some z → slice_get (once same before (xs ++ ys)) k ≡ Some z
  once-first before [] ys k z e = absurd cc
  once-first before (x ∷ xs) ys k z e = by (list_any (same x) before) k (once-first before xs ys) (once-first (x ∷ before) xs ys) e
    where
      by : (b : Bool) (k : ℕ) → ((k : ℕ) (z : X) → slice_get (once same before xs) k ≡ Some z → slice_get (once same before (xs ++ ys)) k ≡ Some z)
          → ((k : ℕ) (z : X) → slice_get (once same (x ∷ before) xs) k ≡ Some z → slice_get (once same (x ∷ before) (xs ++ ys)) k ≡ Some z)
          → slice_get (chosen b x (once same before xs) (once same (x ∷ before) xs)) k ≡ Some z → slice_get (chosen b x (once same before (xs ++ ys)) (once same (x ∷ before) (xs ++ ys))) k ≡ Some z
      by true k h h' e = h k z e
      by false zero h h' e = e
      by false (suc k) h h' e = h' k z e

-- ---- symbols

abbrev written_at : Found → WrittenSymbol
written_at f = as_written f.symbol

any-written : (f : Found) (gs : List Found) → list_any (same_found f) gs ≡ list_any (same_written (written_at f)) (map written_at gs)
any-written f [] = refl
any-written f (g ∷ gs) = ap (λ (b : Bool). same_found f g || b) (any-written f gs)

among : (found : List Found) (kept : List WrittenSymbol) (f : Found) (b : Bool) → Keeps found kept → list_any (same_written (written_at f)) kept ≡ b
    → once same_found [] (found ++ f ∷ []) ≡ once same_found [] found ++ added same_found b f
among found kept f b h e =
    once-one_more same_found [] found f
    ∙ ap (λ (b : Bool). once same_found [] found ++ added same_found b f) (any-written f (once same_found [] found) ∙ ap (list_any (same_written (written_at f))) (sym h.once_each) ∙ e)

-- the symbol is kept already
pub found_again : (found : List Found) (kept : List WrittenSymbol) (f : Found) → Keeps found kept → list_any (same_written (written_at f)) kept ≡ true → Keeps (found ++ f ∷ []) kept
found_again found kept f h e = record {
  once_each = h.once_each ∙ ap (map written_at) (sym (among found kept f true h e ∙ append-nil (once same_found [] found)));
  few = h.few;
}

-- the symbol is new
pub found_new : (found : List Found) (kept : List WrittenSymbol) (f : Found) → Keeps found kept → list_any (same_written (written_at f)) kept ≡ false → suc (length kept) ≤ 4096 → Keeps (found ++ f ∷ []) (kept ++ written_at f ∷ [])
found_new found kept f h e room = record {
  once_each = ap (λ (ks : List WrittenSymbol). ks ++ written_at f ∷ []) h.once_each ∙ sym (map-append written_at (once same_found [] found) (f ∷ [])) ∙ ap (map written_at) (sym (among found kept f false h e));
  few = omega (arith, length-append kept (written_at f ∷ []));
}

get_at_end : {X : Type 0} (xs : List X) (x : X) (k : ℕ) → length xs ≡ k → slice_get (xs ++ x ∷ []) k ≡ Some x
get_at_end [] x zero e = refl
get_at_end [] x (suc k) e = absurd (omega arith)
get_at_end (y ∷ ys) x zero e = absurd (omega arith)
get_at_end (y ∷ ys) x (suc k) e = get_at_end ys x k (omega arith)

-- the symbol is new, and one too many
pub found_too_many : (found : List Found) (kept : List WrittenSymbol) (f : Found) → Keeps found kept → list_any (same_written (written_at f)) kept ≡ false → 4096 ≤ length kept → one_too_many (found ++ f ∷ []) ≡ Some f.at
found_too_many found kept f h e full =
    let n : length (once same_found [] found) ≡ 4096 = omega (arith, h.few, full, ap length h.once_each, length-map (once same_found [] found) written_at) in
    ap (λ (fs : List Found). option_map (λ f. f.at) (slice_get fs 4096)) (among found kept f false h e)
    ∙ ap (option_map (λ f. f.at)) (get_at_end (once same_found [] found) f 4096 n)

-- ---- more and more

pub finds_none : (kept : List WrittenSymbol) → FindsMore [] kept kept None
finds_none kept found h = let P : List Found → Type 0 = λ fs. Keeps fs kept in subst P (sym (append-nil found)) h

told_stays : (found more : List Found) (at : ℕ) → one_too_many found ≡ Some at → one_too_many (found ++ more) ≡ Some at
told_stays found more at e = by (slice_get (once same_found [] found) 4096) refl e
  where
    by : (o : Option Found) → slice_get (once same_found [] found) 4096 ≡ o → option_map (λ f. f.at) o ≡ Some at → one_too_many (found ++ more) ≡ Some at
    by None e e' = absurd cc
    by (Some f) e e' = ap (option_map (λ f. f.at)) (once-first same_found [] found more 4096 f e) ∙ e'

pub finds_then : (more others : List Found) (before between after : List WrittenSymbol) (told : Option ℕ) → FindsMore more before between None → FindsMore others between after told → FindsMore (more ++ others) before after told
finds_then more others before between after told h k found kept =
    let P : List Found → Type 0 = λ fs. KeepsOrTells fs after told in
    subst P (append_assoc found more others) (k (found ++ more) (h found kept))

pub finds_told : (more others : List Found) (before after : List WrittenSymbol) (at : ℕ) → FindsMore more before after (Some at) → FindsMore (more ++ others) before after (Some at)
finds_told more others before after at h found kept =
    ap one_too_many (sym (append_assoc found more others)) ∙ told_stays (found ++ more) others at (h found kept)
