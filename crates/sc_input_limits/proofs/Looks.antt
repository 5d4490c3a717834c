-- What is read at the first places of a list, and tests over filtered lists.
use Rattle.std.proofs.Common.{◌≡◌, ◌∙◌, sym, ap, refl, ℕ, suc, ◌+◌, ◌-◌, ◌<◌, ◌≤◌, drop, Bool, true, false, not, ◌&&◌, ◌||◌, List, [], ◌∷◌, length, get_or, filter, arith}
use Rattle.std.proofs.lemmas.List.{drop_more}
use Rattle.sc_input_rules.specs.declared.written.Occurrence.{Occurrence}
use Rattle.sc_input_rules.specs.Numbering.{is_variable, same_name}
use Rattle.sc_input_rules.specs.Demodulator.{is_one_variable}
use Rattle.sc_input_rules.specs.ClauseLimits.{last_at}
use Rattle.std.specs.Prelude.{Some, None, nat_lt, codes, if◌then◌else◌}
use Rattle.std.specs.List.{list_any, list_all}
use Rattle.sc_input_rules.specs.declared.token.Token.{Token}
use Rattle.sc_input_rules.specs.Token.{at_of, is_word}
use Rattle.sc_input_rules.specs.Position.{opened, home_named}

pub opened_at : (xs : List Token) (a b : Token) → 3 ≤ length xs → a ≡ get_or xs 0 a → b ≡ get_or xs 2 b → opened xs ≡ (if is_word (codes "list") a then home_named b else None)
opened_at [] a b l e f = absurd (omega arith)
opened_at (x ∷ []) a b l e f = absurd (omega arith)
opened_at (x ∷ y ∷ []) a b l e f = absurd (omega arith)
opened_at (x ∷ y ∷ z ∷ zs) a b l e f = ap (λ (t : Token). if is_word (codes "list") t then home_named z else None) (sym e) ∙ ap (λ (t : Token). if is_word (codes "list") a then home_named t else None) (sym f)

module _ {X : Type 0} (f g h : X → Bool) where
  any_of_kept : (x : X) (xs : List X) (b c : Bool) → g x ≡ b → h x ≡ c → list_any f (filter g (filter h xs)) ≡ list_any (λ y. h y && (g y && f y)) xs → list_any f (filter g (filter h (x ∷ xs))) ≡ list_any (λ y. h y && (g y && f y)) (x ∷ xs)
  any_of_kept x xs true true e e' i = simp (e, e', i)
  any_of_kept x xs false true e e' i = simp (e, e', i)
  any_of_kept x xs true false e e' i = simp (e, e', i)
  any_of_kept x xs false false e e' i = simp (e, e', i)

  pub any-filters : (xs : List X) → list_any f (filter g (filter h xs)) ≡ list_any (λ y. h y && (g y && f y)) xs
  any-filters [] = refl
  any-filters (x ∷ xs) = any_of_kept x xs (g x) (h x) refl refl (any-filters xs)

  all_of_kept : (x : X) (xs : List X) (b c : Bool) → g x ≡ b → h x ≡ c → list_all f (filter g (filter h xs)) ≡ list_all (λ y. not (h y) || (not (g y) || f y)) xs → list_all f (filter g (filter h (x ∷ xs))) ≡ list_all (λ y. not (h y) || (not (g y) || f y)) (x ∷ xs)
  all_of_kept x xs true true e e' i = simp (e, e', i)
  all_of_kept x xs false true e e' i = simp (e, e', i)
  all_of_kept x xs true false e e' i = simp (e, e', i)
  all_of_kept x xs false false e e' i = simp (e, e', i)

  pub all-filters : (xs : List X) → list_all f (filter g (filter h xs)) ≡ list_all (λ y. not (h y) || (not (g y) || f y)) xs
  all-filters [] = refl
  all-filters (x ∷ xs) = all_of_kept x xs (g x) (h x) refl refl (all-filters xs)

-- the first name that passes the test stands behind one that doesn't
pub past_first : (p : Occurrence → Bool) (xs : List Occurrence) (i : ℕ) (x : Occurrence) → i < length xs → x ≡ get_or xs i x → p x ≡ false → is_one_variable (filter p (drop (i + 1) xs)) ≡ is_one_variable (filter p (drop i xs))
past_first p xs i x lt e fails =
    let one : drop i xs ≡ x ∷ drop (i + 1) xs = drop_more xs i x lt ∙ ap (λ (y : Occurrence). y ∷ drop (i + 1) xs) (sym e) in
    let skipped : filter p (x ∷ drop (i + 1) xs) ≡ filter p (drop (i + 1) xs) = rw fails refl in
    ap is_one_variable (sym skipped) ∙ ap (λ (ys : List Occurrence). is_one_variable (filter p ys)) (sym one)

-- where the last token begins
pub last_at_last : (xs : List Token) (t : Token) → 1 ≤ length xs → t ≡ get_or xs (length xs - 1) t → last_at xs ≡ Some (at_of t)
last_at_last [] t l e = absurd (omega arith)
last_at_last (x ∷ []) t l e = ap (λ (u : Token). Some (at_of u)) (sym e)
last_at_last (x ∷ y ∷ ys) t l e =
    let n : length (x ∷ y ∷ ys) - 1 ≡ suc (length (y ∷ ys) - 1) = omega arith in
    last_at_last (y ∷ ys) t (omega arith) (e ∙ ap (λ (n : ℕ). get_or (x ∷ y ∷ ys) n t) n)

list_all-same : {X : Type 0} (f g : X → Bool) → ((x : X) → f x ≡ g x) → (xs : List X) → list_all f xs ≡ list_all g xs
list_all-same f g e [] = refl
list_all-same f g e (x ∷ xs) = ap (λ (b : Bool). b && list_all f xs) (e x) ∙ ap (λ (b : Bool). g x && b) (list_all-same f g e xs)

-- each variable of the right side stands in the left side
pub all_held : (at : ℕ) (names : List Occurrence)
    → list_all (λ o. not (nat_lt at o.at) || (not (is_variable o) || list_any (λ p. nat_lt p.at at && (is_variable p && same_name o p)) names)) names
    ≡ list_all (λ o. list_any (same_name o) (filter is_variable (filter (λ p. nat_lt p.at at) names))) (filter is_variable (filter (λ o. nat_lt at o.at) names))
all_held at names =
    list_all-same _ _ (λ o. ap (λ (b : Bool). not (nat_lt at o.at) || (not (is_variable o) || b)) (sym (any-filters (same_name o) is_variable (λ p. nat_lt p.at at) names))) names
    ∙ sym (all-filters (λ o. list_any (same_name o) (filter is_variable (filter (λ p. nat_lt p.at at) names))) is_variable (λ o. nat_lt at o.at) names)
