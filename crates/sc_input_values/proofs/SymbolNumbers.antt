-- The place of a symbol in a signature.
use Rattle.std.proofs.Common.{◌≡◌, ◌≢◌, ◌∙◌, sym, ap, refl, ℕ, zero, suc, ◌<◌, ◌≤◌, Bool, true, false, List, [], ◌∷◌, length, get_or, slice_get, Option, Some, None, position, unwrap_or, arith, cond, nat_lt, subst}
use Rattle.std.specs.List.{AllByRecursion, position_or_len}
use Rattle.std.specs.Bool.{Decides}
use Rattle.std.proofs.lemmas.Bool.{lt-ltb}
use Rattle.std.proofs.lemmas.Option.{get_or_from_slice_get, slice_get_within}
use Rattle.std.proofs.lemmas.List.Sums.{position_or_len_is}
use Rattle.std.proofs.lemmas.Map.Made.{AllPairs-from_IsDistinct}
use Rattle.sc_term.specs.declared.SymId.{SymId}
use Rattle.sc_term.specs.declared.symbol.Symbol.{Symbol}
use Rattle.sc_term.specs.Symbol.{same_symbol, IsSignature}
use Rattle.sc_term.proofs.SymbolLaws.{equal_symbols, same_as_itself, found}
use Rattle.sc_input_rules.specs.Numbering.{symbol_number}

decides : (a b : Symbol) → Decides (same_symbol a b) (a ≡ b)
decides a b = (equal_symbols a b, λ e. ap (same_symbol a) (sym e) ∙ same_as_itself a)

place : (p : Symbol → Bool) (xs : List Symbol) (i : ℕ) → i < length xs → position_or_len p xs ≡ i → position p xs ≡ Some i
place p xs i within e = ap (λ n. cond (nat_lt n (length xs)) (Some n) None) e ∙ ap (λ b. cond b (Some i) None) (lt-ltb i (length xs) within)

-- in a signature a symbol stands once
pub place_of : (symbols : List Symbol) (s : Symbol) (i : ℕ) → IsSignature symbols → slice_get symbols i ≡ Some s → position (same_symbol s) symbols ≡ Some i
place_of symbols s i is at =
    let within : i < length symbols = slice_get_within symbols i s at in
    let there : get_or symbols i s ≡ s = get_or_from_slice_get symbols i s s at in
    let apart = AllPairs-from_IsDistinct decides symbols is.distinct in
    let before : (k : ℕ) → k < i → same_symbol s (get_or symbols k s) ≡ false = λ k below.
    no (same_symbol s (get_or symbols k s)) (λ e. apart k i s below within (sym (equal_symbols s (get_or symbols k s) e) ∙ sym there)) in
    place (same_symbol s) symbols i within
    (position_or_len_is (same_symbol s) symbols i s (omega arith) before (λ _. ap (same_symbol s) there ∙ same_as_itself s))
  where
    no : (b : Bool) → (b ≡ true → ⊥) → b ≡ false
    no true f = absurd (f refl)
    no false f = refl

no_place : (symbols : List Symbol) (s : Symbol) → ((i : ℕ) → slice_get symbols i ≢ Some s) → position (same_symbol s) symbols ≡ None
no_place symbols s nowhere = by (position (same_symbol s) symbols) refl
  where
    by : (o : Option ℕ) → position (same_symbol s) symbols ≡ o → o ≡ None
    by None e = refl
    by (Some i) e = absurd (nowhere i (found symbols s i e))

number_at : (symbols : List Symbol) (s : Symbol) (o : Option ℕ) (id : SymId) → position (same_symbol s) symbols ≡ o → id.0 ≡ unwrap_or o 0 → id ≡ symbol_number symbols s
number_at symbols s o id e is = λ j. record { 0 = (is ∙ sym (ap (λ p. unwrap_or p 0) e)) j }

pub number_found : (symbols : List Symbol) (s t : Symbol) (id : SymId) → s ≡ t → IsSignature symbols → slice_get symbols id.0 ≡ Some s → id ≡ symbol_number symbols t
number_found symbols s t id e is at = number_at symbols t (Some id.0) id (place_of symbols t id.0 is (at ∙ ap Some e)) refl

pub number_missing : (symbols : List Symbol) (s t : Symbol) (id : SymId) → s ≡ t → ((i : ℕ) → slice_get symbols i ≢ Some s) → id.0 ≡ 0 → id ≡ symbol_number symbols t
number_missing symbols s t id e nowhere zero_is = number_at symbols t None id (no_place symbols t (λ i at. nowhere i (at ∙ ap Some (sym e)))) zero_is

small_at : (symbols : List Symbol) (s : Symbol) (i : ℕ) → AllByRecursion (λ (x : Symbol). x.arity ≤ 8) symbols → slice_get symbols i ≡ Some s → s.arity ≤ 8
small_at [] s i small at = cc
small_at (x ∷ xs) s zero small at = let e : x ≡ s = cc in subst (λ (y : Symbol). y.arity ≤ 8) e small.0
small_at (x ∷ xs) s (suc i) small at = small_at xs s i small.1 at

-- no symbol of a signature has more than 8 arguments
pub number_over : (symbols : List Symbol) (s : Symbol) (id : SymId) → IsSignature symbols → 8 < s.arity → id.0 ≡ 0 → id ≡ symbol_number symbols s
number_over symbols s id is many = number_missing symbols s s id refl (λ i at. absurd (let small = small_at symbols s i is.arities at in omega arith))
