-- Each symbol of the clauses has its number among their symbols.
use Rattle.std.proofs.Common.{◌≡◌, ◌∙◌, sym, ap, refl, ℕ, suc, ◌+◌, ◌<◌, Bool, true, false, List, [], ◌∷◌, map, length, cond, Option, Some, None, arith}
use Rattle.std.specs.Prelude.{◌||◌, ◌&&◌, not, filter, flat_map, slice_get, position, unwrap_or, nat_lt, ◌==◌}
use Rattle.std.specs.List.{AllByRecursion, list_any, position_or_len}
use Rattle.std.proofs.lemmas.Bool.{le-leb, eq-eqb}
use Rattle.sc_term.proofs.SubstitutionLaws.{all_split}
use Rattle.sc_term.specs.declared.symbol.Symbol.{Symbol}
use Rattle.sc_term.specs.Symbol.{same_symbol, role_number, equality}
use Rattle.sc_term.proofs.SymbolLaws.{same_as_itself, found}
use Rattle.sc_input_rules.specs.declared.written.Occurrence.{Occurrence}
use Rattle.sc_input_rules.specs.declared.written.WrittenLiteral.{WrittenLiteral}
use Rattle.sc_input_rules.specs.Syntax.{WrittenClause}
use Rattle.sc_input_rules.specs.Numbering.{number_of, Found, is_variable, function_at, predicate_at, found_in, symbol_order, symbols_of, symbol_number}
use Rattle.sc_input_rules.specs.WellFormed.{is_used_as}
use Rattle.sc_input_rules.proofs.Once.{once-holds}
use Rattle.sc_input_rules.proofs.SignatureLaw.{same_found}
use Rattle.sc_input_rules.proofs.Booleans.{both_hold}

-- ---- the first that passes

pub found_within : {X : Type 0} (p : X → Bool) (xs : List X) → list_any p xs ≡ true → position_or_len p xs < length xs
found_within p [] e = absurd cc
found_within p (x ∷ xs) e = by (p x) e (found_within p xs)
  where
    by : (b : Bool) → (b || list_any p xs) ≡ true → (list_any p xs ≡ true → position_or_len p xs < length xs) → cond (not b) (1 + position_or_len p xs) 0 < suc (length xs)
    by true e ih = omega arith
    by false e ih = let k = ih e in omega arith

pub less : (m n : ℕ) → m < n → nat_lt m n ≡ true
less m n le = le-leb (suc m) n le

pub position_found : {X : Type 0} (p : X → Bool) (xs : List X) → list_any p xs ≡ true → position p xs ≡ Some (number_of p xs)
position_found p xs e =
    let at = position_or_len p xs in
    let lt : nat_lt (position_or_len p xs) (length xs) ≡ true = less (position_or_len p xs) (length xs) (found_within p xs e) in
    (λ i. cond (lt i) (Some at) None) ∙ (λ i. Some (unwrap_or (cond (sym lt i) (Some at) None) 0))

-- ---- symbols

abbrev pub IsListed : List Symbol → Symbol → Type 0
IsListed symbols s = list_any (same_symbol s) symbols ≡ true

pub symbol_found : (symbols : List Symbol) (s : Symbol) → IsListed symbols s → slice_get symbols (number_of (same_symbol s) symbols) ≡ Some s
symbol_found symbols s e = found symbols s (number_of (same_symbol s) symbols) (position_found (same_symbol s) symbols e)

pub used_as : (symbols : List Symbol) (s : Symbol) (n : ℕ) → IsListed symbols s → s.arity ≡ n → is_used_as symbols s.role (symbol_number symbols s) n ≡ true
used_as symbols s n e k =
    ap (λ (o : Option Symbol). elim o [ None ↦ false | Some t ↦ role_number t.role == role_number s.role && t.arity == n ]) (symbol_found symbols s e)
    ∙ both_hold (role_number s.role == role_number s.role) (s.arity == n) (eq-eqb _ (role_number s.role) refl) (eq-eqb s.arity n k)

-- ---- the symbols of the clauses are listed

-- the names of a literal are among the symbols
pub record AreListed (symbols : List Symbol) (l : WrittenLiteral) : Type 0 where
  pub predicate : IsListed symbols (predicate_at l.predicate).symbol
  pub arguments : AllByRecursion (λ o. is_variable o ≡ false → IsListed symbols (function_at o).symbol) l.arguments

listed-any : (f : Found) (fs : List Found) → list_any (same_found f) fs ≡ list_any (same_symbol f.symbol) (map (λ (f : Found). f.symbol) fs)
listed-any f [] = refl
listed-any f (g ∷ gs) = ap (λ (b : Bool). same_found f g || b) (listed-any f gs)

abbrev FoundListed : List Symbol → Found → Type 0
FoundListed symbols f = IsListed symbols f.symbol

functions-listed : (symbols : List Symbol) (os : List Occurrence) → AllByRecursion (FoundListed symbols) (map function_at (filter (λ o. not (is_variable o)) os))
    → AllByRecursion (λ o. is_variable o ≡ false → IsListed symbols (function_at o).symbol) os
functions-listed symbols [] h = tt
functions-listed symbols (o ∷ os) h = by (is_variable o) refl h (functions-listed symbols os)
  where
    by : (b : Bool) → is_variable o ≡ b
        → AllByRecursion (FoundListed symbols) (map function_at (cond (not b) (o ∷ filter (λ o. not (is_variable o)) os) (filter (λ o. not (is_variable o)) os)))
        → (AllByRecursion (FoundListed symbols) (map function_at (filter (λ o. not (is_variable o)) os)) → AllByRecursion (λ o. is_variable o ≡ false → IsListed symbols (function_at o).symbol) os)
        → AllByRecursion (λ o. is_variable o ≡ false → IsListed symbols (function_at o).symbol) (o ∷ os)
    by true e h ih = ((λ k. absurd cc), ih h)
    by false e h ih = ((λ k. h.0), ih h.1)

literals-listed : (symbols : List Symbol) (c : WrittenClause) → AllByRecursion (FoundListed symbols) (flat_map found_in c) → AllByRecursion (AreListed symbols) c
literals-listed symbols [] h = tt
literals-listed symbols (l ∷ ls) h =
    let s = all_split (FoundListed symbols) (found_in l) (flat_map found_in ls) h in
    (record { predicate = s.0.0; arguments = functions-listed symbols l.arguments s.0.1 }, literals-listed symbols ls s.1)

clauses-listed : (symbols : List Symbol) (cs : List WrittenClause) → AllByRecursion (FoundListed symbols) (flat_map (λ c. flat_map found_in c) cs) → AllByRecursion (AllByRecursion (AreListed symbols)) cs
clauses-listed symbols [] h = tt
clauses-listed symbols (c ∷ cs) h =
    let s = all_split (FoundListed symbols) (flat_map found_in c) (flat_map (λ c. flat_map found_in c) cs) h in
    (literals-listed symbols c s.0, clauses-listed symbols cs s.1)

all-listed : (symbols : List Symbol) (fs gs : List Found) → symbols ≡ map (λ (f : Found). f.symbol) gs → AllByRecursion (λ f. list_any (same_found f) gs ≡ true) fs → AllByRecursion (FoundListed symbols) fs
all-listed symbols [] gs e h = tt
all-listed symbols (f ∷ fs) gs e h = (ap (list_any (same_symbol f.symbol)) e ∙ sym (listed-any f gs) ∙ h.0, all-listed symbols fs gs e h.1)

pub symbols-listed : (cs : List WrittenClause) → AllByRecursion (AllByRecursion (AreListed (symbols_of cs))) cs
symbols-listed cs =
    let found : List Found = record { symbol = equality; at = 0 } ∷ flat_map (λ c. flat_map found_in c) cs in
    let all = once-holds same_found (λ f. same_as_itself f.symbol) found in
    clauses-listed (symbols_of cs) cs (all-listed (symbols_of cs) (flat_map (λ c. flat_map found_in c) cs) (symbol_order cs) refl all.1)
