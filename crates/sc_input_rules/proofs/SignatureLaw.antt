-- The symbols of written clauses are a signature, where they are few and no name has many arguments.
use Rattle.std.proofs.Common.{◌≡◌, ◌∙◌, sym, ap, refl, ℕ, ◌<◌, ◌≤◌, Bool, true, false, List, [], ◌∷◌, map, length, get_or, Some, None, ◌⊎◌, inl, inr, cond, arith}
use Rattle.std.proofs.lemmas.Option.{slice_get_cases}
use Rattle.std.specs.Prelude.{not, filter, flat_map, slice_get}
use Rattle.std.specs.List.{AllByRecursion, IsDistinct}
use Rattle.std.proofs.lemmas.List.{length-map}
use Rattle.sc_term.proofs.SubstitutionLaws.{all_join}
use Rattle.sc_term.specs.declared.symbol.Symbol.{Symbol}
use Rattle.sc_term.specs.Symbol.{same_symbol, equality, IsSignature}
use Rattle.sc_term.proofs.SymbolLaws.{equal_symbols, same_as_itself}
use Rattle.sc_input_rules.specs.declared.written.Occurrence.{Occurrence}
use Rattle.sc_input_rules.specs.Syntax.{WrittenClause}
use Rattle.sc_input_rules.specs.Numbering.{Found, is_variable, function_at, found_in, symbol_order, symbols_of}
use Rattle.sc_input_rules.proofs.ArityLaw.{SmallArity}
use Rattle.sc_input_rules.proofs.ClauseArity.{IsNarrow}
use Rattle.sc_input_rules.proofs.Once.{once-all, once-distinct}

abbrev pub same_found : Found → Found → Bool
same_found f g = same_symbol f.symbol g.symbol

turned-symbols : (x y : Symbol) → same_symbol x y ≡ same_symbol y x
turned-symbols x y = by (same_symbol x y) (same_symbol y x) refl refl
  where
    by : (a b : Bool) → same_symbol x y ≡ a → same_symbol y x ≡ b → a ≡ b
    by true true e k = refl
    by true false e k = let s : y ≡ x = sym (equal_symbols x y e) in let t : same_symbol y x ≡ true = ap (λ z. same_symbol z x) s ∙ same_as_itself x in cc
    by false true e k = let s : x ≡ y = sym (equal_symbols y x k) in let t : same_symbol x y ≡ true = ap (λ z. same_symbol z y) s ∙ same_as_itself y in cc
    by false false e k = refl

-- ---- distinct

others-apart : (f : Found) (fs : List Found) → AllByRecursion (λ g. same_found f g ≡ false) fs → AllByRecursion (λ s. same_symbol f.symbol s ≡ false) (map (λ (f : Found). f.symbol) fs)
others-apart f [] h = tt
others-apart f (g ∷ fs) h = (h.0, others-apart f fs h.1)

distinct-symbols : (fs : List Found) → IsDistinct same_found fs → IsDistinct same_symbol (map (λ (f : Found). f.symbol) fs)
unfolding IsDistinct
distinct-symbols [] h = tt
distinct-symbols (f ∷ fs) h = (others-apart f fs h.0, distinct-symbols fs h.1)

-- ---- arities

abbrev FoundSmall : Found → Type 0
FoundSmall f = f.symbol.arity ≤ 8

small-symbols : (fs : List Found) → AllByRecursion FoundSmall fs → AllByRecursion (λ (s : Symbol). s.arity ≤ 8) (map (λ (f : Found). f.symbol) fs)
small-symbols [] h = tt
small-symbols (f ∷ fs) h = (h.0, small-symbols fs h.1)

small-functions : (os : List Occurrence) → AllByRecursion SmallArity os → AllByRecursion FoundSmall (map function_at (filter (λ o. not (is_variable o)) os))
small-functions [] h = tt
small-functions (o ∷ os) h = by (not (is_variable o)) (small-functions os h.1)
  where
    by : (b : Bool) → AllByRecursion FoundSmall (map function_at (filter (λ o. not (is_variable o)) os)) → AllByRecursion FoundSmall (map function_at (cond b (o ∷ filter (λ o. not (is_variable o)) os) (filter (λ o. not (is_variable o)) os)))
    by true k = (h.0, k)
    by false k = k

small-literals : (c : WrittenClause) → AllByRecursion IsNarrow c → AllByRecursion FoundSmall (flat_map found_in c)
small-literals [] h = tt
small-literals (l ∷ ls) h = all_join FoundSmall (found_in l) (flat_map found_in ls) (h.0.predicate, small-functions l.arguments h.0.arguments) (small-literals ls h.1)

small-clauses : (cs : List WrittenClause) → AllByRecursion (AllByRecursion IsNarrow) cs → AllByRecursion FoundSmall (flat_map (λ c. flat_map found_in c) cs)
small-clauses [] h = tt
small-clauses (c ∷ cs) h = all_join FoundSmall (flat_map found_in c) (flat_map (λ c. flat_map found_in c) cs) (small-literals c h.0) (small-clauses cs h.1)

-- ---- few

past : {X : Type 0} (xs : List X) (n : ℕ) → slice_get xs n ≡ None → length xs ≤ n
past {X} xs n e = by ((slice_get_cases xs n).1)
  where
    by : ((x : X) × (n < length xs) × (slice_get xs n ≡ Some x) × (get_or xs n x ≡ x)) ⊎ ((length xs ≤ n) × (slice_get xs n ≡ None)) → length xs ≤ n
    by (inl h) = let k = h.2 in absurd cc
    by (inr h) = h.0

-- ---- the signature

pub is_signature : (cs : List WrittenClause) → AllByRecursion (AllByRecursion IsNarrow) cs → slice_get (symbol_order cs) 4096 ≡ None → IsSignature (symbols_of cs)
is_signature cs narrow few =
    let found : List Found = record { symbol = equality; at = 0 } ∷ flat_map (λ c. flat_map found_in c) cs in
    let count : length (symbols_of cs) ≡ length (symbol_order cs) = length-map (symbol_order cs) (λ (f : Found). f.symbol) in
    let room : length (symbol_order cs) ≤ 4096 = past (symbol_order cs) 4096 few in
    record {
      first = refl;
      arities = small-symbols (symbol_order cs) (once-all same_found FoundSmall [] found (omega arith, small-clauses cs narrow));
      distinct = distinct-symbols (symbol_order cs) (once-distinct same_found (λ f g. turned-symbols f.symbol g.symbol) found);
      few = few_of (length (symbols_of cs)) (length (symbol_order cs)) count room;
    }
  where
    few_of : (m n : ℕ) → m ≡ n → n ≤ 4096 → m ≤ 4096
    few_of m n e le = omega arith
