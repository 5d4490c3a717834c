-- Symbols that join a signature, in the order of the text.
use Rattle.std.proofs.Common.{◌≡◌, ◌∙◌, sym, ap, refl, subst, ℕ, suc, ◌+◌, ◌<◌, ◌≤◌, Bool, true, false, not, ◌||◌, if◌then◌else◌, List, [], ◌∷◌, ◌++◌, map, filter, flat_map, length, get_or, take, drop, slice_get, Some, arith, length-append}
use Rattle.std.specs.List.{list_any, AllByRecursion}
use Rattle.std.proofs.lemmas.List.{append-nil, map-append, take-append-drop}
use Rattle.std.proofs.lemmas.List.Elements.{filter-append}
use Rattle.std.proofs.lemmas.Grind.{flat_map-append}
use Rattle.sc_term.proofs.SubstitutionLaws.{all_split}
use Rattle.sc_term.specs.declared.symbol.Role.TheVariants.{Function, Predicate}
use Rattle.sc_term.specs.declared.symbol.Symbol.{Symbol}
use Rattle.sc_term.specs.Symbol.{same_symbol, equality, IsSignature, IsFull}
use Rattle.sc_term.proofs.SymbolLaws.{equal_symbols}
use Rattle.sc_input_rules.specs.declared.written.Occurrence.{Occurrence}
use Rattle.sc_input_rules.specs.declared.written.WrittenLiteral.{WrittenLiteral}
use Rattle.sc_input_rules.specs.Syntax.{WrittenClause}
use Rattle.sc_input_rules.specs.Numbering.{is_variable, Found, function_at, found_in, symbols_of, once}
use Rattle.sc_input_values.specs.Once.{with_new, with_each}
use Rattle.sc_input_values.specs.Names.{symbol_at, argument_symbols, literal_symbols, clause_symbols, MayJoin}
use Rattle.sc_input_values.proofs.OnceLaws.{Turn, turned, with_each-longer, with_each-room, with_each-once, once-map}

-- ---- all symbols, in the order of the text

functions : (os : List Occurrence) → map (λ (f : Found). f.symbol) (map function_at os) ≡ map (symbol_at Function) os
functions [] = refl
functions (o ∷ os) = ap (λ l. symbol_at Function o ∷ l) (functions os)

of_literal : (l : WrittenLiteral) → map (λ (f : Found). f.symbol) (found_in l) ≡ literal_symbols l
of_literal l = ap (λ ss. symbol_at Predicate l.predicate ∷ ss) (functions (filter (λ o. not (is_variable o)) l.arguments))

of_clause : (c : WrittenClause) → map (λ (f : Found). f.symbol) (flat_map found_in c) ≡ clause_symbols c
of_clause [] = refl
of_clause (l ∷ ls) = map-append (λ (f : Found). f.symbol) (found_in l) (flat_map found_in ls) ∙ (λ j. of_literal l j ++ of_clause ls j)

of_clauses : (cs : List WrittenClause) → map (λ (f : Found). f.symbol) (flat_map (λ c. flat_map found_in c) cs) ≡ flat_map clause_symbols cs
of_clauses [] = refl
of_clauses (c ∷ cs) =
    map-append (λ (f : Found). f.symbol) (flat_map found_in c) (flat_map (λ d. flat_map found_in d) cs) ∙ (λ j. of_clause c j ++ of_clauses cs j)

-- symbols by first occurrence are those that join `=` one after another
pub symbols_join : (cs : List WrittenClause) → symbols_of cs ≡ with_each same_symbol (equality ∷ []) (flat_map clause_symbols cs)
symbols_join cs =
    let founds = flat_map (λ c. flat_map found_in c) cs in
    let first : Found = record { symbol = equality; at = 0 } in
    once-map (λ (f : Found). f.symbol) same_symbol [] (first ∷ founds)
    ∙ sym (with_each-once same_symbol [] [] (equality ∷ map (λ (f : Found). f.symbol) founds) (λ x. refl))
    ∙ ap (with_each same_symbol (equality ∷ [])) (of_clauses cs)

-- ---- room

any_at : (P : Symbol → Type 0) (s : Symbol) (xs : List Symbol) → AllByRecursion P xs → list_any (same_symbol s) xs ≡ true → P s
any_at P s [] h e = cc
any_at P s (x ∷ xs) h e = by (same_symbol s x) refl (any_at P s xs h.1) e
  where
    by : (b : Bool) → same_symbol s x ≡ b → (list_any (same_symbol s) xs ≡ true → P s) → (b || list_any (same_symbol s) xs) ≡ true → P s
    by true e later f = subst P (sym (equal_symbols s x e)) h.0
    by false e later f = later f

-- what holds of all that a list has become holds of what joined it
all_joined : (P : Symbol → Type 0) (start more : List Symbol) → AllByRecursion P (with_each same_symbol start more) → AllByRecursion P more
all_joined P start [] h = tt
all_joined P start (s ∷ ss) h = (by (list_any (same_symbol s) start) refl grown, all_joined P (with_new same_symbol start s) ss h)
  where
    grown : AllByRecursion P (with_new same_symbol start s)
    grown = (all_split P (with_new same_symbol start s) (once same_symbol (with_new same_symbol start s) ss)
        (subst (AllByRecursion P) (with_each-once same_symbol (with_new same_symbol start s) (with_new same_symbol start s) ss (λ x. refl)) h)).0

    by : (b : Bool) → list_any (same_symbol s) start ≡ b → AllByRecursion P (if b then start else (start ++ s ∷ [])) → P s
    by true e all = any_at P s start all e
    by false e all = (all_split P start (s ∷ []) all).1.0

-- the symbols of clauses join `=` where they make a signature
pub may_join : (cs : List WrittenClause) → IsSignature (symbols_of cs) → MayJoin (equality ∷ []) (flat_map clause_symbols cs)
may_join cs is = record {
  room = subst (λ ss. length ss ≤ 4096) (symbols_join cs) is.few;
  arities = all_joined (λ (s : Symbol). s.arity ≤ 8) (equality ∷ []) (flat_map clause_symbols cs) (subst (AllByRecursion (λ (s : Symbol). s.arity ≤ 8)) (symbols_join cs) is.arities);
}

-- where all may join, so may the next
pub join_turn : {A : Type 0} (f : List A → List Symbol) (start : List Symbol) (all : List A) (i : ℕ) (a : A) (ys : List Symbol) (symbols : List Symbol) → Turn f all i a ys
    → MayJoin start (f all) → symbols ≡ with_each same_symbol start (f (take i all)) → MayJoin symbols ys
join_turn f start all i a ys symbols t may so_far = subst (λ ss. MayJoin ss ys) (sym so_far) (record {
  room = with_each-room same_symbol f start all i a ys 4096 t may.room;
  arities =
      let front = f (take i all) ++ ys in
      let parts : f all ≡ front ++ f (drop (i + 1) all) =
      ap f (sym (take-append-drop (i + 1) all)) ∙ t.joins (take (i + 1) all) (drop (i + 1) all) ∙ ap (λ l. l ++ f (drop (i + 1) all)) (turned f all i a ys t) in
      let small = all_split (λ (s : Symbol). s.arity ≤ 8) front (f (drop (i + 1) all)) (subst (AllByRecursion (λ (s : Symbol). s.arity ≤ 8)) parts may.arities) in
      (all_split (λ (s : Symbol). s.arity ≤ 8) (f (take i all)) ys small.0).1;
})

stands : (s : Symbol) (xs : List Symbol) → list_any (same_symbol s) xs ≡ true → (i : ℕ) × (slice_get xs i ≡ Some s)
stands s [] e = cc
stands s (x ∷ xs) e = by (same_symbol s x) refl (stands s xs) e
  where
    by : (b : Bool) → same_symbol s x ≡ b → (list_any (same_symbol s) xs ≡ true → (i : ℕ) × (slice_get xs i ≡ Some s)) → (b || list_any (same_symbol s) xs) ≡ true
        → (i : ℕ) × (slice_get (x ∷ xs) i ≡ Some s)
    by true e later f = (0, ap Some (sym (equal_symbols s x e)))
    by false e later f = let there = later f in (suc there.0, there.1)

-- a symbol for which there is room finds it
pub not_full : (symbols : List Symbol) (s t : Symbol) → s ≡ t → IsFull symbols s → MayJoin symbols (t ∷ []) → ⊥
not_full symbols s t e full may = by (list_any (same_symbol t) symbols) refl may.room
  where
    by : (b : Bool) → list_any (same_symbol t) symbols ≡ b → length (if b then symbols else (symbols ++ t ∷ [])) ≤ 4096 → ⊥
    by true at room = let there = stands t symbols at in full.1 there.0 (there.1 ∙ ap Some (sym e))
    by false at room = omega (arith, full.0, room, length-append symbols (t ∷ []))

-- ---- in loops

arguments_join : (os ps : List Occurrence) → argument_symbols (os ++ ps) ≡ argument_symbols os ++ argument_symbols ps
arguments_join os ps =
    ap (map (symbol_at Function)) (filter-append (λ o. not (is_variable o)) os ps)
    ∙ map-append (symbol_at Function) (filter (λ o. not (is_variable o)) os) (filter (λ o. not (is_variable o)) ps)

pub function_turn : (os : List Occurrence) (i : ℕ) (o : Occurrence) → i < length os → o ≡ get_or os i o → is_variable o ≡ false → Turn argument_symbols os i o (symbol_at Function o ∷ [])
function_turn os i o within item fails =
    record { joins = arguments_join; within = within; item = item; gives = ap (λ b. map (symbol_at Function) (if not b then o ∷ [] else [])) fails }

pub variable_turn : (os : List Occurrence) (i : ℕ) (o : Occurrence) → i < length os → o ≡ get_or os i o → is_variable o ≡ true → Turn argument_symbols os i o []
variable_turn os i o within item holds =
    record { joins = arguments_join; within = within; item = item; gives = ap (λ b. map (symbol_at Function) (if not b then o ∷ [] else [])) holds }

pub flat_turn : {A : Type 0} (g : A → List Symbol) (all : List A) (i : ℕ) (a : A) → i < length all → a ≡ get_or all i a → Turn (flat_map g) all i a (g a)
flat_turn g all i a within item = record { joins = flat_map-append g; within = within; item = item; gives = append-nil (g a) }

pub join_first : (symbols : List Symbol) (s : Symbol) (ss : List Symbol) → MayJoin symbols (s ∷ ss) → MayJoin symbols (s ∷ [])
join_first symbols s ss may =
    record { room = omega (arith, may.room, with_each-longer same_symbol (with_new same_symbol symbols s) ss); arities = (may.arities.0, tt) }
