-- Variables by their names.
use Rattle.std.proofs.Common.{◌≡◌, ◌∙◌, sym, ap, refl, ℕ, ◌+◌, ◌<◌, ◌≤◌, ◌^◌, Bool, true, false, if◌then◌else◌, List, [], ◌∷◌, ◌++◌, map, filter, flat_map, length, get_or, position, Some, None, Bor, arith, cond, not, nat_lt, subst}
use Rattle.std.specs.List.{list_any, position_or_len}
use Rattle.std.proofs.Math.Path.{fun_ext}
use Rattle.std.proofs.lemmas.List.{append-nil, length-map, map-append}
use Rattle.std.proofs.lemmas.List.Elements.{filter-append}
use Rattle.std.proofs.lemmas.Grind.{flat_map-append}
use Rattle.sc_input_rules.specs.declared.written.Occurrence.{Occurrence}
use Rattle.sc_input_rules.specs.declared.written.WrittenLiteral.{WrittenLiteral}
use Rattle.sc_input_rules.specs.Token.{same_text}
use Rattle.sc_input_rules.specs.Syntax.{WrittenClause}
use Rattle.sc_input_rules.specs.Numbering.{is_variable, variables_of, variable_order, number_in}
use Rattle.sc_input_values.specs.Once.{with_new, with_each}
use Rattle.sc_input_values.specs.Names.{names_of_variables, variable_names, number_among}
use Rattle.sc_input_values.proofs.OnceLaws.{any-map, once-map, with_each-once, Turn}

abbrev pub text : Bor (List ℕ) → List ℕ
text b = b.now

-- a set of names with one more
pub names_grow : (keys : List (Bor (List ℕ))) (k : Bor (List ℕ))
    → map (λ b. b.now) (if list_any (λ b. same_text k.now b.now) keys then keys else (keys ++ k ∷ [])) ≡ with_new same_text (map (λ b. b.now) keys) k.now
names_grow keys k = by (list_any (λ b. same_text k.now b.now) keys) (any-map (same_text k.now) text keys)
  where
    Goal : Bool → Bool → Type 0
    Goal b c = map text (if b then keys else (keys ++ k ∷ [])) ≡ (if c then map text keys else (map text keys ++ k.now ∷ []))

    by : (b : Bool) → b ≡ list_any (same_text k.now) (map text keys) → Goal b (list_any (same_text k.now) (map text keys))
    by true e = subst (Goal true) e refl
    by false e = subst (Goal false) e (map-append text keys (k ∷ []))

first-map : {X Y : Type 0} (p : Y → Bool) (f : X → Y) (xs : List X) → position_or_len (λ x. p (f x)) xs ≡ position_or_len p (map f xs)
first-map p f [] = refl
first-map p f (x ∷ xs) = ap (λ n. cond (not (p (f x))) (1 + n) 0) (first-map p f xs)

pub position-map : {X Y : Type 0} (p : Y → Bool) (f : X → Y) (xs : List X) → position (λ x. p (f x)) xs ≡ position p (map f xs)
position-map p f xs =
    ap (λ n. cond (nat_lt n (length xs)) (Some n) None) (first-map p f xs)
    ∙ ap (λ k. cond (nat_lt (position_or_len p (map f xs)) k) (Some (position_or_len p (map f xs))) None) (sym (length-map xs f))

-- variables are told apart by their names alone
number_by_name : (order : List Occurrence) (o : Occurrence) → number_in order o ≡ number_among (map (λ p. p.name) order) o
number_by_name order o = ap (λ n. if is_variable o then n else None) (position-map (same_text o.name) (λ (p : Occurrence). p.name) order)

pub numbers_by_name : (order : List Occurrence) → number_in order ≡ number_among (map (λ p. p.name) order)
numbers_by_name order = fun_ext (number_by_name order)

-- the names of the variables of a clause, each as often as it stands there
abbrev pub names_in : WrittenClause → List (List ℕ)
names_in c = map (λ o. o.name) (variables_of c)

pub names_once : (c : WrittenClause) → variable_names c ≡ with_each same_text [] (names_in c)
names_once c =
    once-map (λ (o : Occurrence). o.name) same_text [] (variables_of c) ∙ sym (with_each-once same_text [] [] (names_in c) (λ x. refl))

-- ---- in loops

names_join : (os ps : List Occurrence) → names_of_variables (os ++ ps) ≡ names_of_variables os ++ names_of_variables ps
names_join os ps =
    ap (map (λ o. o.name)) (filter-append is_variable os ps) ∙ map-append (λ (o : Occurrence). o.name) (filter is_variable os) (filter is_variable ps)

pub variable_turn : (os : List Occurrence) (i : ℕ) (o : Occurrence) → i < length os → o ≡ get_or os i o → is_variable o ≡ true → Turn names_of_variables os i o (o.name ∷ [])
variable_turn os i o within item holds =
    record { joins = names_join; within = within; item = item; gives = ap (λ b. map (λ (p : Occurrence). p.name) (if b then o ∷ [] else [])) holds }

pub other_turn : (os : List Occurrence) (i : ℕ) (o : Occurrence) → i < length os → o ≡ get_or os i o → is_variable o ≡ false → Turn names_of_variables os i o []
other_turn os i o within item fails =
    record { joins = names_join; within = within; item = item; gives = ap (λ b. map (λ (p : Occurrence). p.name) (if b then o ∷ [] else [])) fails }

pub literal_turn : (ls : WrittenClause) (i : ℕ) (l : WrittenLiteral) → i < length ls → l ≡ get_or ls i l → Turn names_in ls i l (names_of_variables l.arguments)
literal_turn ls i l within item = record {
  joins = λ ks ms. ap names_of_variables (flat_map-append (λ (k : WrittenLiteral). k.arguments) ks ms)
      ∙ names_join (flat_map (λ (k : WrittenLiteral). k.arguments) ks) (flat_map (λ (k : WrittenLiteral). k.arguments) ms);
  within = within;
  item = item;
  gives = ap names_of_variables (append-nil l.arguments);
}

pub few_names : (c : WrittenClause) → length (variable_order c) ≤ 2 ^ 32 → length (with_each same_text [] (names_in c)) ≤ 2 ^ 32
few_names c few = omega (arith, few, ap length (names_once c), length-map (variable_order c) (λ o. o.name))
