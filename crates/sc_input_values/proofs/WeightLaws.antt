-- A clause weighs at least as much as it has variables.
use Rattle.std.proofs.Common.{◌≡◌, ◌∙◌, sym, ap, refl, ℕ, ◌+◌, ◌≤◌, ◌==◌, Bool, true, false, ◌&&◌, if◌then◌else◌, List, [], ◌∷◌, ◌++◌, map, filter, flat_map, sum, length, take, drop, position, Option, Some, None, arith, length-append}
use Rattle.std.specs.List.{list_any}
use Rattle.std.proofs.lemmas.Bool.{eqb-true}
use Rattle.std.proofs.lemmas.List.{take-append-drop}
use Rattle.std.proofs.lemmas.List.Sums.{sum-map, sum_by-append, sum_by-cons}
use Rattle.std.proofs.lemmas.List.Concat.{flat_map-cons}
use Rattle.sc_term.specs.declared.Term.{Term}
use Rattle.sc_term.specs.declared.Term.TheVariants.{Var, App}
use Rattle.sc_term.specs.Term.{term_weight, weight_step}
use Rattle.sc_term.specs.Clause.{weight, literal_weight}
use Rattle.sc_term.proofs.TermLaws.{fold-Var, weight-App}
use Rattle.sc_term.specs.declared.symbol.Symbol.{Symbol}
use Rattle.sc_input_rules.specs.declared.written.Occurrence.{Occurrence}
use Rattle.sc_input_rules.specs.declared.written.WrittenLiteral.{WrittenLiteral}
use Rattle.sc_input_rules.specs.Syntax.{WrittenClause}
use Rattle.sc_input_rules.specs.Numbering.{once, is_variable, same_name, variables_of, variable_order, number_in, symbol_number, function_at, terms_of, literal_of, clause_of}
use Rattle.sc_input_values.specs.Names.{HasFewVariables}

once-shorter : {X : Type 0} (same : X → X → Bool) (before xs : List X) → length (once same before xs) ≤ length xs
once-shorter same before [] = omega arith
once-shorter same before (x ∷ xs) = by (list_any (same x) before) (once-shorter same before xs) (once-shorter same (x ∷ before) xs)
  where
    by : (b : Bool) → length (once same before xs) ≤ length xs → length (once same (x ∷ before) xs) ≤ length xs
        → length (if b then once same before xs else (x ∷ once same (x ∷ before) xs)) ≤ length (x ∷ xs)
    by true there new = omega (arith, there)
    by false there new = omega (arith, new)

filter-shorter : {X : Type 0} (p : X → Bool) (xs : List X) → length (filter p xs) ≤ length xs
filter-shorter p [] = omega arith
filter-shorter p (x ∷ xs) = by (p x) (filter-shorter p xs)
  where
    by : (b : Bool) → length (filter p xs) ≤ length xs → length (if b then x ∷ filter p xs else filter p xs) ≤ length (x ∷ xs)
    by true less = omega (arith, less)
    by false less = omega (arith, less)

abbrev weights : List Term → ℕ
weights ts = sum (map term_weight ts)

by_one : {X : Type 0} (f : X → ℕ) (x : X) (xs : List X) → sum (map f (x ∷ xs)) ≡ f x + sum (map f xs)
by_one f x xs = sum-map f (x ∷ xs) ∙ sum_by-cons f x xs ∙ ap (λ n. f x + n) (sym (sum-map f xs))

in_two : (k : ℕ) (ts : List Term) → weights (take k ts) + weights (drop k ts) ≡ weights ts
in_two k ts =
    let whole = ap weights (take-append-drop k ts) in
    omega (arith, whole, sum-map term_weight (take k ts), sum-map term_weight (drop k ts), sum-map term_weight (take k ts ++ drop k ts), sum_by-append term_weight (take k ts) (drop k ts))

both : (a b : Bool) → (a && b) ≡ true → a ≡ true
both true b e = refl
both false b e = cc

no_arguments : (order : List Occurrence) (o : Occurrence) (n : ℕ) → number_in order o ≡ Some n → o.arity ≡ 0
no_arguments order o n e = by (is_variable o) refl e
  where
    by : (b : Bool) → is_variable o ≡ b → (if b then position (same_name o) order else None) ≡ Some n → o.arity ≡ 0
    by true holds f = eqb-true o.arity 0 (both (o.arity == 0) _ holds)
    by false fails f = cc

weight-Var : (n : ℕ) → term_weight (Var n) ≡ 1
weight-Var n = fold-Var ℕ weight_step n

-- as many names are written as symbols and variables occur
as_many : (order : List Occurrence) (symbols : List Symbol) (os : List Occurrence) → weights (terms_of (number_in order) symbols os) ≡ length os
as_many order symbols [] = refl
as_many order symbols (o ∷ os) = by (number_in order o) refl (as_many order symbols os)
  where
    later : List Term
    later = terms_of (number_in order) symbols os

    by : (v : Option ℕ) → number_in order o ≡ v → weights later ≡ length os
        → weights ((elim v [ Some n ↦ Var n | None ↦ App (symbol_number symbols (function_at o).symbol) (take o.arity later) ]) ∷ drop o.arity later) ≡ length (o ∷ os)
    by (Some n) e rest = let none = no_arguments order o n e in omega (arith, by_one term_weight (Var n) (drop o.arity later), weight-Var n, ap (λ k. weights (drop k later)) none, rest)
    by None e rest =
        let f = symbol_number symbols (function_at o).symbol in
        omega (arith, by_one term_weight (App f (take o.arity later)) (drop o.arity later), weight-App f (take o.arity later), in_two o.arity later, rest)

-- the arguments of a clause's literals
abbrev arguments : WrittenClause → List Occurrence
arguments c = flat_map (λ (l : WrittenLiteral). l.arguments) c

light_literals : (order : List Occurrence) (symbols : List Symbol) (ls : WrittenClause) → length (arguments ls) ≤ sum (map literal_weight (map (literal_of (number_in order) symbols) ls))
light_literals order symbols [] = omega arith
light_literals order symbols (l ∷ ls) =
    let made = literal_of (number_in order) symbols in
    omega (
      arith,
      by_one literal_weight (made l) (map made ls),
      as_many order symbols l.arguments,
      light_literals order symbols ls,
      length-append l.arguments (arguments ls),
      ap length (flat_map-cons (λ (k : WrittenLiteral). k.arguments) l ls),
    )

pub few_variables : (symbols : List Symbol) (c : WrittenClause) → weight (clause_of symbols c) ≤ 1000 → HasFewVariables c
few_variables symbols c light =
    omega (arith, light, light_literals (variable_order c) symbols c, filter-shorter is_variable (arguments c), once-shorter same_name [] (variables_of c))
