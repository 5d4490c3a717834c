-- The variables of a clause of terms are the numbers of those that are written.
use Rattle.std.proofs.Common.{◌≡◌, ◌∙◌, sym, ap, subst, refl, ℕ, ◌+◌, Bool, true, false, List, [], ◌∷◌, ◌++◌, map, cond, Option, Some, None, arith}
use Rattle.std.specs.Prelude.{◌&&◌, ◌==◌, filter, flat_map, position, nat_le, if◌then◌else◌}
use Rattle.std.specs.List.{AllByRecursion, list_any}
use Rattle.std.specs.Cmp.Lexicographic.{bytes_decides}
use Rattle.std.proofs.lemmas.Bool.{eqb-true}
use Rattle.std.proofs.lemmas.List.{map-append}
use Rattle.std.proofs.lemmas.List.Elements.{filter-append}
use Rattle.sc_term.proofs.SubstitutionLaws.{all_split}
use Rattle.sc_term.specs.declared.Term.{Term}
use Rattle.sc_term.specs.declared.Term.TheVariants.{Var, App}
use Rattle.sc_term.specs.declared.Literal.{Literal}
use Rattle.sc_term.specs.Term.{joined, term_variables}
use Rattle.sc_term.proofs.TermSteps.{variables-Var, variables-App}
use Rattle.sc_term.specs.declared.symbol.Symbol.{Symbol}
use Rattle.sc_input_rules.specs.Tokens.{begins}
use Rattle.sc_input_rules.specs.declared.written.Occurrence.{Occurrence}
use Rattle.sc_input_rules.specs.declared.written.WrittenLiteral.{WrittenLiteral}
use Rattle.sc_input_rules.specs.Syntax.{WrittenClause}
use Rattle.sc_input_rules.specs.Numbering.{number_of, is_variable, variables_of, same_name, variable_order, function_at, symbol_number, literal_of, number_in}
use Rattle.sc_input_rules.proofs.Spelling.{Head, Sides, Empty, Entry, count, occurrence, occurrences}
use Rattle.sc_input_rules.proofs.ClauseSpelling.{LiteralTree, literal_written}
use Rattle.sc_input_rules.proofs.Terms.{term_from, terms, sides_under}
use Rattle.sc_input_rules.proofs.ClauseParts.{literal-args, literal-arguments}
use Rattle.sc_input_rules.proofs.Once.{once-holds}
use Rattle.sc_input_rules.proofs.SymbolNumbers.{position_found}

-- a variable's number among the first occurrences
abbrev pub number : List Occurrence → Occurrence → ℕ
number order o = number_of (same_name o) order

-- it is there, if it is a variable
abbrev pub IsPlaced : List Occurrence → Occurrence → Type 0
IsPlaced order o = is_variable o ≡ true → list_any (same_name o) order ≡ true

pub number_in-variable : (order : List Occurrence) (o : Occurrence) → IsPlaced order o → is_variable o ≡ true → number_in order o ≡ Some (number order o)
number_in-variable order o p e = ap (λ (b : Bool). if b then position (same_name o) order else None) e ∙ position_found (same_name o) order (p e)

pub number_in-other : (order : List Occurrence) (o : Occurrence) → is_variable o ≡ false → number_in order o ≡ None
number_in-other order o e = ap (λ (b : Bool). if b then position (same_name o) order else None) e

-- ---- a variable has no arguments

first_of : (a b : Bool) → (a && b) ≡ true → a ≡ true
first_of true b e = refl
first_of false b e = e

pub no_arguments : (h : Head) (args : Sides) → is_variable (occurrence h args) ≡ true → args ≡ Empty
no_arguments h Empty e = refl
no_arguments h (Entry g args comma others) e =
    let k : count others + 1 ≡ 0 = eqb-true (count others + 1) 0 (first_of (count others + 1 == 0) (begins (λ b. nat_le 117 b && nat_le b 122) h.text) e) in
    absurd (omega arith)

-- ---- in terms

abbrev pub numbers_of : List Occurrence → List Occurrence → List ℕ
numbers_of order os = map (number order) (filter is_variable os)

pub numbers-append : (order xs ys : List Occurrence) → numbers_of order (xs ++ ys) ≡ numbers_of order xs ++ numbers_of order ys
numbers-append order xs ys = ap (map (number order)) (filter-append is_variable xs ys) ∙ map-append (number order) (filter is_variable xs) (filter is_variable ys)

module _ (order : List Occurrence) (symbols : List Symbol) where
  abbrev tree_terms : Sides → List Term
  tree_terms f = terms (number_in order) symbols f

  pub term-variables : (h : Head) (args : Sides) → IsPlaced order (occurrence h args) → joined (map term_variables (tree_terms args)) ≡ numbers_of order (occurrences args)
      → term_variables (term_from (number_in order) symbols (occurrence h args) (tree_terms args)) ≡ numbers_of order (occurrence h args ∷ occurrences args)
  term-variables h args placed ih = by (is_variable (occurrence h args)) refl
    where
      o : Occurrence
      o = occurrence h args

      term : Option ℕ → Term
      term v = elim v [ Some n ↦ Var n | None ↦ App (symbol_number symbols (function_at (occurrence h args)).symbol) (tree_terms args) ]

      by : (b : Bool) → is_variable (occurrence h args) ≡ b
          → term_variables (term (number_in order (occurrence h args))) ≡ map (number order) (cond b (occurrence h args ∷ filter is_variable (occurrences args)) (filter is_variable (occurrences args)))
      by true e =
          ap (λ (v : Option ℕ). term_variables (term v)) (number_in-variable order (occurrence h args) placed e)
          ∙ variables-Var (number order (occurrence h args))
          ∙ ap (λ (f : Sides). number order (occurrence h args) ∷ numbers_of order (occurrences f)) (sym (no_arguments h args e))
      by false e =
          ap (λ (v : Option ℕ). term_variables (term v)) (number_in-other order (occurrence h args) e)
          ∙ variables-App (symbol_number symbols (function_at (occurrence h args)).symbol) (tree_terms args) ∙ ih

  pub terms-variables : (f : Sides) → AllByRecursion (IsPlaced order) (occurrences f) → joined (map term_variables (tree_terms f)) ≡ numbers_of order (occurrences f)
  terms-variables Empty placed = refl
  terms-variables (Entry h args comma others) placed =
      let s = all_split (IsPlaced order) (occurrences args) (occurrences others) placed.1 in
      (λ i. term-variables h args placed.0 (terms-variables args s.0) i ++ terms-variables others s.1 i)
      ∙ sym (numbers-append order (occurrence h args ∷ occurrences args) (occurrences others))

  pub literal-variables : (l : LiteralTree) → AllByRecursion (IsPlaced order) (literal_written l).arguments
      → joined (map term_variables (literal_of (number_in order) symbols (literal_written l)).args) ≡ numbers_of order (literal_written l).arguments
  literal-variables l placed =
      ap (λ (ts : List Term). joined (map term_variables ts)) (literal-args (number_in order) symbols l)
      ∙ terms-variables (sides_under l.atom) (subst (AllByRecursion (IsPlaced order)) (literal-arguments l) placed)
      ∙ ap (numbers_of order) (sym (literal-arguments l))

  pub clause-variables : (ls : List LiteralTree) → AllByRecursion (λ (l : WrittenLiteral). AllByRecursion (IsPlaced order) l.arguments) (map literal_written ls)
      → joined (map (λ (l : Literal). joined (map term_variables l.args)) (map (literal_of (number_in order) symbols) (map literal_written ls)))
      ≡ numbers_of order (flat_map (λ (l : WrittenLiteral). l.arguments) (map literal_written ls))
  clause-variables [] placed = refl
  clause-variables (l ∷ ls) placed =
      (λ i. literal-variables l placed.0 i ++ clause-variables ls placed.1 i)
      ∙ sym (numbers-append order (literal_written l).arguments (flat_map (λ (l : WrittenLiteral). l.arguments) (map literal_written ls)))

-- ---- each variable of a clause is placed

same_name-itself : (o : Occurrence) → same_name o o ≡ true
same_name-itself o = (bytes_decides o.name o.name).1 refl

placed-in : (order os : List Occurrence) → AllByRecursion (λ o. list_any (same_name o) order ≡ true) (filter is_variable os) → AllByRecursion (IsPlaced order) os
placed-in order [] h = tt
placed-in order (o ∷ os) h = by (is_variable o) refl h (placed-in order os)
  where
    by : (b : Bool) → is_variable o ≡ b → AllByRecursion (λ o. list_any (same_name o) order ≡ true) (cond b (o ∷ filter is_variable os) (filter is_variable os))
        → (AllByRecursion (λ o. list_any (same_name o) order ≡ true) (filter is_variable os) → AllByRecursion (IsPlaced order) os) → AllByRecursion (IsPlaced order) (o ∷ os)
    by true e h ih = ((λ k. h.0), ih h.1)
    by false e h ih = ((λ k. absurd cc), ih h)

placed-literals : (order : List Occurrence) (c : WrittenClause) → AllByRecursion (IsPlaced order) (flat_map (λ (l : WrittenLiteral). l.arguments) c) → AllByRecursion (λ (l : WrittenLiteral). AllByRecursion (IsPlaced order) l.arguments) c
placed-literals order [] h = tt
placed-literals order (l ∷ ls) h = let s = all_split (IsPlaced order) l.arguments (flat_map (λ (l : WrittenLiteral). l.arguments) ls) h in (s.0, placed-literals order ls s.1)

pub variables-placed : (c : WrittenClause) → AllByRecursion (λ (l : WrittenLiteral). AllByRecursion (IsPlaced (variable_order c)) l.arguments) c
variables-placed c =
    placed-literals (variable_order c) c (placed-in (variable_order c) (flat_map (λ (l : WrittenLiteral). l.arguments) c) (once-holds same_name same_name-itself (variables_of c)))
