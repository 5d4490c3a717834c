-- A clause that a list may hold is an input, as a clause of terms over the symbols.
use Rattle.std.proofs.Common.{◌≡◌, ◌∙◌, sym, ap, subst, refl, ℕ, ◌≤◌, Bool, true, false, List, [], ◌∷◌, map, length, None, arith}
use Rattle.std.specs.Prelude.{flat_map}
use Rattle.std.specs.List.{AllByRecursion, list_all}
use Rattle.std.proofs.lemmas.List.{append-nil}
use Rattle.sc_term.specs.declared.Literal.{Literal}
use Rattle.sc_term.specs.Term.{joined, term_variables}
use Rattle.sc_term.specs.Clause.{weight, variables, firsts, IsCanonical}
use Rattle.sc_term.specs.declared.symbol.Symbol.{Symbol}
use Rattle.sc_input_rules.specs.declared.written.Occurrence.{Occurrence}
use Rattle.sc_input_rules.specs.declared.written.WrittenLiteral.{WrittenLiteral}
use Rattle.sc_input_rules.specs.Syntax.{WrittenClause}
use Rattle.sc_input_rules.specs.Numbering.{once, is_variable, same_name, variables_of, variable_order, function_at, literal_of, number_in, clause_of}
use Rattle.sc_input_rules.specs.Measures.{weight_so_far}
use Rattle.sc_input_rules.specs.WellFormed.{literal_is_over, IsOver, IsInput}
use Rattle.sc_input_rules.proofs.ClauseSpelling.{LiteralTree, ClauseTree, clause_tokens, literal_written, clause_written}
use Rattle.sc_input_rules.proofs.ListedRead.{IsAdmitted}
use Rattle.sc_input_rules.proofs.ClauseParts.{literals_in, written-literals}
use Rattle.sc_input_rules.proofs.ClauseWeight.{clause-weight}
use Rattle.sc_input_rules.proofs.ClauseDepth.{clause-depth}
use Rattle.sc_input_rules.proofs.SymbolNumbers.{IsListed, AreListed}
use Rattle.sc_input_rules.proofs.OverLaw.{IsKnown, literal-over}
use Rattle.sc_input_rules.proofs.VariableNumbers.{number, numbers_of, IsPlaced, number_in-variable, clause-variables, variables-placed}
use Rattle.sc_input_rules.proofs.CanonicalLaw.{counts_itself, firsts-numbers}
use Rattle.sc_input_rules.proofs.Booleans.{both_hold}

-- ---- over the symbols

known : (order : List Occurrence) (symbols : List Symbol) (os : List Occurrence) → AllByRecursion (λ o. is_variable o ≡ false → IsListed symbols (function_at o).symbol) os → AllByRecursion (IsPlaced order) os
    → AllByRecursion (IsKnown (number_in order) symbols) os
known order symbols [] listed placed = tt
known order symbols (o ∷ os) listed placed = ((λ none. by (is_variable o) refl none), known order symbols os listed.1 placed.1)
  where
    by : (b : Bool) → is_variable o ≡ b → number_in order o ≡ None → IsListed symbols (function_at o).symbol
    by true e none = let some = number_in-variable order o placed.0 e in absurd cc
    by false e none = listed.0 e

literals-over : (order : List Occurrence) (symbols : List Symbol) (ls : List LiteralTree) → AllByRecursion (AreListed symbols) (map literal_written ls)
    → AllByRecursion (λ (l : WrittenLiteral). AllByRecursion (IsPlaced order) l.arguments) (map literal_written ls)
    → list_all (literal_is_over symbols) (map (literal_of (number_in order) symbols) (map literal_written ls)) ≡ true
literals-over order symbols [] listed placed = refl
literals-over order symbols (l ∷ ls) listed placed =
    both_hold _ _ (literal-over (number_in order) symbols l listed.0.predicate (known order symbols (literal_written l).arguments listed.0.arguments placed.0))
    (literals-over order symbols ls listed.1 placed.1)

clause-over : (symbols : List Symbol) (c : ClauseTree) → AllByRecursion (AreListed symbols) (clause_written c) → IsOver symbols (clause_of symbols (clause_written c))
clause-over symbols c listed =
    let order = variable_order (clause_written c) in
    let e = written-literals c in
    ap (λ (w : WrittenClause). list_all (literal_is_over symbols) (map (literal_of (number_in order) symbols) w)) e
    ∙ literals-over order symbols (literals_in c) (subst (AllByRecursion (AreListed symbols)) e listed)
    (subst (AllByRecursion (λ (l : WrittenLiteral). AllByRecursion (IsPlaced order) l.arguments)) e (variables-placed (clause_written c)))

-- ---- canonical

clause-canonical : (symbols : List Symbol) (c : ClauseTree) → IsCanonical (clause_of symbols (clause_written c))
clause-canonical symbols c =
    let w = clause_written c in
    let order = variable_order w in
    let e = written-literals c in
    let placed = subst (AllByRecursion (λ (l : WrittenLiteral). AllByRecursion (IsPlaced order) l.arguments)) e (variables-placed w) in
    let same : variables (clause_of symbols (clause_written c)) ≡ map (number (variable_order (clause_written c))) (variables_of (clause_written c)) =
    ap (λ (w : WrittenClause). joined (map (λ (l : Literal). joined (map term_variables l.args)) (map (literal_of (number_in order) symbols) w))) e
    ∙ clause-variables order symbols (literals_in c) placed
    ∙ ap (λ (w : WrittenClause). numbers_of order (flat_map (λ (l : WrittenLiteral). l.arguments) w)) (sym e) in
    counts_itself (firsts (variables (clause_of symbols w))) (length (once same_name [] (variables_of w))) (ap firsts same ∙ firsts-numbers (variables_of w))

-- ---- an input

at_most : (m n : ℕ) → m ≤ n → n ≤ 1000 → m ≤ 1000
at_most m n le le' = omega arith

pub is_input : (symbols : List Symbol) (c : ClauseTree) → IsAdmitted c → AllByRecursion (AreListed symbols) (clause_written c) → IsInput symbols (clause_of symbols (clause_written c))
is_input symbols c a listed =
    let all = a.within (clause_tokens c) [] (sym (append-nil (clause_tokens c))) in
    record {
      over = clause-over symbols c listed;
      canonical = clause-canonical symbols c;
      light = at_most (weight (clause_of symbols (clause_written c))) (weight_so_far (clause_tokens c)) (clause-weight symbols c) all.weight;
      shallow = clause-depth symbols 256 c (λ front more e. (a.within front more e).depth);
    }
