-- Symbols and variables by their names.
use Rattle.std.specs.Prelude.{ℕ, ◌≤◌, ◌^◌, not, List, ◌∷◌, map, filter, length, Option, None, position, flat_map, if◌then◌else◌}
use Rattle.std.specs.List.{AllByRecursion}
use Rattle.sc_term.specs.declared.symbol.Role.{Role}
use Rattle.sc_term.specs.declared.symbol.Role.TheVariants.{Function, Predicate}
use Rattle.sc_term.specs.declared.symbol.Symbol.{Symbol}
use Rattle.sc_term.specs.Symbol.{same_symbol}
use Rattle.sc_input_rules.specs.declared.written.Occurrence.{Occurrence}
use Rattle.sc_input_rules.specs.declared.written.WrittenLiteral.{WrittenLiteral}
use Rattle.sc_input_rules.specs.Token.{same_text}
use Rattle.sc_input_rules.specs.Syntax.{WrittenClause}
use Rattle.sc_input_rules.specs.Numbering.{is_variable, variable_order}
use Rattle.sc_input_values.specs.Once.{with_each}

-- the symbol of a name in a role
abbrev pub symbol_at : Role → Occurrence → Symbol
symbol_at role o = record { name = o.name; arity = o.arity; role = role }

-- symbols in the order of the text, each as often as it stands there
abbrev pub argument_symbols : List Occurrence → List Symbol
argument_symbols os = map (symbol_at Function) (filter (λ o. not (is_variable o)) os)

abbrev pub literal_symbols : WrittenLiteral → List Symbol
literal_symbols l = symbol_at Predicate l.predicate ∷ argument_symbols l.arguments

abbrev pub clause_symbols : WrittenClause → List Symbol
clause_symbols c = flat_map literal_symbols c

-- Symbols may join others where there is room for all, and none has more than 8 arguments.
pub record MayJoin (symbols more : List Symbol) : Type 0 where
  pub room : length (with_each same_symbol symbols more) ≤ 4096
  pub arities : AllByRecursion (λ (s : Symbol). s.arity ≤ 8) more

-- the names that are variables, each as often as it stands there
abbrev pub names_of_variables : List Occurrence → List (List ℕ)
names_of_variables os = map (λ o. o.name) (filter is_variable os)

-- the names of the variables of a clause, each once, in the order of their numbers
abbrev pub variable_names : WrittenClause → List (List ℕ)
variable_names c = map (λ o. o.name) (variable_order c)

-- their numbers fit 32 bits
abbrev pub HasFewVariables : WrittenClause → Type 0
HasFewVariables c = length (variable_order c) ≤ 2 ^ 32

-- the place among those names, if it is a variable's
abbrev pub number_among : List (List ℕ) → Occurrence → Option ℕ
number_among names o = if is_variable o then position (same_text o.name) names else None
