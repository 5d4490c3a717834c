-- Symbols and variables of written clauses, numbered by first occurrence.
use Rattle.std.specs.Prelude.{ℕ, Bool, not, ◌&&◌, List, [], ◌∷◌, map, filter, take, drop, ◌==◌, nat_le, Option, Some, None, unwrap_or, position, flat_map, if◌then◌else◌}
use Rattle.std.specs.List.{list_any}
use Rattle.sc_term.specs.declared.SymId.{SymId}
use Rattle.sc_term.specs.declared.Term.{Term}
use Rattle.sc_term.specs.declared.Term.TheVariants.{Var, App}
use Rattle.sc_term.specs.declared.Literal.{Literal}
use Rattle.sc_term.specs.declared.Clause.{Clause}
use Rattle.sc_term.specs.declared.symbol.Role.TheVariants.{Function, Predicate}
use Rattle.sc_term.specs.declared.symbol.Symbol.{Symbol}
use Rattle.sc_term.specs.Symbol.{same_symbol, equality}
use Rattle.sc_input_rules.specs.Token.{same_text}
use Rattle.sc_input_rules.specs.Tokens.{begins}
use Rattle.sc_input_rules.specs.declared.written.Occurrence.{Occurrence}
use Rattle.sc_input_rules.specs.declared.written.WrittenLiteral.{WrittenLiteral}
use Rattle.sc_input_rules.specs.Syntax.{WrittenClause}

-- each of several once, where it stands first
abbrev pub once : {X : Type 0} → (X → X → Bool) → List X → List X → List X
once same before [] = []
once same before (x ∷ xs) = if list_any (same x) before then once same before xs else x ∷ once same (x ∷ before) xs

abbrev pub number_of : {X : Type 0} → (X → Bool) → List X → ℕ
number_of test xs = unwrap_or (position test xs) 0

-- ---- variables

-- a name without arguments that begins with one of u to z
abbrev pub is_variable : Occurrence → Bool
is_variable o = o.arity == 0 && begins (λ b. nat_le 117 b && nat_le b 122) o.name

abbrev pub variables_of : WrittenClause → List Occurrence
variables_of c = filter is_variable (flat_map (λ (l : WrittenLiteral). l.arguments) c)

abbrev pub same_name : Occurrence → Occurrence → Bool
same_name o p = same_text o.name p.name

abbrev pub variable_order : WrittenClause → List Occurrence
variable_order c = once same_name [] (variables_of c)

-- ---- symbols

-- a symbol, and where it stands
pub record Found : Type 0 where
  pub symbol : Symbol
  pub at : ℕ

abbrev pub function_at : Occurrence → Found
function_at o = record { symbol = record { name = o.name; arity = o.arity; role = Function }; at = o.at }

abbrev pub predicate_at : Occurrence → Found
predicate_at o = record { symbol = record { name = o.name; arity = o.arity; role = Predicate }; at = o.at }

abbrev pub found_in : WrittenLiteral → List Found
found_in l = predicate_at l.predicate ∷ map function_at (filter (λ o. not (is_variable o)) l.arguments)

-- `=` is the first
abbrev pub symbol_order : List WrittenClause → List Found
symbol_order clauses =
    once (λ f g. same_symbol f.symbol g.symbol) [] (record { symbol = equality; at = 0 } ∷ flat_map (λ c. flat_map found_in c) clauses)

abbrev pub symbols_of : List WrittenClause → List Symbol
symbols_of clauses = map (λ f. f.symbol) (symbol_order clauses)

-- ---- terms

abbrev pub symbol_number : List Symbol → Symbol → SymId
symbol_number symbols s = record { 0 = number_of (same_symbol s) symbols }

-- the term at an occurrence, from the terms behind it; `variable` gives the number of a variable
abbrev pub term_at : (Occurrence → Option ℕ) → List Symbol → Occurrence → List Term → Term
term_at variable symbols o later =
    elim (variable o) [ Some n ↦ Var n | None ↦ App (symbol_number symbols (function_at o).symbol) (take o.arity later) ]

-- Each name takes as many of the terms behind it as it has arguments.
abbrev pub terms_of : (Occurrence → Option ℕ) → List Symbol → List Occurrence → List Term
terms_of variable symbols [] = []
terms_of variable symbols (o ∷ os) =
    let later = terms_of variable symbols os in
    term_at variable symbols o later ∷ drop o.arity later

abbrev pub literal_of : (Occurrence → Option ℕ) → List Symbol → WrittenLiteral → Literal
literal_of variable symbols l =
    record { positive = l.positive; pred = symbol_number symbols (predicate_at l.predicate).symbol; args = terms_of variable symbols l.arguments }

-- ---- clauses of a problem

-- the variables of a clause are numbered by first occurrence
abbrev pub number_in : List Occurrence → Occurrence → Option ℕ
number_in order o = if is_variable o then position (same_name o) order else None

abbrev pub clause_of : List Symbol → WrittenClause → Clause
clause_of symbols c = record { literals = map (literal_of (number_in (variable_order c)) symbols) c }
