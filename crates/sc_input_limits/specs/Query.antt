-- The symbol, as it is written, that is asked for by its parts.
use Rattle.std.specs.Prelude.{◌==◌, Bool}
use Rattle.std.specs.Ordering.{on, eq_of_both}
use Rattle.std.specs.Cmp.Lexicographic.{pointwise}
use Rattle.sc_term.specs.Symbol.{role_number}
use Rattle.sc_input_limits.specs.declared.symbols.WrittenSymbol.{WrittenSymbol}
use Rattle.sc_input_limits.specs.declared.symbols.Query.{Query}

-- the symbol of these parts
abbrev pub written_of : Query → WrittenSymbol
written_of q = record { name = q.name.now; arity = q.arity; role = q.role }

abbrev pub same_query : Query → Query → Bool
same_query = eq_of_both (on (λ q. q.name.now) (pointwise ◌==◌)) (eq_of_both (on (λ q. q.arity) ◌==◌) (on (λ q. role_number q.role) ◌==◌))
