-- What is kept of the symbols found so far.
use Rattle.std.specs.Prelude.{◌≡◌, ◌≤◌, ◌==◌, ℕ, Bool, List, [], ◌++◌, length, map, slice_get, Option, Some, None, option_map}
use Rattle.std.specs.Ordering.{on, eq_of_both}
use Rattle.std.specs.Cmp.Lexicographic.{pointwise}
use Rattle.sc_term.specs.declared.symbol.Symbol.{Symbol}
use Rattle.sc_term.specs.Symbol.{role_number, same_symbol}
use Rattle.sc_input_rules.specs.Numbering.{Found, once}
use Rattle.sc_input_limits.specs.declared.symbols.WrittenSymbol.{WrittenSymbol}

-- the same name, arity and role
abbrev pub same_written : WrittenSymbol → WrittenSymbol → Bool
same_written = eq_of_both (on (λ s. s.name) (pointwise ◌==◌)) (eq_of_both (on (λ s. s.arity) ◌==◌) (on (λ s. role_number s.role) ◌==◌))

-- a symbol, as it is written
abbrev pub as_written : Symbol → WrittenSymbol
as_written s = record { name = s.name; arity = s.arity; role = s.role }

-- the same symbol, wherever it stands
abbrev pub same_found : Found → Found → Bool
same_found f g = same_symbol f.symbol g.symbol

-- those found, each once, and at most 4,096
pub record Keeps (found : List Found) (kept : List WrittenSymbol) : Type 0 where
  pub once_each : kept ≡ map (λ f. as_written f.symbol) (once same_found [] found)
  pub few : length kept ≤ 4096

-- where the symbol stands that is one too many among those found
abbrev pub one_too_many : List Found → Option ℕ
one_too_many found = option_map (λ f. f.at) (slice_get (once same_found [] found) 4096)

-- those found are kept, or it is told where the one stands that is one too many
abbrev pub KeepsOrTells : List Found → List WrittenSymbol → Option ℕ → Type 0
KeepsOrTells found kept None = Keeps found kept
KeepsOrTells found kept (Some at) = one_too_many found ≡ Some at

-- what is kept, once more symbols are found
abbrev pub FindsMore : List Found → List WrittenSymbol → List WrittenSymbol → Option ℕ → Type 0
FindsMore more before after told = (found : List Found) → Keeps found before → KeepsOrTells (found ++ more) after told
