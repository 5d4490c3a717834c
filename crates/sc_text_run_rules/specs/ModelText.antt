-- The text of tables.
use Rattle.std.specs.Prelude.{ℕ, List, [], ◌∷◌, ◌++◌, map, drop, codes, decimal}
use Rattle.sc_term.specs.declared.symbol.Role.{Role}
use Rattle.sc_term.specs.declared.symbol.Role.TheVariants.{Function, Predicate}
use Rattle.sc_term.specs.declared.symbol.Symbol.{Symbol}
use Rattle.sc_text_rules.specs.ProofText.{words, ended}

-- words with a full stop, on a line
abbrev pub row : List (List ℕ) → List ℕ
row texts = ended (words texts)

-- what a symbol makes of its arguments, as a word
abbrev pub role_word : Role → List ℕ
role_word Function = codes "function"
role_word Predicate = codes "predicate"

-- role, name and arity of a symbol, a colon, and its entries
abbrev pub table_row : Symbol → List ℕ → List ℕ
table_row s entries = row (role_word s.role ∷ s.name ∷ decimal s.arity ∷ codes ":" ∷ map decimal entries)

-- a row for each symbol with its entries, in order
abbrev pub table_rows : List Symbol → List (List ℕ) → List ℕ
table_rows [] entries = []
table_rows (s ∷ symbols) [] = []
table_rows (s ∷ symbols) (e ∷ entries) = table_row s e ++ table_rows symbols entries

-- the symbols other than `=`
abbrev pub without_equality : List Symbol → List Symbol
without_equality symbols = drop 1 symbols

-- the tables of that size, with these entries for the symbols other than `=`
abbrev pub model_text : List Symbol → ℕ → List (List ℕ) → List ℕ
model_text symbols size entries =
    row (codes "model" ∷ decimal size ∷ []) ++ table_rows (without_equality symbols) entries ++ row (codes "end_of_model" ∷ [])
