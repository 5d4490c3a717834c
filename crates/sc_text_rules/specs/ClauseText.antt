-- The text of terms, literals and clauses.
use Rattle.std.specs.Prelude.{ℕ, Bool, true, false, List, [], ◌∷◌, ◌++◌, map, codes, decimal, Some, None, slice_get, ◌==◌, if◌then◌else◌}
use Rattle.sc_term.specs.declared.SymId.{SymId}
use Rattle.sc_term.specs.declared.Term.{Term, fold-Term}
use Rattle.sc_term.specs.declared.Term.TheOpen.{Term-F}
use Rattle.sc_term.specs.declared.Term.TheOpen as at
use Rattle.sc_term.specs.declared.Literal.{Literal}
use Rattle.sc_term.specs.declared.Clause.{Clause}
use Rattle.sc_term.specs.declared.symbol.Symbol.{Symbol}

-- the texts in a row, with one between each two
abbrev pub joined_by : List ℕ → List (List ℕ) → List ℕ
joined_by between [] = []
joined_by between (text ∷ []) = text
joined_by between (text ∷ next ∷ texts) = text ++ between ++ joined_by between (next ∷ texts)

abbrev pub in_brackets : List (List ℕ) → List ℕ
in_brackets texts = codes "(" ++ joined_by (codes ",") texts ++ codes ")"

abbrev pub name_of : List Symbol → SymId → List ℕ
name_of symbols s = elim (slice_get symbols s.0) [ Some symbol ↦ symbol.name | None ↦ [] ]

-- a name, and the texts of its arguments, if it has some
abbrev pub applied : List ℕ → List (List ℕ) → List ℕ
applied name [] = name
applied name (text ∷ texts) = name ++ in_brackets (text ∷ texts)

-- x and the number of a variable; a symbol with its arguments
abbrev pub text_step : List Symbol → Term-F (List ℕ) → List ℕ
text_step symbols (at.Var n) = codes "x" ++ decimal n
text_step symbols (at.App f texts) = applied (name_of symbols f) texts

abbrev pub term_text : List Symbol → Term → List ℕ
term_text symbols = fold-Term (List ℕ) (text_step symbols)

-- s=t, s!=t, an atom, or `-` and an atom
abbrev pub equation_text : Bool → List (List ℕ) → List ℕ
equation_text true sides = joined_by (codes "=") sides
equation_text false sides = joined_by (codes "!=") sides

abbrev pub atom_text : Bool → List ℕ → List ℕ
atom_text true atom = atom
atom_text false atom = codes "-" ++ atom

abbrev pub literal_text : List Symbol → Literal → List ℕ
literal_text symbols l =
    let texts = map (term_text symbols) l.args in
    if l.pred.0 == 0 then equation_text l.positive texts else atom_text l.positive (applied (name_of symbols l.pred) texts)

abbrev pub literals_text : List (List ℕ) → List ℕ
literals_text [] = codes "$F"
literals_text (text ∷ texts) = joined_by (codes " | ") (text ∷ texts)

abbrev pub clause_text : List Symbol → Clause → List ℕ
clause_text symbols c = literals_text (map (literal_text symbols) c.literals)
