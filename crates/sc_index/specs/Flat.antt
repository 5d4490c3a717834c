-- Terms and literals as rows of cells.
use Rattle.std.specs.Prelude.{List, [], ◌∷◌, map, length}
use Rattle.sc_term.specs.declared.Term.{Term, fold-Term}
use Rattle.sc_term.specs.declared.Term.TheOpen.{Term-F}
use Rattle.sc_term.specs.declared.Term.TheOpen as at
use Rattle.sc_term.specs.declared.Literal.{Literal}
use Rattle.sc_term.specs.Term.{joined}
use Rattle.sc_index.specs.declared.flat.Key.{Key}
use Rattle.sc_index.specs.declared.flat.Key.TheVariants as key
use Rattle.sc_index.specs.declared.flat.Cell.{Cell}

abbrev pub cells_step : Term-F (List Cell) → List Cell
cells_step (at.Var n) = record { key = key.Variable; below = 0 } ∷ []
cells_step (at.App f cells) = record { key = key.Symbol f (length cells); below = length (joined cells) } ∷ joined cells

-- the term in preorder; variables are alike
abbrev pub term_cells : Term → List Cell
term_cells = fold-Term (List Cell) cells_step

-- the literal in preorder, its sign and predicate first
abbrev pub literal_cells : Literal → List Cell
literal_cells l = record { key = key.Atom l.positive l.pred; below = 0 } ∷ joined (map term_cells l.args)
