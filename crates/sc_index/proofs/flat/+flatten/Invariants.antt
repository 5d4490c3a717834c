use Rattle.std.proofs.Common.{◌≡◌, ◌++◌, map, take}
use Rattle.sc_term.specs.Term.{joined}
use Rattle.sc_index.specs.Flat.{term_cells}
use Rattle.sc_index.proofs.flat.+flatten.Given as goal

abbrev pub invariant-add_terms-loop-term : goal.invariant-add_terms-loop-term
invariant-add_terms-loop-term l = l.cells.items ≡ l.initial.cells.items ++ joined (map term_cells (take l.term-index l.terms))
