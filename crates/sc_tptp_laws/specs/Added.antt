-- The clause that is added to a problem in which `=` occurs.
use Rattle.std.specs.Prelude.{true, [], ◌∷◌}
use Rattle.sc_term.specs.declared.Clause.{Clause}
use Rattle.sc_term.specs.declared.Term.TheVariants.{Var}
use Rattle.sc_term.specs.Refuted.{equation}

-- x0 = x0
abbrev pub reflexivity : Clause
reflexivity = record { literals = equation true (Var 0) (Var 0) ∷ [] }
