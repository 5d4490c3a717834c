use Rattle.std.proofs.Common.{◌≡◌, ◌≢◌, ◌∙◌, ap, List, [], ◌∷◌, get_or, true, Option, Some, None, IfNone}
use Rattle.sc_term.specs.declared.Term.{Term}
use Rattle.sc_term.specs.declared.Literal.{Literal}
use Rattle.sc_term.specs.Refuted.{equation}
use Rattle.sc_demod.proofs.equation.sides.Goals as goal

-- where the first literal is no equation, neither is the clause
none_of_first : {A : Type 0} (r : Option A) (ls all : List Literal) (l : Literal) → ls ≡ all → l ≡ get_or ls 0 l → IfNone r ((s t : Term) → l ≢ equation true s t)
    → IfNone r ((s t : Term) → ¬ (all ≡ equation true s t ∷ []))
none_of_first None ls all l whole at none = λ s t e. none s t (at ∙ ap (λ (xs : List Literal). get_or xs 0 l) (whole ∙ e))
none_of_first (Some x) ls all l whole at none = tt

pub returns-in-len1-clause-none : goal.returns-in-len1-clause-none
returns-in-len1-clause-none c = none_of_first c.literal_sides.result c.as_slice.result.now c.args.c.now.literals c.only-item.result c.as_slice.ensures c.only-item.is c.literal_sides.ensures.none
