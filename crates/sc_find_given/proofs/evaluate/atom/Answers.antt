use Rattle.std.proofs.Common.{ℕ, ◌++◌, List, Option, slice_index}
use Rattle.std.specs.Option.{option_map}
use Rattle.sc_term.specs.declared.SymId.{SymId}
use Rattle.sc_term.specs.Interpretation.{Assignment, are_equal}
use Rattle.sc_find_given.specs.Lookup.{look_up, found_terms, found_atom}
use Rattle.sc_find_given.proofs.WaitingLaws.{sees_same, equation_is}
use Rattle.sc_find_given.proofs.evaluate.atom.Goals as goal

pub returns-then-pred-eq0 : goal.returns-then-pred-eq0
returns-then-pred-eq0 c =
    let look : List ℕ → SymId → Option (List ℕ) → Option ℕ = λ g. look_up c.args.size c.args.rows.now g in
    let a : Assignment = slice_index c.args.values.now in
    let given : List ℕ = c.args.given.now in
    sees_same (λ g. option_map are_equal (found_terms (look g) a c.args.args.now)) (λ g. found_atom (look g) c.args.pred (found_terms (look g) a c.args.args.now)) given c.equation.result
    (λ more. equation_is (look (given ++ more)) c.args.pred (found_terms (look (given ++ more)) a c.args.args.now) c.if-pred-eq0.true) c.equation.ensures
