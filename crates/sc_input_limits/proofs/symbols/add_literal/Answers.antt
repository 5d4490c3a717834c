use Rattle.std.proofs.Common.{subst, ℕ, [], ◌∷◌, map, filter, not}
use Rattle.std.specs.Prelude.{Option}
use Rattle.sc_input_rules.specs.Numbering.{is_variable, function_at, predicate_at}
use Rattle.sc_input_limits.specs.Symbols.{FindsMore}
use Rattle.sc_input_limits.proofs.Once.{finds_told}
use Rattle.sc_input_limits.proofs.symbols.add_literal.Goals as goal

pub returns-in-Some : goal.returns-in-Some
returns-in-Some c =
    let l = c.args.literal.now in
    let P : Option ℕ → Type 0 = λ told. FindsMore (predicate_at l.predicate ∷ []) c.args.symbols.now c.add_occurrence.new.symbols told in
    finds_told (predicate_at l.predicate ∷ []) (map function_at (filter (λ o. not (is_variable o)) l.arguments)) c.args.symbols.now c.add_occurrence.new.symbols c.in-Some.at (subst P c.in-Some.is c.in_ok-at.ensures)
