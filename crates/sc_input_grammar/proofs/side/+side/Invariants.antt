use Rattle.std.proofs.Common.{◌≡◌, ◌+◌, ◌-◌, ◌*◌}
use Rattle.sc_input_rules.specs.Reader as spec
use Rattle.sc_input_rules.specs.declared.token.Sign.TheVariants.{Comma}
use Rattle.sc_input_rules.specs.ClauseGrammar.{side_within}
use Rattle.sc_input_grammar.specs.Behind.{sides_behind}
use Rattle.sc_input_grammar.proofs.side.+side.Given as goal

abbrev pub decreases-arguments : goal.decreases-arguments
decreases-arguments l = 3 * l.n + 2

abbrev pub decreases-side_within : goal.decreases-side_within
decreases-side_within l = 3 * l.n

abbrev pub decreases-sides : goal.decreases-sides
decreases-sides l = 3 * l.n + 1

-- what was read, and then what is read of the rest, is what is read of all
abbrev pub invariant-sides-loop : goal.invariant-sides-loop
invariant-sides-loop l = record {
  so_far : sides_behind l.count l.names (spec.separated Comma (side_within l.n) (l.most - l.counter) l.rest) ≡ sides_behind 0 l.initial.names (spec.separated Comma (side_within l.n) l.most l.tokens);
  counted : l.count ≡ l.counter;
}
