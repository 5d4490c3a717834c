use Rattle.std.proofs.Common.{◌≡◌, ◌-◌, length, codes}
use Rattle.sc_input_rules.specs.Reader as spec
use Rattle.sc_input_rules.specs.ProblemGrammar as of
use Rattle.sc_input_grammar.specs.Behind.{behind}
use Rattle.sc_input_grammar.proofs.item.clauses.Given as goal

-- what was read, and then what is read of the rest, is what is read of all
abbrev pub invariant-loop : goal.invariant-loop
invariant-loop l =
    behind l.front (spec.repeated (of.next_is_word (codes "end_of_list")) of.ended_clause (length l.tokens - l.counter) l.rest)
    ≡ spec.repeated (of.next_is_word (codes "end_of_list")) of.ended_clause (length l.tokens) l.tokens
