use Rattle.std.proofs.Common.{◌≡◌, ◌-◌, map}
use Rattle.sc_input_rules.specs.Reader as spec
use Rattle.sc_input_rules.specs.declared.token.Sign.TheVariants.{Comma}
use Rattle.sc_input_grammar.specs.Behind.{behind}
use Rattle.sc_text_rules.specs.TextWords.{a_number}
use Rattle.sc_text_section.specs.Clipped.{clipped, seen_by}
use Rattle.sc_text_section.proofs.step.path.Given as goal

-- what was read, and then what is read of the rest, is what is read of all
abbrev pub invariant-loop : goal.invariant-loop
invariant-loop l =
    behind l.front (seen_by (map clipped) (spec.separated Comma a_number (l.most - l.counter) l.rest)) ≡ seen_by (map clipped) (spec.separated Comma a_number l.most l.tokens)
