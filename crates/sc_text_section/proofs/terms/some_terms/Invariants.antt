use Rattle.std.proofs.Common.{◌≡◌, ◌-◌, length}
use Rattle.std.specs.List.{flat_map}
use Rattle.sc_input_rules.specs.Reader as spec
use Rattle.sc_input_rules.specs.ClauseGrammar.{side}
use Rattle.sc_input_rules.specs.Numbering.{terms_of}
use Rattle.sc_input_rules.specs.declared.token.Sign.TheVariants.{Comma}
use Rattle.sc_input_grammar.specs.Behind.{behind}
use Rattle.sc_text_section.specs.Clipped.{seen_by}
use Rattle.sc_text_section.specs.Numerals.{clipped_variable}
use Rattle.sc_text_section.proofs.terms.some_terms.Given as goal

-- what was read, and then what is read of the rest, is what is read of all
abbrev pub invariant-loop : goal.invariant-loop
invariant-loop l =
    behind l.front (seen_by (flat_map (terms_of clipped_variable l.sig)) (spec.separated Comma side (length l.tokens - l.counter) l.rest))
    ≡ seen_by (flat_map (terms_of clipped_variable l.sig)) (spec.separated Comma side (length l.tokens) l.tokens)
