use Rattle.std.proofs.Common.{◌≡◌, ◌+◌, ◌-◌, length}
use Rattle.sc_input_grammar.specs.Behind.{behind}
use Rattle.sc_text_rules.specs.ProofGrammar.{lines_within}
use Rattle.sc_text_section.specs.Clipped.{clipped_lines}
use Rattle.sc_text_section.proofs.section.read_lines.Given as goal

-- what was read, and then what is read of the rest, is what is read of all
abbrev pub invariant-loop-earlier : goal.invariant-loop-earlier
invariant-loop-earlier l =
    behind l.front (clipped_lines (lines_within (length l.tokens - l.earlier) l.sig (l.earlier + 1) l.rest)) ≡ clipped_lines (lines_within (length l.tokens) l.sig 1 l.tokens)
