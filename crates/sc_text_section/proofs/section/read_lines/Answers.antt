use Rattle.std.proofs.Common.{◌≡◌, ◌∙◌, ap, ℕ, List, suc, ◌+◌, ◌-◌, length, arith, rules}
use Rattle.sc_term.specs.declared.Line.{Line}
use Rattle.sc_term.specs.declared.symbol.Symbol.{Symbol}
use Rattle.sc_input_rules.specs.Reader.{Read}
use Rattle.sc_input_rules.specs.declared.token.Token.{Token}
use Rattle.sc_input_grammar.specs.Behind.{behind}
use Rattle.sc_text_rules.specs.ProofGrammar.{lines_within}
use Rattle.sc_text_section.specs.Clipped.{clipped_lines}
use Rattle.sc_text_section.proofs.LinesInTurn.{lines_on, lines_fail}
use Rattle.sc_text_section.proofs.section.read_lines.Goals as goal

-- what is still to be read, as it is read
abbrev read : List Symbol → ℕ → ℕ → List Token → Read (List Line)
read symbols k number rest = clipped_lines (lines_within k symbols number rest)

pub loop-earlier-preserved : goal.loop-earlier-preserved
loop-earlier-preserved c =
    let most = length c.args.tokens.now in
    let more : most - c.loop-earlier.earlier ≡ suc (most - (c.loop-earlier.earlier + 1)) = omega (arith, c.loop-earlier-test.true) in
    ap (λ (rest : List Token). behind c.push.new.self (read c.args.sig.now (most - (c.loop-earlier.earlier + 1)) (c.loop-earlier.earlier + 1 + 1) rest)) c.new-rest-in-loop-earlier.ensures
    ∙ lines_on c.args.sig.now most c.loop-earlier.earlier c.loop-earlier.front c.tokens-left.result.now more c.push.new.self c.in_ok-line.line c.in_ok-line.after.now
    (search rules) c.in_ok-push.ensures.ok c.in_ok-line.ensures
    ∙ ap (λ (rest : List Token). behind c.loop-earlier.front (read c.args.sig.now (most - c.loop-earlier.earlier) (c.loop-earlier.earlier + 1) rest)) c.tokens-left.ensures ∙ c.loop-earlier.invariant

pub returns-in_err-line : goal.returns-in_err-line
returns-in_err-line c =
    let most = length c.args.tokens.now in
    let more : most - c.loop-earlier.earlier ≡ suc (most - (c.loop-earlier.earlier + 1)) = omega (arith, c.loop-earlier-test.true) in
    lines_fail c.args.sig.now most c.loop-earlier.earlier c.loop-earlier.front c.tokens-left.result.now more _ _ c.in_err-line.field-0.0 _
    (search rules) (search rules) c.in_err-line.ensures
    (ap (λ (rest : List Token). behind c.loop-earlier.front (read c.args.sig.now (most - c.loop-earlier.earlier) (c.loop-earlier.earlier + 1) rest)) c.tokens-left.ensures ∙ c.loop-earlier.invariant)
