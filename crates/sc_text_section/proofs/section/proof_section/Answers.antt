use Rattle.std.proofs.Common.{◌≡◌, map, length, List, Ok, codes, rules}
use Rattle.sc_term.specs.declared.Line.{Line}
use Rattle.sc_input_rules.specs.declared.token.Token.{Token}
use Rattle.sc_input_rules.specs.Reader.{Read, ◌>>=◌}
use Rattle.sc_input_scan.specs.Told.{Fails}
use Rattle.sc_input_grammar.proofs.Lists.{fails_on}
use Rattle.sc_text_rules.specs.ProofGrammar.{the_heading, lines_within, proof_section}
use Rattle.sc_text_section.specs.Clipped.{clipped_line}
use Rattle.sc_text_section.proofs.Sequences.{gives_err, fails_then, fails_behind}
use Rattle.sc_text_section.proofs.section.proof_section.Goals as goal

abbrev behind_lines : List Line × List Token → Read (List Line)
behind_lines lines = the_heading (codes "end_of_proof") lines.1 >>= λ end. Ok (lines.0, end.1)

pub returns-in_err-rest-2 : goal.returns-in_err-rest-2
returns-in_err-rest-2 c =
    let e = c.in_err-rest-2.field-0.0 in
    let begin = c.in_ok-rest.rest.now in
    let read = lines_within (length begin) c.args.sig.now 1 begin in
    let opened : the_heading (codes "proof") c.args.tokens.now ≡ Ok (tt, begin) = search rules in
    let fails : Fails e (the_heading (codes "end_of_proof") c.in_ok-lines.rest.now) = search rules in
    gives_err _ _ e _ (search rules)
    (fails_on e (proof_section c.args.sig.now c.args.tokens.now) (λ r. Ok (map clipped_line r.0, r.1))
    (fails_then e (the_heading (codes "proof") c.args.tokens.now) tt begin (λ b. lines_within (length b.1) c.args.sig.now 1 b.1 >>= behind_lines) opened
    (fails_behind e (map clipped_line) read c.in_ok-lines.lines c.in_ok-lines.rest.now behind_lines c.in_ok-lines.ensures (λ lines.
    fails_on e (the_heading (codes "end_of_proof") c.in_ok-lines.rest.now) (λ end. Ok (lines, end.1)) fails))))
