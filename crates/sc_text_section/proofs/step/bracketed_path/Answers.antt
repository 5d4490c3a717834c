use Rattle.std.proofs.Common.{map, length, rules}
use Rattle.sc_input_rules.specs.Reader.{separated}
use Rattle.sc_input_rules.specs.declared.token.Sign.TheVariants.{Comma}
use Rattle.sc_text_rules.specs.TextWords.{a_number}
use Rattle.sc_text_section.specs.Clipped.{clipped}
use Rattle.sc_text_section.proofs.Sequences.{gives_err}
use Rattle.sc_text_section.proofs.Bracketed.{close_fails}
use Rattle.sc_text_section.proofs.step.bracketed_path.Goals as goal

pub returns-in_err-rest-2 : goal.returns-in_err-rest-2
returns-in_err-rest-2 c =
    gives_err _ _ c.in_err-rest-2.field-0.0 _ (search rules)
    (close_fails (map clipped) (separated Comma a_number (length c.args.tokens.now)) c.in_err-rest-2.field-0.0 c.args.tokens.now c.in_ok-rest.rest.now c.in_ok-rest.ensures
    c.in_ok-path.path c.in_ok-path.rest.now c.in_ok-path.ensures c.in_err-rest-2.ensures)
