use Rattle.std.proofs.Common.{map, rules}
use Rattle.sc_text_rules.specs.ProofGrammar.{text_terms}
use Rattle.sc_text_section.specs.Clipped.{clipped_term}
use Rattle.sc_text_section.proofs.Sequences.{gives_err}
use Rattle.sc_text_section.proofs.Bracketed.{inside_fails, close_fails}
use Rattle.sc_text_section.proofs.step.bracketed_terms.Goals as goal

pub returns-in_err-terms : goal.returns-in_err-terms
returns-in_err-terms c =
    gives_err _ _ c.in_err-terms.field-0.0 _ (search rules)
    (inside_fails (map clipped_term) (text_terms c.args.sig.now) c.in_err-terms.field-0.0 c.args.tokens.now c.in_ok-rest.rest.now c.in_ok-rest.ensures c.in_err-terms.ensures)

pub returns-in_err-rest-2 : goal.returns-in_err-rest-2
returns-in_err-rest-2 c =
    gives_err _ _ c.in_err-rest-2.field-0.0 _ (search rules)
    (close_fails (map clipped_term) (text_terms c.args.sig.now) c.in_err-rest-2.field-0.0 c.args.tokens.now c.in_ok-rest.rest.now c.in_ok-rest.ensures
    c.in_ok-terms.terms c.in_ok-terms.rest.now c.in_ok-terms.ensures c.in_err-rest-2.ensures)
