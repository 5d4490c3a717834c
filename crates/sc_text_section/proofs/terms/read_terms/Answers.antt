use Rattle.std.proofs.Common.{subst, rules}
use Rattle.sc_input_scan.specs.Told.{Gives}
use Rattle.sc_text_section.proofs.TermsOfNames.{some_terms_made}
use Rattle.sc_text_section.proofs.terms.read_terms.Goals as goal

pub returns-else-next_is_sign : goal.returns-else-next_is_sign
returns-else-next_is_sign c = subst (Gives _ c.some_terms.result) (some_terms_made c.args.sig.now c.args.tokens.now (search rules)) c.some_terms.ensures
