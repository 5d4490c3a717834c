use Rattle.sc_term.proofs.CanonicalForm.{is_canonical}
use Rattle.sc_term.proofs.laws.canonical_form_is_canonical.Goals as goal

pub returns : goal.returns
returns c = is_canonical
