use Rattle.sc_demod.proofs.FitLaws.{fits_where}
use Rattle.sc_demod.proofs.fit.fit_one.Goals as goal

pub returns-in-Some : goal.returns-in-Some
returns-in-Some c = fits_where c.match_term_onto.result c.args.d.now c.args.s.now c.in-Some.left.now c.in-Some.field-0-1.now c.in-Some.ensures.found c.match_term_onto.ensures
