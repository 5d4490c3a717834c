use Rattle.sc_demod.proofs.RedexLaws.{fits_or_not}
use Rattle.sc_demod.proofs.redex.fits_some.Goals as goal

pub returns : goal.returns
returns c = fits_or_not c.args.demods.now c.args.t.now c.in_ok-first_fit.field-0 c.is_some.result c.is_some.ensures c.in_ok-first_fit.ensures
