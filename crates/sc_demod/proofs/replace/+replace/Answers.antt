use Rattle.sc_demod.proofs.ReplaceLaws.{replaced_where}
use Rattle.sc_demod.proofs.replace.+replace.Goals as goal

pub replace_in_terms-returns : goal.replace_in_terms-returns
replace_in_terms-returns t c =
    replaced_where c.with_term.result c.args.args.now c.args.path.now c.in-Some.n.now c.in-Some.rest.now c.args.redex.now c.args.value.now c.index-args-at.result c.in_ok-new.new
    c.in-Some.ensures.cases.0 c.requires c.index-args-at.is c.in_ok-new.ensures c.with_term.ensures
