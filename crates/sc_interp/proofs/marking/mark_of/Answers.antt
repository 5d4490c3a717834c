use Rattle.std.proofs.Common.{sym, subst}
use Rattle.sc_term.specs.Clause.{IsCanonical}
use Rattle.sc_term.proofs.CanonicalForm.{is_canonical}
use Rattle.sc_interp.proofs.CanonicalMarks.{told}
use Rattle.sc_interp.proofs.marking.mark_of.Goals as goal

-- the form is canonical
pub mark_of_canonical-requires : goal.mark_of_canonical-requires
mark_of_canonical-requires c = subst IsCanonical (sym c.in_ok-form.ensures) (is_canonical c.args.c.now)

-- its mark is that of the clause
pub returns : goal.returns
returns c = told c.args.tables.now c.args.c.now c.in_ok-form.form c.mark_of_canonical.result c.in_ok-form.ensures c.mark_of_canonical.ensures
