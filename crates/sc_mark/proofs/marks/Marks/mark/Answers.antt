use Rattle.std.proofs.Common.{length, sym, subst}
use Rattle.sc_interp.specs.Marks.{IsMark}
use Rattle.sc_mark.specs.Known.{truth_known, IsKnown}
use Rattle.sc_mark.specs.Marked.{Marked, HasMark}
use Rattle.sc_mark.proofs.KnownLaws.{known_marks}
use Rattle.sc_mark.proofs.MarkingLaws.{still_marked, marked_more}
use Rattle.sc_mark.proofs.marks.Marks.mark.Goals as goal

-- where memory is wanting, a place may have been made
pub invariant_of-self : goal.invariant_of-self
invariant_of-self c = still_marked _ c.self.inside.stored c.add.new.stored (length c.self.inside.register.items) _ c.self.invariant
    c.known_in-known.ensures.register _ c.in_err-add.ensures.refused c.in_err-add.ensures.same

pub invariant_of-self-2 : goal.invariant_of-self-2
invariant_of-self-2 c = marked_more _ c.self.inside.stored c.add.new.stored (length c.self.inside.register.items) _ c.self.invariant
    c.known_in-known.ensures.register _ c.args.n c.args.c.now c.known_in-known.result
    c.in_ok-add.ensures.clauses (subst (λ (m : Marked). ¬ HasMark m c.args.n) (sym c.self.view_is) c.requires.fresh) c.requires.canonical c.requires.within
    (subst (λ t. IsKnown t c.args.c.now c.known_in-known.result) c.tables.ensures.value c.known_in-known.ensures.known) c.in_ok-add.ensures.put

pub returns-clause-truth : goal.returns-clause-truth
returns-clause-truth c =
    let known = subst (λ t. IsKnown t c.args.c.now c.known_in-known.result) c.tables.ensures.value c.known_in-known.ensures.known in
    subst (λ truth. IsMark c.args.self.now.version.tables c.args.c.now truth) (sym c.truth_of.ensures)
    (subst (λ (m : Marked). IsMark m.version.tables c.args.c.now (truth_known c.known_in-known.result)) c.self.view_is (known_marks _ c.args.c.now c.known_in-known.result known))
