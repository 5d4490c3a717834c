use Rattle.std.proofs.Common.{length, ◌≡◌, ◌∙◌, sym, ap, subst, refl, None, List, Option}
use Rattle.sc_mark.specs.declared.known.Known.{Known}
use Rattle.sc_mark.specs.Marked.{Marked, without_mark}
use Rattle.sc_mark.specs.Marking.{known_at}
use Rattle.sc_mark.proofs.MarkingLaws.{marked_less, not_marked}
use Rattle.sc_mark.proofs.marks.Marks.forget.Goals as goal

pub invariant_of-self : goal.invariant_of-self
invariant_of-self c = marked_less _ c.self.inside.stored c.clear.new.stored (length c.self.inside.register.items) _ c.self.invariant refl _ c.args.n c.leave_out.ensures c.clear.ensures

-- what isn't marked needn't be taken out
pub returns-in-None : goal.returns-in-None
returns-in-None c =
    let none : known_at c.self.inside.stored c.args.n ≡ None = ap (λ (ts : List (Option Known)). known_at ts c.args.n) (sym c.as_slice.ensures) ∙ sym c.known_of.ensures ∙ c.in-None.is in
    subst (λ (m : Marked). m ≡ without_mark m c.args.n) c.self.view_is (not_marked _ c.self.inside.stored (length c.self.inside.register.items) c.args.n c.self.invariant none)
