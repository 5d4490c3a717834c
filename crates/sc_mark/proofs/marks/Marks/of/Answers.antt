use Rattle.std.proofs.Common.{length, ◌≡◌, ◌∙◌, sym, ap, subst, Some, List, Option, Contains}
use Rattle.sc_term.specs.declared.Numbered.{Numbered}
use Rattle.sc_mark.specs.declared.known.Known.{Known}
use Rattle.sc_interp.specs.Marks.{IsMark}
use Rattle.sc_mark.specs.Known.{truth_known}
use Rattle.sc_mark.specs.Marked.{Marked, HasTruth}
use Rattle.sc_mark.specs.Marking.{known_at}
use Rattle.sc_mark.proofs.MarkingLaws.{there_told, only_told}
use Rattle.sc_mark.proofs.marks.Marks.of.Goals as goal

pub returns-in-Some-clause-there : goal.returns-in-Some-clause-there
returns-in-Some-clause-there c =
    let told : known_at c.self.inside.stored c.args.n ≡ Some c.in-Some.known = ap (λ (ts : List (Option Known)). known_at ts c.args.n) (sym c.as_slice.ensures) ∙ sym c.known_of.ensures ∙ c.in-Some.is in
    subst (λ truth. HasTruth c.args.self.now c.args.n truth) (sym c.truth_of.ensures)
    (subst (λ (m : Marked). HasTruth m c.args.n (truth_known c.in-Some.known)) c.self.view_is
    (there_told _ c.self.inside.stored (length c.self.inside.register.items) c.args.n c.in-Some.known c.self.invariant told))

pub returns-in-Some-clause-only : goal.returns-in-Some-clause-only
returns-in-Some-clause-only c =
    let told : known_at c.self.inside.stored c.args.n ≡ Some c.in-Some.known = ap (λ (ts : List (Option Known)). known_at ts c.args.n) (sym c.as_slice.ensures) ∙ sym c.known_of.ensures ∙ c.in-Some.is in
    subst (λ truth. (p : Numbered) → Contains c.args.self.now.clauses p → p.number ≡ c.args.n → IsMark c.args.self.now.version.tables p.clause truth) (sym c.truth_of.ensures)
    (subst (λ (m : Marked). (p : Numbered) → Contains m.clauses p → p.number ≡ c.args.n → IsMark m.version.tables p.clause (truth_known c.in-Some.known)) c.self.view_is
    (only_told _ c.self.inside.stored (length c.self.inside.register.items) c.args.n c.in-Some.known c.self.invariant told))
