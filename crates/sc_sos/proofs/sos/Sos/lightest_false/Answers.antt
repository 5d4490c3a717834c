use Rattle.std.proofs.Common.{◌∙◌, sym, ap, subst, List}
use Rattle.std.specs.List.{All}
use Rattle.sc_sos.specs.declared.sos.Weighed.{Weighed}
use Rattle.sc_sos.specs.Waiting.{Waiting, weight_of, IsFalseIn}
use Rattle.sc_sos.proofs.LookingLaws.{comes_first}
use Rattle.sc_sos.proofs.sos.Sos.lightest_false.Goals as goal

pub returns-in-Some-clause-some : goal.returns-in-Some-clause-some
returns-in-Some-clause-some c =
    comes_first weight_of (IsFalseIn c.args.marks.now) c.args.self.now.clauses c.deref.result.now c.in-Some.w
    (sym (ap (λ (v : Waiting). v.clauses) c.self.view_is) ∙ sym c.deref.ensures.value) c.in-Some.ensures

pub returns-in-None-clause-none : goal.returns-in-None-clause-none
returns-in-None-clause-none c =
    subst (λ (ws : List Weighed). All (λ (w : Weighed). ¬ IsFalseIn c.args.marks.now w) ws)
    (c.deref.ensures.value ∙ ap (λ (v : Waiting). v.clauses) c.self.view_is) c.in-None.ensures
