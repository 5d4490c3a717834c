use Rattle.std.proofs.Common.{◌∙◌, sym, ap}
use Rattle.sc_sos.specs.Waiting.{Waiting, age_of, IsAny}
use Rattle.sc_sos.proofs.LookingLaws.{comes_first, none_there}
use Rattle.sc_sos.proofs.sos.Sos.oldest.Goals as goal

pub returns-in-Some-clause-some : goal.returns-in-Some-clause-some
returns-in-Some-clause-some c =
    comes_first age_of IsAny c.args.self.now.clauses c.deref.result.now c.in-Some.w
    (sym (ap (λ (v : Waiting). v.clauses) c.self.view_is) ∙ sym c.deref.ensures.value) c.in-Some.ensures

pub returns-in-None-clause-none : goal.returns-in-None-clause-none
returns-in-None-clause-none c =
    sym (ap (λ (v : Waiting). v.clauses) c.self.view_is) ∙ sym c.deref.ensures.value ∙ none_there c.deref.result.now c.in-None.ensures
