use Rattle.std.proofs.Common.{◌∙◌, sym, ap, subst}
use Rattle.sc_core_rules.specs.Selection.{Seen}
use Rattle.sc_core.specs.State.{ProverState}
use Rattle.sc_world.specs.Acting.{ends_of}
use Rattle.sc_world.specs.Beside.{AllFound}
use Rattle.sc_world.proofs.closing.finish_beside.Goals as goal

pub record-requires-clause-whole : goal.record-requires-clause-whole
record-requires-clause-whole c = ap (λ (p : ProverState). p.whole) c.in_ok-catch_up.ensures ∙ c.requires.whole

pub record-requires-clause-ended : goal.record-requires-clause-ended
record-requires-clause-ended c = ap (λ (p : ProverState). p.run.ended) c.in_ok-catch_up.ensures ∙ c.requires.ended

pub record-requires-clause-same : goal.record-requires-clause-same
record-requires-clause-same c = ap (λ (p : ProverState). p.problem) c.in_ok-catch_up.ensures ∙ c.requires.same

pub returns-clause-recorded : goal.returns-clause-recorded
returns-clause-recorded c = λ plan found.
    let seen = ap (λ (p : ProverState). p.seen) c.in_ok-catch_up.ensures in
    c.in_ok-run.ensures.recorded plan (subst (λ (lists : Seen). AllFound c.args.problem.now plan (ends_of c.args.actors.now) lists) (sym seen) found)
