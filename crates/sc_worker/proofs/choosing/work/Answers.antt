use Rattle.std.proofs.Common.{◌≡◌, ◌∙◌, subst, List}
use Rattle.sc_interp.specs.declared.plain.Claim.{Claim}
use Rattle.sc_worker.specs.FinderList.{with_claim, task_for}
use Rattle.sc_worker.specs.Choosing.{IsReasonFor}
use Rattle.sc_worker.specs.Trying.{IsTried}
use Rattle.sc_worker.proofs.TryingLaws.{claims_over, task_over}
use Rattle.sc_worker.proofs.choosing.work.Goals as goal

pub try_next-requires-clause-over : goal.try_next-requires-clause-over
try_next-requires-clause-over c =
    task_over c.args.problem.now c.args.size c.as_slice.result.now c.keeps.ensures
    (claims_over c.args.problem.now.symbols c.args.claims.now c.as_slice.result.now (record { number = c.args.number; clause = c.args.clause.now }) c.requires.claims c.requires.clause
    (c.as_slice.ensures ∙ c.in_ok-push_claim.ensures.ok))

pub try_next-requires-clause-more : goal.try_next-requires-clause-more
try_next-requires-clause-more c = record {
  before = c.args.claims.now;
  number = c.args.number;
  claims_are = c.as_slice.ensures ∙ c.in_ok-push_claim.ensures.ok;
  kept = c.requires.kept;
}

pub returns-in-Ok-GivenUp-clause-worked : goal.returns-in-Ok-GivenUp-clause-worked
returns-in-Ok-GivenUp-clause-worked c =
    let same : c.as_slice.result.now ≡ with_claim c.args.claims.now (record { number = c.args.number; clause = c.args.clause.now }) = c.as_slice.ensures ∙ c.in_ok-push_claim.ensures.ok in
    let reason : IsReasonFor c.args.budget (task_for c.args.problem.now c.args.size c.as_slice.result.now) c.in-Ok-GivenUp.skip
    = subst (IsTried (task_for c.args.problem.now c.args.size c.as_slice.result.now) c.args.budget c.as_slice.result.now) c.in-Ok-GivenUp.field-0-is c.in-Ok-GivenUp.ensures.tried in (
      subst (λ (claims : List Claim). IsReasonFor c.args.budget (task_for c.args.problem.now c.args.size claims) c.in-Ok-GivenUp.skip) same reason,
      c.pop_claim.ensures c.args.claims.now (record { number = c.args.number; clause = c.args.clause.now }) c.in_ok-push_claim.ensures.ok,
    )
