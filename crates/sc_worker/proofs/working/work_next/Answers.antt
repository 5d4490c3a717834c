use Rattle.std.proofs.Common.{ap, subst, ◌∙◌}
use Rattle.sc_shelf.specs.State.{PressState}
use Rattle.sc_worker.specs.declared.worked.Worked.{Worked}
use Rattle.sc_worker.specs.Choosing.{IsWorked}
use Rattle.sc_worker.proofs.WorkingLaws.{one_joined}
use Rattle.sc_worker.proofs.working.work_next.Goals as goal

pub returns-in_ok-publish-in-Joined-clause-stepped : goal.returns-in_ok-publish-in-Joined-clause-stepped
returns-in_ok-publish-in-Joined-clause-stepped g c =
    let chose = subst (λ (worked : Worked). IsWorked c.args.chooser.now c.next.new.self worked) c.in-Joined.is c.in_ok-next.ensures.worked in
    let done = c.in_ok-publish-in-Joined.ensures in
    one_joined c.args.chooser.now c.next.new.self c.args.press.now c.publish.new.self c.in-Joined.version c.requires chose done.list
    (ap (λ (p : PressState). p.symbols) done.ok) (ap (λ (p : PressState). p.whole) done.ok ∙ c.requires.whole) done.open
