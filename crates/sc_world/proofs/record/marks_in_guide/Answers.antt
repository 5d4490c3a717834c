use Rattle.std.proofs.Common.{subst}
use Rattle.sc_interp.specs.Versions.{ClaimedStructure}
use Rattle.sc_core_rules.specs.Selection.{IsGuide}
use Rattle.sc_world.proofs.record.marks_in_guide.Goals as goal

pub returns : goal.returns
returns c =
    let named = c.guide_name.ensures.guide in
    let same = c.guide.ensures.only c.guide_name.result named.0 named.1 in (
      c.guide_name.result,
      c.guide.result.now,
      subst (λ (v : ClaimedStructure). IsGuide c.args.prover.now.problem c.args.prover.now.seen c.guide_name.result v) same named.1,
      c.in_ok-rows.ensures,
    )
