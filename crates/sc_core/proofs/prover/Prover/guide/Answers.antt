use Rattle.std.proofs.Common.{sym, subst}
use Rattle.sc_interp.specs.Versions.{ClaimedStructure}
use Rattle.sc_core_rules.specs.Selection.{IsGuide}
use Rattle.sc_core.specs.State.{ProverState}
use Rattle.sc_core.proofs.SeenLaws.{one_guide}
use Rattle.sc_core.proofs.prover.Prover.guide.Goals as goal

pub returns-clause-guide : goal.returns-clause-guide
returns-clause-guide c =
    let problem = c.self.inside.running.book.problem in
    let guide = c.self.inside.guide in (
      guide.name,
      subst (λ (s : ProverState). IsGuide s.problem s.seen guide.name c.version.result.now) c.self.view_is
          (subst (λ (v : ClaimedStructure). IsGuide problem guide.seen guide.name v) (sym c.version.ensures.value) (c.version.ensures.guide problem (sym c.self.invariant.opens))),
    )

pub returns-clause-only : goal.returns-clause-only
returns-clause-only c name version h =
    let problem = c.self.inside.running.book.problem in
    let guide = c.self.inside.guide in
    let here : IsGuide c.args.self.now.problem c.args.self.now.seen guide.name c.version.result.now =
    subst (λ (s : ProverState). IsGuide s.problem s.seen guide.name c.version.result.now) c.self.view_is
    (subst (λ (v : ClaimedStructure). IsGuide problem guide.seen guide.name v) (sym c.version.ensures.value) (c.version.ensures.guide problem (sym c.self.invariant.opens))) in
    one_guide c.args.self.now.problem c.args.self.now.seen name guide.name version c.version.result.now h here
