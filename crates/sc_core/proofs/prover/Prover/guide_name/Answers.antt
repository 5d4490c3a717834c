use Rattle.std.proofs.Common.{sym, subst}
use Rattle.sc_interp.specs.declared.plain.VersionName.{VersionName}
use Rattle.sc_core_rules.specs.Selection.{IsGuide}
use Rattle.sc_core.specs.State.{ProverState}
use Rattle.sc_core.proofs.SeenLaws.{one_name}
use Rattle.sc_core.proofs.prover.Prover.guide_name.Goals as goal

pub returns-clause-guide : goal.returns-clause-guide
returns-clause-guide c =
    let problem = c.self.inside.running.book.problem in
    let guide = c.self.inside.guide in (
      guide.version,
      subst (λ (s : ProverState). IsGuide s.problem s.seen c.name.result guide.version) c.self.view_is
          (subst (λ (n : VersionName). IsGuide problem guide.seen n guide.version) (sym c.name.ensures.value) (c.name.ensures.guide problem (sym c.self.invariant.opens))),
    )

pub returns-clause-only : goal.returns-clause-only
returns-clause-only c name version h =
    let problem = c.self.inside.running.book.problem in
    let guide = c.self.inside.guide in
    let here : IsGuide c.args.self.now.problem c.args.self.now.seen c.name.result guide.version =
    subst (λ (s : ProverState). IsGuide s.problem s.seen c.name.result guide.version) c.self.view_is
    (subst (λ (n : VersionName). IsGuide problem guide.seen n guide.version) (sym c.name.ensures.value) (c.name.ensures.guide problem (sym c.self.invariant.opens))) in
    one_name c.args.self.now.problem c.args.self.now.seen name c.name.result version guide.version h here
