use Rattle.std.proofs.Common.{sym, subst, List, [], length}
use Rattle.std.specs.List.{All}
use Rattle.std.proofs.lemmas.Result.{IfOk-weaker}
use Rattle.sc_core_rules.specs.Hyperresolution.{IsPositive, AreHyperSites, hyper_numbers}
use Rattle.sc_resolve.specs.ByNumber.{seen}
use Rattle.sc_resolve.specs.Extending.{Extends, Below}
use Rattle.sc_hyper.specs.declared.candidates.Candidate.{Candidate}
use Rattle.sc_hyper.specs.Candidates.{IsNarrow}
use Rattle.sc_hyper.specs.Choosing.{IsWithUsable}
use Rattle.sc_hyper.proofs.CandidateLaws.{are_narrow}
use Rattle.sc_hyper.proofs.HyperLaws.{are_sites}
use Rattle.sc_hyper.proofs.hyper.sites_in_order.Goals as goal

pub sites_with-requires-clause-narrow : goal.sites_with-requires-clause-narrow
sites_with-requires-clause-narrow c =
    subst (λ (cs : List Candidate). All IsNarrow cs) (sym c.as_slice.ensures) (are_narrow IsPositive (seen c.args.usable.now) c.in_ok-found.found c.requires.kept c.in_ok-found.ensures)

pub returns : goal.returns
returns c =
    let usable = seen c.args.usable.now in
    let given = c.args.given.now in
    IfOk-weaker c.sites_with.result
    (λ sites. Extends hyper_numbers (Below (IsWithUsable given.number c.as_slice.result.now usable) (length usable)) c.args.limit [] sites)
    (λ sites. AreHyperSites given usable c.args.limit sites)
    (λ sites h. are_sites given usable c.in_ok-found.found c.in_ok-found.ensures c.args.limit sites
    (subst (λ (cs : List Candidate). Extends hyper_numbers (Below (IsWithUsable given.number cs usable) (length usable)) c.args.limit [] sites) c.as_slice.ensures h))
    c.sites_with.ensures
