use Rattle.std.proofs.Common.{sym, subst, List, [], length}
use Rattle.std.specs.List.{All}
use Rattle.std.proofs.lemmas.Result.{IfOk-weaker}
use Rattle.sc_core_rules.specs.Hyperresolution.{AreUrSites, ur_numbers}
use Rattle.sc_resolve.specs.ByNumber.{seen}
use Rattle.sc_resolve.specs.Extending.{Extends, Below}
use Rattle.sc_hyper.specs.declared.candidates.Candidate.{Candidate}
use Rattle.sc_hyper.specs.Candidates.{IsSingle, IsFirst, IsNarrow}
use Rattle.sc_hyper.specs.Ur.{IsWithUrUsable}
use Rattle.sc_hyper.proofs.CandidateLaws.{are_narrow}
use Rattle.sc_hyper.proofs.UrLaws.{are_ur_sites, units_first}
use Rattle.sc_hyper.proofs.ur.ur_sites_in_order.Goals as goal

pub ur_sites_with-requires-clause-narrow : goal.ur_sites_with-requires-clause-narrow
ur_sites_with-requires-clause-narrow c =
    subst (λ (cs : List Candidate). All IsNarrow cs) (sym c.as_slice.ensures) (are_narrow IsSingle (seen c.args.usable.now) c.in_ok-found.found c.requires.kept c.in_ok-found.ensures)

pub returns : goal.returns
returns c =
    let usable = seen c.args.usable.now in
    let given = c.args.given.now in
    IfOk-weaker c.ur_sites_with.result
    (λ sites. Extends ur_numbers (Below (IsWithUrUsable given.number c.as_slice.result.now usable) (length usable)) c.args.limit [] sites)
    (λ sites. AreUrSites given usable c.args.limit sites)
    (λ sites h. are_ur_sites given usable c.in_ok-found.found c.in_ok-found.ensures c.args.limit sites
    (subst (λ (cs : List Candidate). Extends ur_numbers (Below (IsWithUrUsable given.number cs usable) (length usable)) c.args.limit [] sites) c.as_slice.ensures h))
    c.ur_sites_with.ensures

pub ur_sites_with-requires-clause-first : goal.ur_sites_with-requires-clause-first
ur_sites_with-requires-clause-first c =
    subst (λ (cs : List Candidate). All IsFirst cs) (sym c.as_slice.ensures) (units_first (seen c.args.usable.now) c.in_ok-found.found c.in_ok-found.ensures)
