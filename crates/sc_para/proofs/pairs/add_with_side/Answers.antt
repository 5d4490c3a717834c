use Rattle.std.proofs.Common.{subst, length}
use Rattle.std.proofs.lemmas.Result.{on_ok_weaker}
use Rattle.sc_term.specs.declared.Literal.{Literal}
use Rattle.sc_resolve.specs.Extending.{Extends, Below}
use Rattle.sc_para.specs.Spots.{pair_numbers}
use Rattle.sc_para.specs.Pairs.{IsWithTarget}
use Rattle.sc_para.proofs.PairSites.{one_side}
use Rattle.sc_para.proofs.pairs.add_with_side.Goals as goal

pub returns-in_ok-source-in-App : goal.returns-in_ok-source-in-App
returns-in_ok-source-in-App c =
    on_ok_weaker c.add_with_targets.result
    (λ h. one_side c.args.limit c.args.spot c.args.side.now c.in-App.head c.in-App.field-1 c.args.literals.now c.in-App.is c.args.sites.now c.add_with_targets.new.sites
    (subst (λ (l : Literal). Extends pair_numbers (Below (IsWithTarget l c.args.spot c.args.literals.now) (length c.args.literals.now)) c.args.limit c.args.sites.now c.add_with_targets.new.sites)
    c.in_ok-source-in-App.ensures h))
    c.add_with_targets.ensures
