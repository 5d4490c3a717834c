use Rattle.std.proofs.lemmas.Result.{on_ok_weaker}
use Rattle.sc_para.proofs.PairSites.{both_sides}
use Rattle.sc_para.proofs.pairs.add_with_equation.Goals as goal

pub returns : goal.returns
returns c =
    on_ok_weaker c.add_with_side-2.result
    (λ h. both_sides c.args.limit c.args.spot c.args.left.now c.args.right.now c.args.literals.now c.args.sites.now c.add_with_side.new.sites c.add_with_side-2.new.sites c.in_ok-add_with_side.ensures h)
    c.add_with_side-2.ensures
