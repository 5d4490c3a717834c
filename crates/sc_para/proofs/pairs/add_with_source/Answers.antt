use Rattle.std.proofs.lemmas.Result.{on_ok_weaker}
use Rattle.sc_para.proofs.PairSites.{is_equation, no_equation}
use Rattle.sc_para.proofs.pairs.add_with_source.Goals as goal

pub returns-in-Some : goal.returns-in-Some
returns-in-Some c =
    on_ok_weaker c.add_with_equation.result
    (λ h. is_equation c.args.limit c.args.spot c.args.l.now c.in-Some.left.now c.in-Some.right.now c.args.literals.now c.in-Some.ensures.found c.args.sites.now c.add_with_equation.new.sites h)
    c.add_with_equation.ensures

pub returns-in-None : goal.returns-in-None
returns-in-None c = no_equation c.args.limit c.args.spot c.args.l.now c.args.literals.now c.in-None.ensures.none c.args.sites.now
