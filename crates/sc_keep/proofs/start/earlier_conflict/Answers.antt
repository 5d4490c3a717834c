use Rattle.std.proofs.Common.{◌∙◌, sym, true≢false, arith}
use Rattle.sc_keep.proofs.EndingLaws.{pair_found}
use Rattle.sc_keep.proofs.LightLaws.{narrow}
use Rattle.sc_keep.proofs.start.earlier_conflict.Goals as goal

pub returns : goal.returns
returns c problem e =
    let later = c.if-n-m.false in
    pair_found problem c.args.homes.now c.args.n.now c.args.m.now e (omega (arith, later))
    (λ at. true≢false (sym (c.stands_in.ensures.1 at) ∙ c.if-stands_in.false)) (λ at. true≢false (sym (c.stands_in-2.ensures.1 at) ∙ c.if-stands_in-2.false))
    c.in_ok-found.found c.in_ok-found.ensures

pub conflict-requires-clause-few : goal.conflict-requires-clause-few
conflict-requires-clause-few c = let left = narrow c.args.n.now c.requires.fit_n in let right = narrow c.args.m.now c.requires.fit_m in omega (arith, left, right)
