use Rattle.std.proofs.Common.{◌∙◌, sym, subst, true≢false}
use Rattle.sc_keep.proofs.EndingLaws.{Pair, greater_rival, no_rival, new_rival}
use Rattle.sc_keep.proofs.start.better_earlier.Goals as goal

pub returns-then-not-is_below : goal.returns-then-not-is_below
returns-then-not-is_below c problem e front h = greater_rival problem c.args.n.now c.args.m.now front c.args.best (λ below. true≢false (sym (c.is_below.ensures.1 below) ∙ c.if-not-is_below.true)) h

pub returns-in-Some : goal.returns-in-Some
returns-in-Some c problem e front h =
    new_rival problem c.args.n.now c.args.m.now front c.args.best c.in-Some.made (c.is_below.ensures.0 c.if-not-is_below.false)
    (subst (Pair problem c.args.n.now c.args.m.now) c.in-Some.is (c.in_ok-made.ensures problem e)) h

pub returns-in-None : goal.returns-in-None
returns-in-None c problem e front h =
    no_rival problem c.args.n.now c.args.m.now front c.args.best (subst (Pair problem c.args.n.now c.args.m.now) c.in-None.is (c.in_ok-made.ensures problem e)) h
