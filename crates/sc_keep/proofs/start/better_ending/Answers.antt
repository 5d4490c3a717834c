use Rattle.std.proofs.Common.{◌∙◌, sym, subst, true≢false}
use Rattle.sc_keep.proofs.EndingLaws.{EndsOrNot, greater_ending, no_ending, new_ending}
use Rattle.sc_keep.proofs.start.better_ending.Goals as goal

pub returns-then-not-is_before : goal.returns-then-not-is_before
returns-then-not-is_before c problem has front h = greater_ending problem c.args.n.now front c.args.best (λ below. true≢false (sym (c.is_before.ensures.1 below) ∙ c.if-not-is_before.true)) h

pub returns-in-Some : goal.returns-in-Some
returns-in-Some c problem has front h =
    new_ending problem c.args.n.now front c.args.best c.in-Some.found (c.is_before.ensures.0 c.if-not-is_before.false)
    (subst (EndsOrNot problem c.args.n.now) c.in-Some.is (c.in_ok-found.ensures problem has)) h

pub returns-in-None : goal.returns-in-None
returns-in-None c problem has front h = no_ending problem c.args.n.now front c.args.best (subst (EndsOrNot problem c.args.n.now) c.in-None.is (c.in_ok-found.ensures problem has)) h
