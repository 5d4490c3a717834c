use Rattle.std.proofs.Common.{◌∙◌, sym, subst, true≢false}
use Rattle.sc_keep.specs.Start.{IsLeastEarlier}
use Rattle.sc_keep.proofs.EndingLaws.{rival_ends, none_ends}
use Rattle.sc_keep.proofs.start.ending_by.Goals as goal

pub returns-in-Some : goal.returns-in-Some
returns-in-Some c problem has =
    rival_ends problem c.args.n.now c.args.homes.now c.args.all.now has (λ e. true≢false (sym (c.is_empty.ensures.1 e) ∙ c.if-is_empty.false)) c.in-Some.rival
    (subst (IsLeastEarlier problem c.args.n.now c.args.all.now) c.in-Some.is (c.in_ok-rival.ensures problem has.homes_are))

pub returns-in-None : goal.returns-in-None
returns-in-None c problem has =
    none_ends problem c.args.n.now c.args.homes.now c.args.all.now has (λ e. true≢false (sym (c.is_empty.ensures.1 e) ∙ c.if-is_empty.false))
    (subst (IsLeastEarlier problem c.args.n.now c.args.all.now) c.in-None.is (c.in_ok-rival.ensures problem has.homes_are))
