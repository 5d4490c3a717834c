use Rattle.std.proofs.Common.{◌∙◌, sym, true≢false}
use Rattle.sc_term.specs.declared.Numbered.{Numbered}
use Rattle.sc_term.specs.Subsumption.{Subsumes}
use Rattle.sc_keep.proofs.LeastLaws.{not_below, fails, takes}
use Rattle.sc_keep.proofs.forward.better_subsumer.Goals as goal

pub returns-then-not-is_better : goal.returns-then-not-is_better
returns-then-not-is_better c front h = not_below (λ (p : Numbered). Subsumes p.clause c.args.c.now) front c.args.p.now c.args.best
    (λ below. true≢false (sym (c.is_better.ensures.1 below) ∙ c.if-not-is_better.true)) h

pub returns-then-branch : goal.returns-then-branch
returns-then-branch c front h = takes (λ (p : Numbered). Subsumes p.clause c.args.c.now) front c.args.p.now c.args.best
    (c.is_better.ensures.0 c.if-not-is_better.false) (c.in_ok-subsumes.ensures.0 c.if-branch.true) h

pub returns : goal.returns
returns c front h = fails (λ (p : Numbered). Subsumes p.clause c.args.c.now) front c.args.p.now c.args.best
    (λ can. true≢false (sym (c.in_ok-subsumes.ensures.1 can) ∙ c.if-branch.false)) h
