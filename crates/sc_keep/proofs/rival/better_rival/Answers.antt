use Rattle.std.proofs.Common.{◌∙◌, sym, subst, Option, true≢false, arith}
use Rattle.std.specs.Prelude.{MatchOption}
use Rattle.sc_steps.specs.declared.derivations.derivation.Derived.{Derived}
use Rattle.sc_core_rules.specs.Conflict.{Conflicts}
use Rattle.sc_keep.proofs.RivalLaws.{itself_stays, greater_stays, no_rival, new_rival}
use Rattle.sc_keep.proofs.LightLaws.{narrow}
use Rattle.sc_keep.proofs.rival.better_rival.Goals as goal

pub returns-then-m-n : goal.returns-then-m-n
returns-then-m-n c front h = itself_stays c.args.n.now c.args.m.now front c.args.best c.if-m-n.true h

pub returns-then-not-is_below : goal.returns-then-not-is_below
returns-then-not-is_below c front h = greater_stays c.args.n.now c.args.m.now front c.args.best (λ below. true≢false (sym (c.is_below.ensures.1 below) ∙ c.if-not-is_below.true)) h

pub returns-in-Some : goal.returns-in-Some
returns-in-Some c front h =
    new_rival c.args.n.now c.args.m.now front c.args.best c.in-Some.made c.if-m-n.false (c.is_below.ensures.0 c.if-not-is_below.false)
    (subst (λ (o : Option Derived). MatchOption o ((made : Derived) → ¬ Conflicts c.args.n.now c.args.m.now made) (λ made. Conflicts c.args.n.now c.args.m.now made)) c.in-Some.is c.in_ok-made.ensures) h

pub returns-in-None : goal.returns-in-None
returns-in-None c front h =
    no_rival c.args.n.now c.args.m.now front c.args.best
    (subst (λ (o : Option Derived). MatchOption o ((made : Derived) → ¬ Conflicts c.args.n.now c.args.m.now made) (λ made. Conflicts c.args.n.now c.args.m.now made)) c.in-None.is c.in_ok-made.ensures) h

pub conflict-requires-clause-few : goal.conflict-requires-clause-few
conflict-requires-clause-few c = let left = narrow c.args.n.now c.requires.fit_n in let right = narrow c.args.m.now c.requires.fit_m in omega (arith, left, right)
