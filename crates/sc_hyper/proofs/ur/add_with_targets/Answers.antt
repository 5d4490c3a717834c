use Rattle.std.proofs.Common.{length, refl, arith}
use Rattle.sc_core_rules.specs.Hyperresolution.{ur_numbers}
use Rattle.sc_resolve.proofs.Extending.{goes_on, stops}
use Rattle.sc_hyper.specs.Ur.{IsWithTargetAt}
use Rattle.sc_hyper.proofs.UrLaws.{targets_rise, with_targets, no_targets}
use Rattle.sc_hyper.proofs.ur.add_with_targets.Goals as goal

pub returns-then-many-lt2 : goal.returns-then-many-lt2
returns-then-many-lt2 c = no_targets c.args.given c.args.units.now c.args.limit c.args.nucleus.now (omega arith) c.args.sites.now

pub returns-then-len-limit : goal.returns-then-len-limit
returns-then-len-limit c =
    let p = c.args.nucleus.now in
    with_targets c.args.given c.args.units.now c.args.limit p (length p.clause.literals) (omega arith) refl c.args.sites.now c.loop-at.sites
    (stops ur_numbers c.args.limit (IsWithTargetAt c.args.given c.args.units.now p) (targets_rise c.args.given c.args.units.now p)
    c.loop-at.at (length p.clause.literals) c.args.sites.now c.loop-at.sites c.loop-at.invariant (omega arith) (omega arith))

pub loop-at-preserved : goal.loop-at-preserved
loop-at-preserved c =
    let p = c.args.nucleus.now in
    goes_on ur_numbers c.args.limit (IsWithTargetAt c.args.given c.args.units.now p) (targets_rise c.args.given c.args.units.now p)
    c.loop-at.at c.args.sites.now c.loop-at.sites c.add_with_target.new.sites c.loop-at.invariant c.in_ok-add_with_target.ensures

pub returns : goal.returns
returns c =
    with_targets c.args.given c.args.units.now c.args.limit c.args.nucleus.now c.loop-at.at (omega arith) (omega arith) c.args.sites.now c.loop-at.sites c.loop-at.invariant
