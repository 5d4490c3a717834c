use Rattle.std.proofs.Common.{◌≡◌, ◌<◌, get_or, true, length, arith, rules}
use Rattle.sc_mark.proofs.ChangeLaws.{one_compared}
use Rattle.sc_mark.proofs.changes.changes.Goals as goal

pub loop-at-preserved : goal.loop-at-preserved
loop-at-preserved c =
    let old_has : c.loop-at.at < length c.args.old.now = omega (arith, c.loop-at-test.true, c.loop-at.auto.at-end, c.min-at-end.ensures) in
    let new_has : c.loop-at.at < length c.args.new.now = omega (arith, c.loop-at-test.true, c.loop-at.auto.at-end, c.min-at-end.ensures) in
    let told : c.eq-same.result ≡ true → (get_or c.args.old.now c.loop-at.at c.index-old-at.result).entries ≡ (get_or c.args.new.now c.loop-at.at c.index-new-at.result).entries = λ e. search rules in
    record {
      long = omega (arith, c.loop-at.invariant.long, c.in_ok-push-2.ensures.len);
      changes = one_compared c.args.old.now c.args.new.now c.loop-at.at c.index-old-at.result c.index-new-at.result c.loop-at.changes.items c.push-in-loop-at.new.self.items c.eq-same.result
          c.loop-at.invariant.long c.loop-at.invariant.changes old_has new_has c.in_ok-push-2.ensures.items told;
    }
