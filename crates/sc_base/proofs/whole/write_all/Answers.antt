use Rattle.std.proofs.Common.{ℕ, ◌+◌, ◌≤◌, List, length, take, drop, subst, ◌∙◌, arith}
use Rattle.sc_base.specs.Taken.{Grows, KeepsTold}
use Rattle.sc_base.proofs.Runs.{grows_on, told_on}
use Rattle.sc_base.proofs.whole.write_all.Goals as goal

pub loop-at-preserved : goal.loop-at-preserved
loop-at-preserved g c =
    let taken = g.K.Sink.taken in
    let room = g.K.Sink.room in
    let first = c.args.sink.now in
    let old = c.loop-at.sink in
    let new = c.write.new.self in
    let bytes = c.args.bytes.now in
    let at = c.loop-at.at in
    let count = c.in-Ok.count in
    let back = c.split_at.ensures.back in
    record {
      grew = grows_on (taken first) (taken old) (taken new) bytes at count c.loop-at.invariant.grew
          (subst (λ (l : List ℕ). Grows (taken old) (taken new) (take count l)) back c.in-Ok.ensures.bytes);
      told = told_on (room first) (room old) (room new) (taken first) (taken old) (taken new) bytes at count c.loop-at.invariant.told
          (subst (λ (l : List ℕ). KeepsTold (room old) (room new) (taken old) (taken new) (take count l)) back c.in-Ok.ensures.told);
      stays = c.in-Ok.ensures.cause.stays ∙ c.loop-at.invariant.stays;
      within = omega (arith, c.in-Ok.ensures.bound.1, c.loop-at-test.true, c.split_at.ensures.back_len);
    }
