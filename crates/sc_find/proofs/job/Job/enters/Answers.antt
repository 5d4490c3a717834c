use Rattle.std.proofs.Common.{sym, ap, subst, length, arith}
use Rattle.std.proofs.lemmas.List.{length_push}
use Rattle.sc_cells.specs.Cells.{Prefix, IsConsistent}
use Rattle.sc_find.specs.Watching.{IsWatching}
use Rattle.sc_find.proofs.WatchLaws.{watching_kept, same_front}
use Rattle.sc_find.proofs.job.Job.enters.Goals as goal

pub wake-requires-clause-few : goal.wake-requires-clause-few
wake-requires-clause-few c =
    let long = ap (λ (p : Prefix). length p.values) c.push.ensures in
    let wide = ap (λ (p : Prefix). length p.cells) c.push.ensures in
    omega (arith, long, wide, length_push c.args.given.now.values c.args.value, c.requires.room)

pub wake-requires-clause-last : goal.wake-requires-clause-last
wake-requires-clause-last c = (
  c.args.given.now.values,
  c.args.value,
  ap (λ (p : Prefix). p.values) c.push.ensures,
  subst (λ cells. IsWatching c.args.self.now (record { cells = cells; values = c.args.given.now.values }) c.args.watches.now) (sym (ap (λ (p : Prefix). p.cells) c.push.ensures)) c.requires.before,
)

pub returns-then-not-stays-clause-refused : goal.returns-then-not-stays-clause-refused
returns-then-not-stays-clause-refused c refused consistent =
    c.in_ok-stays.ensures.refused refused (subst (IsConsistent c.args.self.now.clauses c.args.self.now.size) (sym c.push.ensures) consistent)

pub returns-then-not-stays-clause-watched : goal.returns-then-not-stays-clause-watched
returns-then-not-stays-clause-watched c =
    let same = same_front c.args.given.now c.take_back.new.given c.push.new.self c.args.value c.take_back.result c.push.ensures c.take_back.ensures.value in
    watching_kept c.args.self.now c.take_back.new.given c.wake.new.watches c.take_back.new.watches
    (subst (λ (p : Prefix). IsWatching c.args.self.now p c.wake.new.watches) same (c.in_ok-stays.ensures.kept c.args.given.now c.requires.before)) c.take_back.ensures.watches

pub returns-else-not-stays-clause-consistent : goal.returns-else-not-stays-clause-consistent
returns-else-not-stays-clause-consistent c entered =
    subst (IsConsistent c.args.self.now.clauses c.args.self.now.size) c.push.ensures (c.in_ok-stays.ensures.consistent entered)
