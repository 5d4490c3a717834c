use Rattle.std.proofs.Common.{◌∙◌, sym, ap, Some, arith}
use Rattle.std.proofs.lemmas.Option.{slice_get-get_or}
use Rattle.sc_world.proofs.WorldSight.{starts_seeing, few_seen, sees_next}
use Rattle.sc_world.proofs.world.see_from.Goals as goal

pub loop-place-init : goal.loop-place-init
loop-place-init c = starts_seeing c.args.finder c.args.versions.now c.args.from c.args.prover.now c.requires.seen c.requires.within

pub add-requires-clause-few : goal.add-requires-clause-few
add-requires-clause-few c =
    let test = c.loop-place-test.true in
    few_seen c.args.finder c.args.versions.now c.args.from c.args.prover.now c.requires.seen c.loop-place.place c.loop-place.prover c.loop-place.invariant (omega (arith, test)) c.requires.few

pub loop-place-preserved : goal.loop-place-preserved
loop-place-preserved c =
    let test = c.loop-place-test.true in
    let v = c.index-versions-place.result in
    sees_next c.args.finder c.args.versions.now c.args.from c.args.prover.now c.requires.seen c.loop-place.place c.loop-place.prover c.add.new.self v c.loop-place.invariant
    (slice_get-get_or c.args.versions.now c.loop-place.place v (omega (arith, test)) ∙ ap Some (sym c.index-versions-place.is)) (omega (arith, test)) c.in_ok-add.ensures.added
