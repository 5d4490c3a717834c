use Rattle.std.proofs.Common.{arith, slice_get, Some, ◌≡◌, length, refl}
use Rattle.std.proofs.lemmas.Option.{slice_get_read}
use Rattle.sc_cells.proofs.CountLaws.{no_fewer}
use Rattle.sc_cells.proofs.InstanceLaws.{clause_turn}
use Rattle.sc_cells.proofs.listing.list_instances.Goals as goal

pub overflow_cast-place : goal.overflow_cast-place
overflow_cast-place c = omega (arith, no_fewer c.args.clauses.now c.args.size c.requires.not_empty, c.requires.few, c.loop-place-test.true)

pub loop-place-preserved : goal.loop-place-preserved
loop-place-preserved c =
    let there : slice_get c.args.clauses.now c.loop-place.place ≡ Some c.index-clauses-place.result
    = slice_get_read c.args.clauses.now (length c.args.clauses.now) c.loop-place.place c.index-clauses-place.result refl c.loop-place-test.true c.index-clauses-place.is in
    clause_turn c.args.clauses.now c.args.size c.loop-place.place c.index-clauses-place.result c.loop-place.instances c.push_instances.new.instances
    there c.loop-place.invariant c.in_ok-push_instances.ensures
