use Rattle.std.proofs.Common.{refl}
use Rattle.std.proofs.lemmas.Option.{slice_get_read}
use Rattle.sc_find.proofs.InstanceLaws.{waits_instance}
use Rattle.sc_find.proofs.checking.waits.Goals as goal

pub returns : goal.returns
returns c =
    let at = slice_get_read c.args.clauses.now _ c.args.instance.now.place c.index-clauses-instance.result refl c.requires c.index-clauses-instance.is in
    waits_instance c.args.clauses.now c.args.given.now c.args.instance.now c.index-clauses-instance.result c.as_slice.result.now c.waits.result at c.as_slice.ensures c.waits.ensures
