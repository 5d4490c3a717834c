use Rattle.std.proofs.Common.{subst, List, slice_index}
use Rattle.std.specs.List.{All}
use Rattle.sc_find_given.specs.declared.row.Row.{Row}
use Rattle.sc_find_given.specs.Lookup.{look_up, IsFoundFalse}
use Rattle.sc_find_given.specs.Waiting.{Decides}
use Rattle.sc_find_given.proofs.KeptLaws.{waits_by}
use Rattle.sc_find_given.proofs.given.Given.waits.Goals as goal

pub returns : goal.returns
returns c =
    waits_by c.self.inside.size c.self.inside.rows.items c.self.inside.slots.items c.self.inside.values.items c.self.inside.len c.self.invariant
    c.args.self.now c.self.view_is c.values.result.now c.values.ensures (slice_index c.args.values.now) c.args.clause.now.literals c.clause_waits.result
    (subst (λ (rows : List Row). Decides (λ g. All (IsFoundFalse (look_up c.self.inside.size rows g) (slice_index c.args.values.now)) c.args.clause.now.literals) c.values.result.now c.clause_waits.result)
    c.as_slice.ensures.value c.clause_waits.ensures)
