use Rattle.std.proofs.Common.{◌≡◌, ◌∙◌, sym, ap, subst, ◌<◌, List, length, map, arith}
use Rattle.sc_cells.specs.Cells.{Entry, AreCells, cell_at}
use Rattle.sc_least.specs.Bound.{least_number}
use Rattle.sc_find.specs.Models.{Task}
use Rattle.sc_find.proofs.JobLaws.{same_entries, as_many}
use Rattle.sc_find.proofs.job.Job.bound_behind.Goals as goal

pub least_bound-requires-clause-shorter : goal.least_bound-requires-clause-shorter
least_bound-requires-clause-shorter c =
    let j = c.self.inside in
    let task : Task = record { sig = j.sig.now; clauses = j.clauses.now; size = j.size } in
    let given = subst (λ (t : Task). (cells : List Entry) × AreCells t.sig t.size cells × (length c.args.values.now < length cells)) (sym c.self.view_is) c.requires in
    let many = as_many task j.cells j.ground c.self.invariant given.0 given.1 in
    omega (arith, many, given.2)

pub returns : goal.returns
returns c =
    let j = c.self.inside in
    let task : Task = record { sig = j.sig.now; clauses = j.clauses.now; size = j.size } in
    subst (λ (t : Task). (cells : List Entry) → AreCells t.sig t.size cells → c.least_bound.result ≡ least_number t.sig t.size cells c.args.values.now) c.self.view_is
    (λ cells are. c.least_bound.ensures cells are (c.self.invariant.listed ∙ ap (map (cell_at j.size)) (same_entries task j.cells j.ground c.self.invariant cells are)))
