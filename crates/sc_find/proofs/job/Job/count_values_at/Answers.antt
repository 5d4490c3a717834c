use Rattle.std.proofs.Common.{◌≡◌, sym, subst, ◌<◌, ◌≤◌, List, Some, length, slice_get, arith}
use Rattle.sc_cells.specs.Cells.{Entry, AreCells, cell_at, values_below}
use Rattle.sc_find.specs.Models.{Task}
use Rattle.sc_find.proofs.JobLaws.{symbols_within, as_many, cell_of}
use Rattle.sc_find.proofs.job.Job.count_values_at.Goals as goal

pub count_values_of-requires-clause-within : goal.count_values_of-requires-clause-within
count_values_of-requires-clause-within c =
    let j = c.self.inside in
    let task : Task = record { sig = j.sig.now; clauses = j.clauses.now; size = j.size } in
    let given = subst (λ (t : Task). (cells : List Entry) × AreCells t.sig t.size cells × (c.args.number < length cells)) (sym c.self.view_is) c.requires in
    let many = as_many task j.cells j.ground c.self.invariant given.0 given.1 in
    subst (λ cells. c.args.number < length cells) (sym c.as_slice.ensures) (omega (arith, many, given.2))

pub count_values_of-requires-clause-there : goal.count_values_of-requires-clause-there
count_values_of-requires-clause-there c =
    let j = c.self.inside in
    let task : Task = record { sig = j.sig.now; clauses = j.clauses.now; size = j.size } in
    let all = symbols_within task j.cells j.ground c.self.invariant in
    rw c.as_slice.ensures all

pub returns-clause-value : goal.returns-clause-value
returns-clause-value c =
    let j = c.self.inside in
    let task : Task = record { sig = j.sig.now; clauses = j.clauses.now; size = j.size } in
    subst (λ (t : Task). (cells : List Entry) (cell : Entry) → AreCells t.sig t.size cells → slice_get cells c.args.number ≡ Some cell → c.count_values_of.result ≡ values_below t.sig t.size cell) c.self.view_is
    (λ cells cell are at. c.count_values_of.ensures.value (cell_at j.size cell)
    (subst (λ cs. slice_get cs c.args.number ≡ Some (cell_at j.size cell)) (sym c.as_slice.ensures) (cell_of task j.cells j.ground c.self.invariant cells c.args.number cell are at)))

pub returns-clause-small : goal.returns-clause-small
returns-clause-small c = subst (λ (t : Task). t.size ≤ 8) c.self.view_is c.self.invariant.small
