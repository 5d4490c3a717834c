use Rattle.std.proofs.Common.{◌≡◌, ◌≢◌, ◌∙◌, sym, ap, subst, ℕ, List, Some, length, slice_get, slice_index}
use Rattle.std.specs.List.{AllPairs}
use Rattle.sc_interp.specs.Structure.{HasPlace, MayHold}
use Rattle.sc_cells.specs.declared.cells.Cell.{Cell}
use Rattle.sc_cells.specs.Cells.{Entry, AreCells, AreValues}
use Rattle.sc_find.specs.Models.{Task, AreTablesWith}
use Rattle.sc_find.proofs.JobLaws.{same_entries, as_many}
use Rattle.sc_find.proofs.CellTables.{places_there, values_there, all_distinct, tables_filled}
use Rattle.sc_find.proofs.job.Job.tables_with.Goals as goal

pub fill-requires-clause-many : goal.fill-requires-clause-many
fill-requires-clause-many c =
    let j = c.self.inside in
    let task : Task = record { sig = j.sig.now; clauses = j.clauses.now; size = j.size } in
    let r = subst (λ (t : Task). (cells : List Entry) × AreCells t.sig t.size cells × (length c.args.values.now ≡ length cells) × AreValues t.sig t.size cells c.args.values.now) (sym c.self.view_is) c.requires in
    r.2 ∙ sym (as_many task j.cells j.ground c.self.invariant r.0 r.1) ∙ ap length (sym c.as_slice.ensures)

pub fill-requires-clause-places : goal.fill-requires-clause-places
fill-requires-clause-places c =
    let j = c.self.inside in
    let inv = c.self.invariant in
    let task : Task = record { sig = j.sig.now; clauses = j.clauses.now; size = j.size } in
    subst (λ (cs : List Cell). (k : ℕ) (cell : Cell) → slice_get cs k ≡ Some cell → HasPlace c.in_ok-tables.tables cell.sym cell.place) (sym c.as_slice.ensures)
    (places_there task inv.entries j.cells c.args.values.now c.in_ok-tables.tables inv.are_cells inv.listed c.in_ok-tables.ensures.size c.in_ok-tables.ensures.over c.in_ok-tables.ensures.kept)

pub fill-requires-clause-in_range : goal.fill-requires-clause-in_range
fill-requires-clause-in_range c =
    let j = c.self.inside in
    let inv = c.self.invariant in
    let task : Task = record { sig = j.sig.now; clauses = j.clauses.now; size = j.size } in
    let r = subst (λ (t : Task). (cells : List Entry) × AreCells t.sig t.size cells × (length c.args.values.now ≡ length cells) × AreValues t.sig t.size cells c.args.values.now) (sym c.self.view_is) c.requires in
    let same = same_entries task j.cells j.ground inv r.0 r.1 in
    subst (λ (cs : List Cell). (k : ℕ) (cell : Cell) → slice_get cs k ≡ Some cell → MayHold c.in_ok-tables.tables cell.sym (slice_index c.args.values.now k)) (sym c.as_slice.ensures)
    (values_there task inv.entries j.cells c.args.values.now c.in_ok-tables.tables inv.are_cells inv.listed c.in_ok-tables.ensures.size c.in_ok-tables.ensures.over c.in_ok-tables.ensures.kept
    (r.2 ∙ ap length (sym same)) (subst (λ es. AreValues task.sig task.size es c.args.values.now) (sym same) r.3))

pub fill-requires-clause-distinct : goal.fill-requires-clause-distinct
fill-requires-clause-distinct c =
    let j = c.self.inside in
    let inv = c.self.invariant in
    let task : Task = record { sig = j.sig.now; clauses = j.clauses.now; size = j.size } in
    subst (AllPairs (λ (a b : Cell). a ≢ b)) (sym c.as_slice.ensures)
    (all_distinct task inv.entries j.cells c.args.values.now c.in_ok-tables.tables inv.are_cells inv.listed c.in_ok-tables.ensures.size c.in_ok-tables.ensures.over c.in_ok-tables.ensures.kept)

pub returns : goal.returns
returns c =
    let j = c.self.inside in
    let inv = c.self.invariant in
    let task : Task = record { sig = j.sig.now; clauses = j.clauses.now; size = j.size } in
    let made = tables_filled task inv.entries c.as_slice.result.now c.args.values.now c.fill.new.tables (c.as_slice.ensures ∙ inv.listed)
    (c.fill.ensures.size ∙ c.in_ok-tables.ensures.size) (c.fill.ensures.over j.sig.now c.in_ok-tables.ensures.over) c.fill.ensures.each in
    subst (λ (t : Task). (cells : List Entry) → AreCells t.sig t.size cells → AreTablesWith t cells c.args.values.now c.fill.new.tables) c.self.view_is
    (λ cells are. subst (λ es. AreTablesWith task es c.args.values.now c.fill.new.tables) (same_entries task j.cells j.ground inv cells are) made)
