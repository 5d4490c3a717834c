use Rattle.std.proofs.Common.{◌≡◌, ◌∙◌, sym, subst, ℕ, ◌<◌, ◌≤◌, List, [], Some, Option, length, slice_get, true≢false, arith}
use Rattle.sc_cells.specs.declared.cells.Cell.{Cell}
use Rattle.sc_cells.specs.Cells.{Entry, AreCells, values_below}
use Rattle.sc_find.specs.Models.{Task, IsPiece}
use Rattle.sc_find.proofs.JobLaws.{some_cell, no_more_pieces, each_piece, pieces_counted}
use Rattle.sc_find.proofs.job.Job.pieces.Goals as goal

pub returns-then-is_empty-clause-none : goal.returns-then-is_empty-clause-none
returns-then-is_empty-clause-none c =
    let j = c.self.inside in
    let task : Task = record { sig = j.sig.now; clauses = j.clauses.now; size = j.size } in
    subst (λ (t : Task). (p : ℕ) (value : Option ℕ) → IsPiece t p value → (1 ≤ p) × (p ≤ 1)) c.self.view_is
    (no_more_pieces task j.cells j.ground c.self.invariant (c.is_empty.ensures.0 c.if-is_empty.true))

pub count_values_at-requires : goal.count_values_at-requires
count_values_at-requires c =
    let j = c.self.inside in
    let task : Task = record { sig = j.sig.now; clauses = j.clauses.now; size = j.size } in
    let some : ¬ ◌≡◌ {A = List Cell} j.cells [] = λ e. true≢false (sym (c.is_empty.ensures.1 e) ∙ c.if-is_empty.false) in
    subst (λ (t : Task). (entries : List Entry) × AreCells t.sig t.size entries × (0 < length entries)) c.self.view_is
    (some_cell task j.cells j.ground c.self.invariant some)

pub returns-else-is_empty-clause-each : goal.returns-else-is_empty-clause-each
returns-else-is_empty-clause-each c =
    let j = c.self.inside in
    let task : Task = record { sig = j.sig.now; clauses = j.clauses.now; size = j.size } in
    let some : ¬ ◌≡◌ {A = List Cell} j.cells [] = λ e. true≢false (sym (c.is_empty.ensures.1 e) ∙ c.if-is_empty.false) in
    let is = subst (λ (t : Task). (cells : List Entry) (cell : Entry) → AreCells t.sig t.size cells → slice_get cells 0 ≡ Some cell → c.count_values_at.result ≡ values_below t.sig t.size cell) (sym c.self.view_is)
    c.count_values_at.ensures.value in
    subst (λ (t : Task). (p : ℕ) → 1 ≤ p → p ≤ c.from.result → (value : Option ℕ) × IsPiece t p value) c.self.view_is
    (λ p least most. each_piece task j.cells j.ground c.self.invariant some c.count_values_at.result is p least (omega (arith, most, c.from.ensures)))

pub returns-else-is_empty-clause-none : goal.returns-else-is_empty-clause-none
returns-else-is_empty-clause-none c =
    let j = c.self.inside in
    let task : Task = record { sig = j.sig.now; clauses = j.clauses.now; size = j.size } in
    let some : ¬ ◌≡◌ {A = List Cell} j.cells [] = λ e. true≢false (sym (c.is_empty.ensures.1 e) ∙ c.if-is_empty.false) in
    let is = subst (λ (t : Task). (cells : List Entry) (cell : Entry) → AreCells t.sig t.size cells → slice_get cells 0 ≡ Some cell → c.count_values_at.result ≡ values_below t.sig t.size cell) (sym c.self.view_is)
    c.count_values_at.ensures.value in
    subst (λ (t : Task). (p : ℕ) (value : Option ℕ) → IsPiece t p value → (1 ≤ p) × (p ≤ c.from.result)) c.self.view_is
    (λ p value piece. let both = pieces_counted task j.cells j.ground c.self.invariant some c.count_values_at.result is p value piece in (both.0, omega (arith, both.1, c.from.ensures)))
