use Rattle.std.proofs.Common.{◌≡◌, ◌∙◌, sym, subst, ◌<◌, ◌≤◌, true, false, List, length}
use Rattle.std.specs.List.{All}
use Rattle.sc_term.specs.declared.Clause.{Clause}
use Rattle.sc_cells.specs.declared.instances.GroundInstance.{GroundInstance}
use Rattle.sc_cells.specs.Cells.{Prefix, IsConsistent}
use Rattle.sc_find.specs.Models.{Task}
use Rattle.sc_find.specs.Watching.{IsWatching, IsGrown}
use Rattle.sc_find.proofs.InstanceLaws.{places_there}
use Rattle.sc_find.proofs.WatchLaws.{go_same, watched_same, of_instances, watching_grown, go_watching, go_consistent, go_refused}
use Rattle.sc_find.proofs.job.Job.wake.Goals as goal

pub wake-requires-clause-places : goal.wake-requires-clause-places
wake-requires-clause-places c =
    let j = c.self.inside in
    let inv = c.self.invariant in
    let all = places_there j.clauses.now j.size j.ground inv.not_empty inv.are_instances in
    subst (λ (xs : List Clause). All (λ (i : GroundInstance). i.place < length xs) c.as_slice-2.result.now) (sym c.as_slice.ensures)
    (subst (λ (is : List GroundInstance). All (λ (i : GroundInstance). i.place < length j.clauses.now) is) (sym (c.as_slice-2.ensures ∙ c.instances.ensures)) all)

pub returns-clause-watched : goal.returns-clause-watched
returns-clause-watched c =
    let j = c.self.inside in
    let inv = c.self.invariant in
    let task : Task = record { sig = j.sig.now; clauses = j.clauses.now; size = j.size } in
    let p = c.args.given.now in
    let board = c.wake.new.watches in
    let b = c.in_ok-wake.field-0 in
    let go = go_same j.clauses.now c.as_slice.result.now j.ground c.as_slice-2.result.now p board.watches b c.as_slice.ensures (c.as_slice-2.ensures ∙ c.instances.ensures) c.in_ok-wake.ensures.all in
    subst (λ (t : Task). b ≡ true → IsWatching t p board) c.self.view_is
    (go_watching task j.ground inv.not_empty inv.are_instances p board b (c.in_ok-wake.ensures.grown.cells ∙ c.requires.last.3.cells) go)

pub returns-clause-consistent : goal.returns-clause-consistent
returns-clause-consistent c =
    let j = c.self.inside in
    let inv = c.self.invariant in
    let task : Task = record { sig = j.sig.now; clauses = j.clauses.now; size = j.size } in
    let p = c.args.given.now in
    let board = c.wake.new.watches in
    let b = c.in_ok-wake.field-0 in
    let go = go_same j.clauses.now c.as_slice.result.now j.ground c.as_slice-2.result.now p board.watches b c.as_slice.ensures (c.as_slice-2.ensures ∙ c.instances.ensures) c.in_ok-wake.ensures.all in
    let few : length p.values ≤ length p.cells = c.requires.few in
    subst (λ (t : Task). b ≡ true → IsConsistent t.clauses t.size p) c.self.view_is
    (go_consistent task j.ground inv.not_empty inv.are_instances p board.watches b few go)

pub returns-clause-refused : goal.returns-clause-refused
returns-clause-refused c =
    let j = c.self.inside in
    let inv = c.self.invariant in
    let task : Task = record { sig = j.sig.now; clauses = j.clauses.now; size = j.size } in
    let p = c.args.given.now in
    let board = c.wake.new.watches in
    let b = c.in_ok-wake.field-0 in
    let go = go_same j.clauses.now c.as_slice.result.now j.ground c.as_slice-2.result.now p board.watches b c.as_slice.ensures (c.as_slice-2.ensures ∙ c.instances.ensures) c.in_ok-wake.ensures.all in
    subst (λ (t : Task). b ≡ false → ¬ IsConsistent t.clauses t.size p) c.self.view_is
    (go_refused task j.ground inv.not_empty inv.are_instances p board.watches b go)

pub wake-requires-clause-cells : goal.wake-requires-clause-cells
wake-requires-clause-cells c = c.requires.last.3.cells

pub wake-requires-clause-last : goal.wake-requires-clause-last
wake-requires-clause-last c =
    let j = c.self.inside in
    let inv = c.self.invariant in
    let task : Task = record { sig = j.sig.now; clauses = j.clauses.now; size = j.size } in
    let before : Prefix = record { cells = c.args.given.now.cells; values = c.requires.last.0 } in
    let was = subst (λ (t : Task). IsWatching t before c.args.watches.now) (sym c.self.view_is) c.requires.last.3 in (
      c.requires.last.0,
      c.requires.last.1,
      c.requires.last.2,
      watched_same j.clauses.now c.as_slice.result.now j.ground c.as_slice-2.result.now before c.args.watches.now.watches
          c.as_slice.ensures (c.as_slice-2.ensures ∙ c.instances.ensures) (of_instances task j.ground inv.not_empty inv.are_instances before c.args.watches.now was),
    )

pub returns-clause-kept : goal.returns-clause-kept
returns-clause-kept c =
    let j = c.self.inside in
    let inv = c.self.invariant in
    let task : Task = record { sig = j.sig.now; clauses = j.clauses.now; size = j.size } in
    let grown = subst (λ (is : List GroundInstance). IsGrown (length is) c.args.watches.now c.wake.new.watches) (c.as_slice-2.ensures ∙ c.instances.ensures) c.in_ok-wake.ensures.grown in
    subst (λ (t : Task). (p : Prefix) → IsWatching t p c.args.watches.now → IsWatching t p c.wake.new.watches) c.self.view_is
    (λ p h. watching_grown task j.ground inv.not_empty inv.are_instances p c.args.watches.now c.wake.new.watches grown h)
