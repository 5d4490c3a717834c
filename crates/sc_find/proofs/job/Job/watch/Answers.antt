use Rattle.std.proofs.Common.{◌≡◌, ◌∙◌, sym, ap, subst, ◌<◌, ◌≤◌, true, false, List, length, arith}
use Rattle.std.specs.List.{All}
use Rattle.sc_term.specs.declared.Clause.{Clause}
use Rattle.sc_cells.specs.declared.instances.GroundInstance.{GroundInstance}
use Rattle.sc_cells.specs.Cells.{IsConsistent}
use Rattle.sc_find.specs.Linked.{Board}
use Rattle.sc_find.specs.Models.{Task}
use Rattle.sc_find.specs.Watching.{IsWatching}
use Rattle.sc_find.proofs.InstanceLaws.{places_there}
use Rattle.sc_find.proofs.WatchLaws.{go_same, go_watching, go_consistent, go_refused}
use Rattle.sc_find.proofs.job.Job.watch.Goals as goal

pub watch_all-requires-clause-places : goal.watch_all-requires-clause-places
watch_all-requires-clause-places c =
    let j = c.self.inside in
    let inv = c.self.invariant in
    let all = places_there j.clauses.now j.size j.ground inv.not_empty inv.are_instances in
    subst (λ (xs : List Clause). All (λ (i : GroundInstance). i.place < length xs) c.as_slice-2.result.now) (sym c.as_slice.ensures)
    (subst (λ (is : List GroundInstance). All (λ (i : GroundInstance). i.place < length j.clauses.now) is) (sym (c.as_slice-2.ensures ∙ c.instances.ensures)) all)

pub returns-clause-watched : goal.returns-clause-watched
returns-clause-watched c =
    let j = c.self.inside in
    let inv = c.self.invariant in
    let task : Task = record { sig = j.sig.now; clauses = j.clauses.now; size = j.size } in
    let p = c.args.given.now in
    let board = c.watch_all.new.watches in
    let b = c.in_ok-watch_all.field-0 in
    let go = go_same j.clauses.now c.as_slice.result.now j.ground c.as_slice-2.result.now p board.watches b c.as_slice.ensures (c.as_slice-2.ensures ∙ c.instances.ensures) c.in_ok-watch_all.ensures.all in
    subst (λ (t : Task). b ≡ true → IsWatching t p board) c.self.view_is
    (go_watching task j.ground inv.not_empty inv.are_instances p board b (c.in_ok-watch_all.ensures.grown.cells ∙ ap (λ (x : Board). x.cells) c.requires.none) go)

pub returns-clause-consistent : goal.returns-clause-consistent
returns-clause-consistent c =
    let j = c.self.inside in
    let inv = c.self.invariant in
    let task : Task = record { sig = j.sig.now; clauses = j.clauses.now; size = j.size } in
    let p = c.args.given.now in
    let board = c.watch_all.new.watches in
    let b = c.in_ok-watch_all.field-0 in
    let go = go_same j.clauses.now c.as_slice.result.now j.ground c.as_slice-2.result.now p board.watches b c.as_slice.ensures (c.as_slice-2.ensures ∙ c.instances.ensures) c.in_ok-watch_all.ensures.all in
    let few : length p.values ≤ length p.cells = omega (arith, ap length c.requires.empty) in
    subst (λ (t : Task). b ≡ true → IsConsistent t.clauses t.size p) c.self.view_is
    (go_consistent task j.ground inv.not_empty inv.are_instances p board.watches b few go)

pub returns-clause-refused : goal.returns-clause-refused
returns-clause-refused c =
    let j = c.self.inside in
    let inv = c.self.invariant in
    let task : Task = record { sig = j.sig.now; clauses = j.clauses.now; size = j.size } in
    let p = c.args.given.now in
    let board = c.watch_all.new.watches in
    let b = c.in_ok-watch_all.field-0 in
    let go = go_same j.clauses.now c.as_slice.result.now j.ground c.as_slice-2.result.now p board.watches b c.as_slice.ensures (c.as_slice-2.ensures ∙ c.instances.ensures) c.in_ok-watch_all.ensures.all in
    subst (λ (t : Task). b ≡ false → ¬ IsConsistent t.clauses t.size p) c.self.view_is
    (go_refused task j.ground inv.not_empty inv.are_instances p board.watches b go)
