use Rattle.std.proofs.Common.{◌≡◌, ◌∙◌, sym, ap, subst, ◌<◌, ◌∷◌, [], ◌++◌, length, Some, slice_get, get_or, arith}
use Rattle.std.proofs.lemmas.Option.{slice_get-get_or}
use Rattle.sc_index.specs.declared.walking.Task.{Task}
use Rattle.sc_index.specs.Walking.{IsUnderway}
use Rattle.sc_index.proofs.WalkingLaws.{underway_first, underway_more, finds_all}
use Rattle.sc_index.proofs.walking.walk.Goals as goal

-- what stands for an element where there is none
abbrev root : Task
root = record { node = 0; spot = record { at = 0; pending = 0 } }

pub loop-next-init : goal.loop-next-init
loop-next-init c =
    let found = c.new-found.result.items in
    let made = c.in_ok-push.ensures.ok ∙ ap (λ l. l ++ record { node = 0; spot = record { at = 0; pending = 0 } } ∷ []) c.new-tasks.ensures in
    subst (λ tasks. IsUnderway c.args.sides.stored c.args.sides.asked c.args.nodes.now c.args.query.now tasks 0 found) (sym made)
    (underway_first c.args.sides.stored c.args.sides.asked c.args.query.now c.args.nodes.now found)

pub loop-next-smaller : goal.loop-next-smaller
loop-next-smaller c = omega (arith, c.loop-next.auto.next-fits)

pub loop-next-preserved : goal.loop-next-preserved
loop-next-preserved c =
    let s = c.args.sides.stored in
    let a = c.args.sides.asked in
    let nodes = c.args.nodes.now in
    let query = c.args.query.now in
    let tasks = c.loop-next.tasks in
    let next = c.loop-next.next in
    let within : next < length tasks = omega (arith, c.loop-next-test.true, c.len.ensures) in
    let task : Task = get_or c.as_slice.result.now next root in
    let is : slice_get tasks next ≡ Some task = subst (λ l. slice_get tasks next ≡ Some (get_or l next root)) (sym c.as_slice.ensures) (slice_get-get_or tasks next root within) in
    underway_more s a query nodes task tasks c.take_up.new.tasks next c.loop-next.found.items c.take_up.new.found.items c.loop-next.invariant within is c.in_ok-take_up.ensures

pub returns : goal.returns
returns c = finds_all c.args.sides.stored c.args.sides.asked c.args.query.now c.args.nodes.now c.loop-next.tasks c.loop-next.next c.loop-next.found.items c.loop-next.invariant
    (omega (arith, c.loop-next-test.false, c.len.ensures))
