use Rattle.std.proofs.Common.{◌∙◌, sym, ap, subst, ◌++◌, drop, true≢false}
use Rattle.sc_index.specs.Walking.{Follows}
use Rattle.sc_index.proofs.WalkingLaws.{takes_up_nowhere, takes_up_end, takes_up_edges}
use Rattle.sc_index.proofs.walking.take_up.Goals as goal

pub returns-in-None : goal.returns-in-None
returns-in-None c = takes_up_nowhere c.args.sides.stored c.args.sides.asked c.args.query.now c.args.nodes.now c.args.task c.args.tasks.now c.args.found.now.items (sym c.in-None.ensures)

pub returns-then-is_end : goal.returns-then-is_end
returns-then-is_end c =
    let found = c.args.found.now.items in
    takes_up_end c.args.sides.stored c.args.sides.asked c.args.query.now c.args.nodes.now c.args.task c.in-Some.node.now c.args.tasks.now found c.add_slots.new.found.items
    (sym c.in-Some.ensures) (c.is_end.ensures.0 c.if-is_end.true) (c.in_ok-add_slots.ensures ∙ ap (λ l. found ++ l) c.as_slice.ensures)

pub returns : goal.returns
returns c =
    let s = c.args.sides.stored in
    let a = c.args.sides.asked in
    let query = c.args.query.now in
    let task = c.args.task in
    let followed = subst (λ l. Follows s a query l task.spot.pending (drop task.spot.at query) c.args.tasks.now c.follow.new.tasks) c.as_slice-2.ensures c.in_ok-follow.ensures in
    takes_up_edges s a query c.args.nodes.now task c.in-Some.node.now c.args.tasks.now c.follow.new.tasks c.args.found.now.items
    (sym c.in-Some.ensures) (λ e. true≢false (sym (c.is_end.ensures.1 e) ∙ c.if-is_end.false)) followed
