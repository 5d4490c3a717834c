use Rattle.std.proofs.Common.{sym, subst, ◌++◌, ◌∷◌, [], drop, take, get_or}
use Rattle.std.proofs.lemmas.List.{take_more, take_all}
use Rattle.sc_index.specs.declared.flat.Key.TheVariants as key
use Rattle.sc_index.specs.declared.tree.Edge.{Edge}
use Rattle.sc_index.specs.Walking.{Follows}
use Rattle.sc_index.proofs.WalkingLaws.{follows_none, follows_more, follows_more_none}
use Rattle.sc_index.proofs.walking.follow.Goals as goal
use Rattle.sc_index.proofs.walking.follow.Goals.{in-Some+in_ok-push-in-Some, in-None}

abbrev nowhere : Edge
nowhere = record { key = key.Variable; child = 0 }

pub loop-edge-preserved : goal.loop-edge-preserved
loop-edge-preserved c =
    let s = c.args.sides.stored in
    let a = c.args.sides.asked in
    let query = c.args.query.now in
    let p = c.args.spot.pending in
    let cells = drop c.args.spot.at query in
    let old = c.args.tasks.now in
    let edges = c.args.edges.now in
    let i = c.loop-edge.edge-index in
    let edge = get_or edges i nowhere in
    subst (λ l. Follows s a query l p cells old c.match-cross.tasks) (sym (take_more edges i nowhere c.loop-edge-test.true))
    (elim c.match-cross.branch [
      | in-Some+in_ok-push-in-Some w ↦
          subst (Follows s a query (take i edges ++ edge ∷ []) p cells old) (sym w.tasks-is)
          (subst (Follows s a query (take i edges ++ edge ∷ []) p cells old) (sym w.in_ok-push-in-Some.ensures.ok)
          (follows_more s a query (take i edges) edge p cells w.in-Some.next old c.loop-edge.tasks c.loop-edge.invariant w.in-Some.ensures))
      | in-None w ↦
          subst (Follows s a query (take i edges ++ edge ∷ []) p cells old) (sym w.tasks-is)
          (follows_more_none s a query (take i edges) edge p cells old c.loop-edge.tasks c.loop-edge.invariant w.in-None.ensures)
    ])

pub loop-edge-init : goal.loop-edge-init
loop-edge-init c = follows_none c.args.sides.stored c.args.sides.asked c.args.query.now c.args.spot.pending (drop c.args.spot.at c.args.query.now) c.args.tasks.now

pub returns : goal.returns
returns c = subst (λ l. Follows c.args.sides.stored c.args.sides.asked c.args.query.now l c.args.spot.pending (drop c.args.spot.at c.args.query.now) c.args.tasks.now c.loop-edge.tasks) (take_all c.loop-edge.edge-index c.args.edges.now c.loop-edge-test.false) c.loop-edge.invariant
