use Rattle.std.proofs.Common.{◌≡◌, ◌∙◌, sym, ap, ◌<◌, ◌≤◌, ◌+◌, ◌-◌, arith}
use Rattle.sc_term.specs.Clause.{width}
use Rattle.sc_unify.specs.Bindings.{bindings}
use Rattle.sc_unify.specs.Joint.{value_at, values_above}
use Rattle.sc_unify.proofs.JointRows.{told-next, width-least}
use Rattle.sc_unify.proofs.joint.values_of.Goals as goal

pub width-requires : goal.width-requires
width-requires c =
    let least = width-least c.args.clauses.now c.loop-c.c-index c.c-item.result c.loop-c-test.true c.c-item.is in
    omega (arith, least, c.requires.small)

pub loop-c-preserved : goal.loop-c-preserved
loop-c-preserved c =
    let s = value_at (bindings c.args.bound.now) c.args.order.now in
    let least = width-least c.args.clauses.now c.loop-c.c-index c.c-item.result c.loop-c-test.true c.c-item.is in
    let count : c.saturating_sub-count.result ≡ width c.c-item.result - c.loop-c.low = omega (arith, c.saturating_sub-count.ensures, c.width.ensures) in (
      told-next s c.args.clauses.now c.loop-c.c-index c.c-item.result c.loop-c.low c.saturating_sub-count.result c.loop-c.told c.push.new.self c.in_ok-values.field-0
          (values_above s 0 c.args.clauses.now) c.loop-c-test.true c.c-item.is c.loop-c.invariant.0 count c.in_ok-values.ensures c.in_ok-push.ensures.ok,
      omega (arith, least, count, c.requires.small, c.loop-c.invariant.1),
    )
