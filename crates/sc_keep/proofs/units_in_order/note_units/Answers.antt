use Rattle.std.proofs.Common.{◌++◌, sym, subst, take_all}
use Rattle.std.proofs.lemmas.List.{append-nil}
use Rattle.sc_core_rules.specs.Order.{IsFilter}
use Rattle.sc_resolve.specs.ByNumber.{seen}
use Rattle.sc_keep.specs.LiveUnits.{HasOneLiteral}
use Rattle.sc_keep.proofs.SimplifyUnits.{one_noted}
use Rattle.sc_keep.proofs.units_in_order.note_units.Goals as goal

pub loop-p-init : goal.loop-p-init
loop-p-init c = λ tried h. subst (λ xs. IsFilter HasOneLiteral xs (seen c.args.units.now.items)) (sym (append-nil tried)) h

pub loop-p-preserved : goal.loop-p-preserved
loop-p-preserved c = λ tried h.
    one_noted tried c.args.clauses.now c.loop-p.p-index c.p-item.result (seen c.loop-p.units.items) (seen c.note_unit.new.units.items) c.loop-p-test.true c.p-item.is c.in_ok-note_unit.ensures (c.loop-p.invariant tried h)

pub returns : goal.returns
returns c = λ tried h. subst (λ xs. IsFilter HasOneLiteral (tried ++ xs) (seen c.loop-p.units.items)) (take_all c.loop-p.p-index c.args.clauses.now c.loop-p-test.false) (c.loop-p.invariant tried h)
