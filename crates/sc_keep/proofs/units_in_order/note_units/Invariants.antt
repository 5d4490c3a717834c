use Rattle.std.proofs.Common.{List, ◌++◌, take}
use Rattle.sc_term.specs.declared.Numbered.{Numbered}
use Rattle.sc_core_rules.specs.Order.{IsFilter}
use Rattle.sc_resolve.specs.ByNumber.{seen}
use Rattle.sc_keep.specs.LiveUnits.{HasOneLiteral}
use Rattle.sc_keep.proofs.units_in_order.note_units.Given as goal

abbrev pub invariant-loop-p : goal.invariant-loop-p
invariant-loop-p l = (tried : List Numbered) → IsFilter HasOneLiteral tried (seen l.initial.units.items) → IsFilter HasOneLiteral (tried ++ take l.p-index l.clauses) (seen l.units.items)
