use Rattle.std.proofs.Common.{◌≡◌, ◌∙◌, sym, ap, subst, List, length, map, arith}
use Rattle.std.proofs.lemmas.List.{with_items_is}
use Rattle.sc_cells.specs.Cells.{Entry, cell_at}
use Rattle.sc_find_given.specs.declared.row.Row.{Row}
use Rattle.sc_find_given.specs.Keeping.{slot_entries, AreIndexed}
use Rattle.sc_find_given.proofs.KeptLaws.{rows_indexed}
use Rattle.sc_find_given.proofs.given.Given.new.Goals as goal

pub invariant_of-result : goal.invariant_of-result
invariant_of-result c =
    let entries : List Entry = c.requires.cells.0 in
    let order = c.requires.cells.1 in
    let are : c.as_slice.result.now ≡ map (cell_at c.args.size) entries = c.as_slice.ensures ∙ c.requires.cells.2 in
    let also : c.as_slice-2.result.now ≡ map (cell_at c.args.size) entries = c.as_slice-2.ensures ∙ c.requires.cells.2 in
    let slots_are : slot_entries c.in_ok-slots.slots.items ≡ entries = c.in_ok-slots.ensures entries order.only are in
    let after = with_items_is c.in_ok-rows.rows c.number_cells.new.rows (omega (arith, c.number_cells.auto.rows, c.as_mut_slice.ensures.len)) in
    record {
      indexed = subst (λ (rows : List Row). AreIndexed c.args.size rows (slot_entries c.in_ok-slots.slots.items)) (sym after)
          (rows_indexed c.args.sig.now c.args.size c.as_slice-2.result.now entries order also c.in_ok-slots.slots.items slots_are
          c.as_mut_slice.result.now c.len.result c.number_cells.new.rows (c.as_mut_slice.ensures.value ∙ c.in_ok-rows.ensures)
          (c.len.ensures ∙ ap length (sym c.as_slice-2.ensures)) c.number_cells.ensures);
      room = omega (arith, c.in_ok-values.ensures.len, c.len-2.ensures);
      within = omega arith;
    }
