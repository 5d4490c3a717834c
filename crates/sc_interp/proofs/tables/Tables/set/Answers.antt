use Rattle.std.proofs.Common.{◌∙◌, sym, ap, subst, drop, arith}
use Rattle.std.specs.List.{AllZip}
use Rattle.std.proofs.lemmas.List.{with_items_is}
use Rattle.sc_interp.specs.Structure.{Structure, IsTableOf}
use Rattle.sc_interp.proofs.Structures.{with_entry_of}
use Rattle.sc_interp.proofs.tables.Tables.set.Goals as goal

pub returns-clause-over : goal.returns-clause-over
returns-clause-over c = λ symbols h.
    let before = c.as_mut_slice.ensures.value ∙ ap (λ (t : Structure). t.tables) c.self.view_is in
    let after = with_items_is c.self.inside.tables c.set_entry.new.tables (omega (arith, c.set_entry.auto.tables, c.as_mut_slice.ensures.len)) in
    subst (AllZip IsTableOf (drop 1 symbols)) (sym after)
    (with_entry_of (drop 1 symbols) c.as_mut_slice.result.now c.set_entry.new.tables _ _ _ c.set_entry.ensures
    (subst (AllZip IsTableOf (drop 1 symbols)) (sym before) h))
