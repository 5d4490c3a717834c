use Rattle.std.proofs.Common.{◌≡◌, ◌∙◌, sym, ap, subst, ◌+◌, List, Some, slice_get, slice_index, get_or, arith}
use Rattle.std.proofs.lemmas.Option.{slice_get-get_or, slice_get_within}
use Rattle.sc_term.specs.declared.symbol.Symbol.{Symbol}
use Rattle.sc_interp.specs.Structure.{Structure, with_entry}
use Rattle.sc_cells.specs.declared.cells.Cell.{Cell}
use Rattle.sc_find.proofs.TableLaws.{AreFilled, filled_more}
use Rattle.sc_find.proofs.tables.fill.Goals as goal

pub loop-k-preserved : goal.loop-k-preserved
loop-k-preserved c =
    let cells = c.args.cells.now in
    let values = c.args.values.now in
    let k = c.loop-k.k in
    let some : Cell = record { sym = record { 0 = 0 }; place = 0 } in
    let one : Cell = get_or cells k some in
    let at : slice_get cells k ≡ Some one = slice_get-get_or cells k some c.loop-k-test.true in
    let more = filled_more c.loop-k.tables cells values k one at c.requires.distinct c.loop-k.invariant.filled in
    let same : c.set.new.self ≡ with_entry c.loop-k.tables one.sym one.place (slice_index values k) = c.set.ensures.value in
    record {
      filled = subst (λ (t : Structure). AreFilled t cells values (k + 1)) (sym same) more;
      over = λ (symbols : List Symbol) h. c.set.ensures.over symbols (c.loop-k.invariant.over symbols h);
      size = ap (λ (t : Structure). t.size) same ∙ c.loop-k.invariant.size;
    }

pub returns-clause-each : goal.returns-clause-each
returns-clause-each c k cell at =
    let within = slice_get_within c.args.cells.now k cell at in
    c.loop-k.invariant.filled.each k cell (omega (arith, within, c.loop-k-test.false)) at
