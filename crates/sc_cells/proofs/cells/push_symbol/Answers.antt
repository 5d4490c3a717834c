use Rattle.std.proofs.Common.{◌∙◌, ap, subst, ◌<◌, ◌++◌, [], ◌∷◌, if◌then◌else◌}
use Rattle.sc_cells.proofs.CellLaws.{place_more}
use Rattle.sc_cells.proofs.cells.push_symbol.Goals as goal

pub loop-place-preserved : goal.loop-place-preserved
loop-place-preserved c =
    place_more c.args.size c.args.greatest c.args.sym.0 c.args.arity c.loop-place.place c.args.cells.now c.loop-place.cells c.push_if.new.cells
    c.requires.not_empty (subst (λ n. c.loop-place.place < n) c.table_len-count.ensures.value c.loop-place-test.true) c.loop-place.invariant
    (c.in_ok-push_if.ensures ∙ ap (λ b. c.loop-place.cells ++ (if b then record { sym = c.args.sym; place = c.loop-place.place } ∷ [] else [])) c.has_greatest-wanted.ensures)
