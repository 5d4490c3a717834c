use Rattle.std.proofs.Common.{◌≡◌, ◌∙◌, sym, ap, ◌+◌, length, max, drop, get_or, slice_get, arith}
use Rattle.std.proofs.lemmas.Option.{slice_get-get_or}
use Rattle.sc_cells.specs.declared.cells.Cell.{Cell}
use Rattle.sc_least.specs.Bound.{above, used, used_by_value}
use Rattle.sc_least.proofs.AboveLaws.{entry_there, is_cell, used_more, used_last}
use Rattle.sc_least.proofs.used.above_used.Goals as goal

pub loop-number-preserved : goal.loop-number-preserved
loop-number-preserved c = record {
  within = omega (arith, c.loop-number-test.true);
  so_far = λ entries are listed.
      let sig = c.args.sig.now in
      let size = c.args.size in
      let cells = c.args.cells.now in
      let values = c.args.prefix.now in
      let number = c.loop-number.number in
      let below = c.loop-number-test.true in
      let shorter = c.requires.shorter in
      let some : Cell = record { sym = record { 0 = 0 }; place = 0 } in
      let at = slice_get-get_or cells number some (omega (arith, below, shorter)) in
      let e = entry_there size entries number (get_or cells number some) (ap (λ cs. slice_get cs number) (sym listed) ∙ at) in
      let v = get_or values number 0 in
      let has = slice_get-get_or values number 0 below in
      let now : c.above_cell.result ≡ max (above e.0.indices) (above (used_by_value sig e.0 v)) = c.above_cell.ensures e.0 (is_cell sig size entries number e.0 are e.1) e.2 in
      ap (λ m. max m (above (used sig (drop (number + 1) entries) (drop (number + 1) values)))) (c.max-most.ensures ∙ ap (λ m. max c.loop-number.most m) now)
      ∙ used_more sig entries values number (number + 1) c.loop-number.most e.0 v (above (used sig entries values)) (omega arith) e.1 has
      (c.loop-number.invariant.so_far entries are listed);
}

pub returns : goal.returns
returns c entries are listed =
    let sig = c.args.sig.now in
    let size = c.args.size in
    let cells = c.args.cells.now in
    let values = c.args.prefix.now in
    let number = c.loop-number.number in
    let past = c.loop-number-test.false in
    let within = c.loop-number.invariant.within in
    let last : number ≡ length values = omega (arith, past, within) in
    let some : Cell = record { sym = record { 0 = 0 }; place = 0 } in
    let at = slice_get-get_or cells (length values) some c.requires.shorter in
    let e = entry_there size entries (length values) (get_or cells (length values) some) (ap (λ cs. slice_get cs (length values)) (sym listed) ∙ at) in
    let now : c.above_indices.result ≡ above e.0.indices = c.above_indices.ensures e.0 (is_cell sig size entries (length values) e.0 are e.1) e.2 in
    let rest : used sig (drop number entries) (drop number values) ≡ e.0.indices = used_last sig entries values number e.0 last (ap (slice_get entries) last ∙ e.1) in
    c.max.ensures ∙ ap (λ m. max c.loop-number.most m) (now ∙ ap above (sym rest)) ∙ c.loop-number.invariant.so_far entries are listed
