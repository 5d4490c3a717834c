use Rattle.std.proofs.Common.{◌≢◌, ◌++◌}
use Rattle.std.specs.List.{Contains}
use Rattle.sc_term.specs.Subsumption.{Subsumes}
use Rattle.sc_keep.specs.Sweep.{IsOtherSubsumed}
use Rattle.sc_keep.proofs.OthersLaws.{found_others, in_other_words}
use Rattle.sc_keep.proofs.deleting.subsumed_by.Goals as goal

pub returns : goal.returns
returns c =
    let n = c.args.n.now in
    let us = c.args.lists.now.usable in
    let ss = c.args.lists.now.sos in
    let found =
    found_others (IsOtherSubsumed n) us ss c.as_slice.result.now c.as_slice-2.result.now
    c.new-gone.result.items c.note_subsumed.new.gone.items c.note_subsumed-2.new.gone.items c.sort_unstable.new.self.items
    c.as_slice.ensures c.as_slice-2.ensures c.new-gone.ensures.items c.in_ok-note_subsumed.ensures c.in_ok-note_subsumed-2.ensures
    c.sort_unstable.ensures.permutation c.sort_unstable.ensures.sorted c.requires in (
      found.0,
      in_other_words (λ p. Contains (us ++ ss) p × IsOtherSubsumed n p) (λ p. Contains (us ++ ss) p × (p.number ≢ n.number) × Subsumes n.clause p.clause)
          (λ p h. (h.0, h.1.0, h.1.1)) (λ p h. (h.0, (h.1, h.2))) found.0 found.1,
      found.2,
    )
