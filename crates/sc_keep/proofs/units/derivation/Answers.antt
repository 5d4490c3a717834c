use Rattle.std.proofs.Common.{◌∙◌}
use Rattle.sc_keep.specs.Parts.{unit_pairs}
use Rattle.sc_keep.proofs.ConflictFound.{the_two, first_is, second_is, found_any}
use Rattle.sc_keep.proofs.units.derivation.Goals as goal

pub returns : goal.returns
returns c =
    let n = c.args.n.now.clause in
    let m = c.args.m.now.clause in
    let pairs = unit_pairs n m in
    let two = the_two n m c.requires.unit_n c.requires.unit_m pairs c.args.terms.now c.requires.parts in
    found_any c.args.n.now c.args.m.now c.requires.unit_n c.requires.unit_m c.args.terms.now c.requires.parts two c.requires.opposite
    c.in_ok-first.first c.in_ok-second.second
    (c.in_ok-first.ensures ∙ c.as_slice.ensures ∙ c.index-terms-0.is ∙ first_is n m c.requires.unit_n c.requires.unit_m pairs c.args.terms.now c.requires.parts c.index-terms-0.result)
    (c.in_ok-second.ensures ∙ c.as_slice-2.ensures ∙ c.index-terms-1.is ∙ second_is n m c.requires.unit_n c.requires.unit_m pairs c.args.terms.now c.requires.parts c.index-terms-1.result)
    c.new-lines.result c.add_part.new.lines c.add_part-2.new.lines c.in_ok-left.left c.in_ok-right.right c.new-lines.ensures c.in_ok-left.ensures c.in_ok-right.ensures
    (record { clause = record { literals = c.new-2.result }; lines = c.push.new.self }) (record { literals = c.new.result }) c.new.ensures c.new-2.ensures c.in_ok-push.ensures.ok
