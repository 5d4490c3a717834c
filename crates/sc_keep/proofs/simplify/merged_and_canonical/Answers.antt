use Rattle.std.proofs.Common.{sym, subst, List, ◌<◌, ◌+◌, ◌^◌, length}
use Rattle.std.specs.Prelude.{IsSomeAnd}
use Rattle.sc_term.specs.declared.Line.{Line}
use Rattle.sc_steps.specs.Derivation.{last_clause}
use Rattle.sc_core_rules.specs.Derivation.{EndsCanonical}
use Rattle.sc_keep.proofs.CanonicalForm.{ends_with_canonical}
use Rattle.sc_keep.proofs.WithinLaws.{merged_within}
use Rattle.sc_keep.proofs.SimplifyFound.{some_lines}
use Rattle.sc_keep.proofs.SimplifySteps.{some_lines_of, ends_within, finished_within}
use Rattle.sc_keep.proofs.simplify.merged_and_canonical.Goals as goal

pub has_room-requires : goal.has_room-requires
has_room-requires c = subst (λ (ls : List Line). 0 < length ls) (sym c.as_slice.ensures) (some_lines_of c.args.made.lines c.args.made.clause c.args.made.ends)

pub merge_all-requires : goal.merge_all-requires
merge_all-requires c = subst (λ (ls : List Line). IsSomeAnd (last_clause ls) (λ c. length ls + length c.literals < 2 ^ 32)) c.as_slice.ensures (c.has_room.ensures.0 c.if-not-has_room.false)

pub end_canonical-requires-clause-some : goal.end_canonical-requires-clause-some
end_canonical-requires-clause-some c = (some_lines c.merge_all.new.lines 4294967296 c.in_ok-merge_all.ensures.short).0

pub end_canonical-requires-clause-few : goal.end_canonical-requires-clause-few
end_canonical-requires-clause-few c = (some_lines c.merge_all.new.lines 4294967296 c.in_ok-merge_all.ensures.short).1

pub end_canonical-requires-clause-within : goal.end_canonical-requires-clause-within
end_canonical-requires-clause-within c =
    merged_within c.args.made.lines c.merge_all.new.lines c.in_ok-merge_all.ensures.merges
    (ends_within c.args.made.lines c.args.made.clause c.args.made.ends c.args.made.light c.args.made.shallow)

pub made_of-requires-clause-some : goal.made_of-requires-clause-some
made_of-requires-clause-some c = (ends_with_canonical c.merge_all.new.lines c.end_canonical.new.lines c.in_ok-end_canonical.ensures).0

pub made_of-requires-clause-within : goal.made_of-requires-clause-within
made_of-requires-clause-within c =
    finished_within c.merge_all.new.lines c.end_canonical.new.lines c.in_ok-end_canonical.ensures
    (merged_within c.args.made.lines c.merge_all.new.lines c.in_ok-merge_all.ensures.merges
    (ends_within c.args.made.lines c.args.made.clause c.args.made.ends c.args.made.light c.args.made.shallow))

pub returns : goal.returns
returns c = (c.merge_all.new.lines, c.in_ok-merge_all.ensures.merges, subst (EndsCanonical c.merge_all.new.lines) (sym c.in_ok-after.ensures) c.in_ok-end_canonical.ensures)
