use Rattle.sc_keep.proofs.MergeLaws.{merges_last, merges_no_more}
use Rattle.sc_keep.proofs.merge.next_merge.Goals as goal

pub returns-in_ok-clause-in-Some : goal.returns-in_ok-clause-in-Some
returns-in_ok-clause-in-Some c = merges_last c.args.lines.now 4294967296 c.requires c.index-lines-lines.result c.as_slice.result.now c.in-Some.lit c.in_ok-clause-in-Some.clause
    c.as_slice.ensures c.in-Some.ensures c.in_ok-clause-in-Some.ensures

pub returns-in-None : goal.returns-in-None
returns-in-None c = merges_no_more c.args.lines.now 4294967296 c.requires c.index-lines-lines.result c.as_slice.result.now c.as_slice.ensures c.in-None.ensures
