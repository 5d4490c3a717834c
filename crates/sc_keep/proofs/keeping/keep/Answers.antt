use Rattle.sc_keep.specs.Lists.{book_of}
use Rattle.sc_keep.proofs.KeepLaws.{without_rival}
use Rattle.sc_keep.proofs.keeping.keep.Goals as goal

pub returns-in_ok-out-in-None : goal.returns-in_ok-out-in-None
returns-in_ok-out-in-None c problem same =
    without_rival problem (book_of c.args.lists.now) (book_of c.sweep.new.lists) c.args.n.now c.in_ok-out-in-None.out
    c.as_slice.result.now c.as_slice-2.result.now c.as_slice-3.result.now c.in_ok-rival.field-0
    c.as_slice.ensures c.as_slice-2.ensures c.as_slice-3.ensures c.in-None.is c.in_ok-rival.ensures (c.in_ok-out-in-None.ensures problem same)
