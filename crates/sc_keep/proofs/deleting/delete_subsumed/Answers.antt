use Rattle.sc_term.specs.Subsumption.{Subsumes}
use Rattle.sc_keep.specs.Lists.{book_of}
use Rattle.sc_keep.proofs.KeepLaws.{deletes_none, deletes_them}
use Rattle.sc_keep.proofs.deleting.delete_subsumed.Goals as goal

pub returns-then-not-back_sub : goal.returns-then-not-back_sub
returns-then-not-back_sub c = deletes_none (Subsumes c.args.n.now.clause) (book_of c.args.lists.now) c.args.n.now c.args.back_sub c.new.result.items c.if-not-back_sub.true c.new.ensures.items

pub returns : goal.returns
returns c =
    deletes_them (Subsumes c.args.n.now.clause) (book_of c.args.lists.now) c.args.n.now c.args.back_sub (book_of c.delete.new.lists) c.in_ok-gone.gone.items c.as_slice.result.now
    c.if-not-back_sub.false c.in_ok-gone.ensures c.as_slice.ensures.value c.delete.ensures
