use Rattle.sc_keep.specs.Lists.{book_of}
use Rattle.sc_keep.proofs.KeepLaws.{left_out}
use Rattle.sc_keep.proofs.deleting.delete.Goals as goal

pub returns : goal.returns
returns c others is = left_out (book_of c.args.lists.now) others c.args.gone.now c.leave_out.new.ps c.leave_out-2.new.ps is c.leave_out.ensures c.leave_out-2.ensures
