use Rattle.sc_keep.specs.Lists.{book_of}
use Rattle.sc_keep.proofs.KeepLaws.{both_sweep}
use Rattle.sc_keep.proofs.StaysReady.{swept_distinct}
use Rattle.sc_keep.proofs.keeping.sweep.Goals as goal

pub demodulate-requires-clause-distinct : goal.demodulate-requires-clause-distinct
demodulate-requires-clause-distinct c =
    let told = c.in_ok-subsumed.ensures in
    swept_distinct c.args.lists.now c.delete_subsumed.new.lists told.others told.deleted c.requires.distinct

pub returns : goal.returns
returns c problem same =
    both_sweep problem c.args.flags same (book_of c.args.lists.now) (book_of c.delete_subsumed.new.lists) (book_of c.demodulate.new.lists) c.args.n.now c.in_ok-subsumed.subsumed.items
    c.in_ok-rewritten.rewritten.items c.in_ok-subsumed.ensures c.in_ok-rewritten.ensures c.in_ok-out.out c.in_ok-out.ensures
