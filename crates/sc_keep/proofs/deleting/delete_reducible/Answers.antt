use Rattle.sc_core_rules.specs.Rewriting.{HasRedex}
use Rattle.sc_keep.specs.Lists.{book_of}
use Rattle.sc_keep.proofs.KeepLaws.{deletes_none, deletes_them}
use Rattle.sc_keep.proofs.deleting.delete_reducible.Goals as goal

pub returns-then-not-back_demod : goal.returns-then-not-back_demod
returns-then-not-back_demod c = deletes_none (λ d. HasRedex d c.args.n.now) (book_of c.args.lists.now) c.args.n.now c.args.back_demod c.new.result.items c.if-not-back_demod.true c.new.ensures.items

pub returns : goal.returns
returns c =
    deletes_them (λ d. HasRedex d c.args.n.now) (book_of c.args.lists.now) c.args.n.now c.args.back_demod (book_of c.delete.new.lists) c.in_ok-gone.gone.items c.as_slice.result.now
    c.if-not-back_demod.false c.in_ok-gone.ensures c.as_slice.ensures.value c.delete.ensures
