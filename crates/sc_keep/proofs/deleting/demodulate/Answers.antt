use Rattle.std.proofs.Common.{◌∙◌, sym, true≢false}
use Rattle.sc_keep.specs.Lists.{book_of}
use Rattle.sc_keep.proofs.KeepLaws.{comes_in, stays_out}
use Rattle.sc_keep.proofs.deleting.demodulate.Goals as goal

pub returns-then-not-becomes_one : goal.returns-then-not-becomes_one
returns-then-not-becomes_one c =
    stays_out c.args.flags (book_of c.args.lists.now) c.args.n.now c.new.result.items (λ h. true≢false (sym (c.becomes_one.ensures.1 h) ∙ c.if-not-becomes_one.true)) c.new.ensures.items

pub join_demodulators-requires-clause-becomes : goal.join_demodulators-requires-clause-becomes
join_demodulators-requires-clause-becomes c = (c.becomes_one.ensures.0 c.if-not-becomes_one.false).1

pub returns : goal.returns
returns c =
    comes_in c.args.flags (book_of c.args.lists.now) c.args.n.now (book_of c.delete_reducible.new.lists) (book_of c.join_demodulators.new.lists) c.in_ok-gone.gone.items
    (c.becomes_one.ensures.0 c.if-not-becomes_one.false) c.in_ok-gone.ensures c.in_ok-join_demodulators.ensures
