use Rattle.std.proofs.Common.{◌∙◌, sym, ◌++◌, ◌<◌, true≢false}
use Rattle.sc_term.specs.declared.Numbered.{Numbered}
use Rattle.sc_keep.specs.Lists.{book_of}
use Rattle.sc_keep.specs.Rivals.{IsFit}
use Rattle.sc_keep.proofs.DistinctLaws.{distinct_first}
use Rattle.sc_keep.proofs.StaysReady.{all_front}
use Rattle.sc_keep.proofs.ReadyLaws.{all_pushed, distinct_pushed, goes_on}
use Rattle.sc_keep.proofs.fate.meet_fate.Goals as goal

pub keep-requires-clause-sos : goal.keep-requires-clause-sos
keep-requires-clause-sos c =
    let lists = c.args.lists.now in
    all_pushed IsFit lists.sos c.join.new.lists.sos c.args.n c.in_ok-join-in-None.ensures.sos c.requires.ready.sos c.requires.fit

pub keep-requires-clause-distinct : goal.keep-requires-clause-distinct
keep-requires-clause-distinct c =
    let lists = c.args.lists.now in
    let told = c.in_ok-join-in-None.ensures in
    distinct_pushed lists.usable lists.sos c.join.new.lists.usable c.join.new.lists.sos c.args.n told.usable told.sos (distinct_first (lists.usable ++ lists.sos) lists.passive c.requires.ready.distinct)
    (all_front (λ (p : Numbered). p.number < c.args.n.number) (lists.usable ++ lists.sos) lists.passive c.requires.ready.below)

pub returns : goal.returns
returns c problem number same_flags same_params =
    goes_on problem (book_of c.args.lists.now) (book_of c.join.new.lists) (book_of c.keep.new.lists) c.args.n c.args.lines c.args.turn c.in_ok-out-in-None.out c.args.flags c.args.params
    c.in_ok-fate.field-0 number same_flags same_params (λ e. true≢false (sym (c.is_empty.ensures.1 e) ∙ c.if-is_empty.false))
    c.in-None.is c.in_ok-fate.ensures (c.in_ok-join-in-None.ensures.book problem number) (c.in_ok-out-in-None.ensures problem)
