use Rattle.sc_keep.specs.Lists.{book_of}
use Rattle.sc_keep.proofs.GivenLaws.{gives, never_lost}
use Rattle.sc_keep.proofs.given.give.Goals as goal

pub returns-in_ok-push-in-Some : goal.returns-in_ok-push-in-Some
returns-in_ok-push-in-Some c =
    let lists = c.args.lists.now in
    gives (book_of lists) _ c.args.n c.in-Some.at c.remove-given.result c.as_slice.result.now c.remove-given.new.self c.leave_out.new.ps
    c.as_slice.ensures c.in-Some.ensures.found c.remove-given.ensures.item c.remove-given.ensures.rest c.leave_out.ensures
    (λ i. record (book_of lists) { usable = c.in_ok-push-in-Some.ensures.ok i; sos = c.leave_out.new.ps })

pub returns-in-None : goal.returns-in-None
returns-in-None c = never_lost (book_of c.args.lists.now) c.args.n c.as_slice.result.now c.as_slice.ensures c.in-None.ensures.none c.requires
