use Rattle.std.proofs.Common.{◌≡◌, ◌∙◌, sym, ap, ◌<◌, arith}
use Rattle.sc_term.specs.Term.{term_under, term_width, term_depth}
use Rattle.sc_term.specs.Occurrence.{shift_by}
use Rattle.sc_term.proofs.Occurrences.{at-most-largest, pushed}
use Rattle.sc_term.proofs.renaming.+shifting.Goals as goal

pub shift_terms-shift_term-requires : goal.shift_terms-shift_term-requires
shift_terms-shift_term-requires t c =
    let least = at-most-largest term_width c.args.terms.now c.loop-term.term-index c.term-item.result c.loop-term-test.true c.term-item.is in
    let shallow = at-most-largest term_depth c.args.terms.now c.loop-term.term-index c.term-item.result c.loop-term-test.true c.term-item.is in
    (omega (arith, shallow, c.decreases), omega (arith, least, c.requires))

pub shift_terms-loop-term-preserved : goal.shift_terms-loop-term-preserved
shift_terms-loop-term-preserved t c =
    pushed (term_under (shift_by c.args.by)) c.args.terms.now c.loop-term.term-index c.term-item.result c.in_ok-shift_term.field-0 c.loop-term.made c.push.new.self
    c.loop-term-test.true c.term-item.is c.loop-term.invariant c.in_ok-shift_term.ensures c.in_ok-push.ensures.ok
