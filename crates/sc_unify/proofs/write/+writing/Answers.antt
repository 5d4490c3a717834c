use Rattle.std.proofs.Common.{◌≡◌, ◌∙◌, sym, ap, ◌<◌, arith}
use Rattle.sc_term.specs.Term.{term_under, term_depth}
use Rattle.sc_unify.specs.Bindings.{bindings, finished}
use Rattle.sc_unify.proofs.Rows.{pushed, largest-least}
use Rattle.sc_unify.proofs.write.+writing.Goals as goal

pub write_terms-write_term-requires : goal.write_terms-write_term-requires
write_terms-write_term-requires t c =
    let least = largest-least term_depth (term_under (finished (bindings c.args.bound.now))) c.args.terms.now c.loop-term.term-index c.term-item.result c.loop-term-test.true c.term-item.is in
    (let h = c.decreases in omega (arith, least, h), c.requires)

pub write_terms-loop-term-preserved : goal.write_terms-loop-term-preserved
write_terms-loop-term-preserved t c =
    pushed (term_under (finished (bindings c.args.bound.now))) c.args.terms.now c.loop-term.term-index c.term-item.result c.in_ok-write_term.field-0 c.loop-term.made c.push.new.self
    c.loop-term-test.true c.term-item.is c.loop-term.invariant c.in_ok-write_term.ensures c.in_ok-push.ensures.ok
