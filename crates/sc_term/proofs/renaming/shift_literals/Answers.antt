use Rattle.std.proofs.Common.{◌≡◌, ◌∙◌, sym, ap, ◌<◌, map, arith}
use Rattle.sc_term.specs.Term.{largest, term_width}
use Rattle.sc_term.specs.Clause.{literal_width}
use Rattle.sc_term.proofs.Occurrences.{at-most-largest}
use Rattle.sc_term.proofs.renaming.shift_literals.Goals as goal

pub shift_terms-requires : goal.shift_terms-requires
shift_terms-requires c =
    let least = at-most-largest literal_width c.args.literals.now c.loop-literal.literal-index c.literal-item.result c.loop-literal-test.true c.literal-item.is in
    let same = ap (λ ts. largest (map term_width ts)) c.as_slice.ensures in
    omega (arith, least, same, c.requires)
