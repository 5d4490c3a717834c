use Rattle.std.proofs.Common.{◌≡◌, ◌∙◌, reverse}
use Rattle.std.proofs.lemmas.Iterator.Adapters.{YieldsList-from_rev_slice}
use Rattle.std.proofs.lemmas.Iterator.Consumers.{YieldsList-end}
use Rattle.sc_input_rules.specs.Numbering.{term_at}
use Rattle.sc_input_values.proofs.StackLaws.{name_before, from_end, variable_term, symbol_term}
use Rattle.sc_input_values.proofs.terms.terms_from.Goals as goal
use Rattle.sc_input_values.proofs.terms.terms_from.Goals.{in-Some-number, in-None-number}

pub loop-occurrence-preserved : goal.loop-occurrence-preserved
loop-occurrence-preserved g c =
    let variable = g.N.Numbering.number c.args.variables.now in
    let symbols = c.args.sig.now in
    let o = c.in-Some.occurrence in
    let later = reverse c.loop-occurrence.stack.items in
    let made : c.match-number.term ≡ term_at variable symbols o.now later =
    elim c.match-number.branch [
      | in-Some-number w ↦ w.term-is ∙ variable_term variable symbols o.now later w.in-Some-number.number w.in-Some-number.ensures
      | in-None-number w ↦
          w.term-is ∙ symbol_term variable symbols o.now later c.in_ok-args.args (w.symbol_number).result
          w.in-None-number.ensures (w.symbol_number).ensures c.in_ok-args.ensures.taken
    ] in
    rw c.in_ok-push.ensures.items
    (name_before variable symbols c.loop-occurrence.yielded o c.loop-occurrence.stack.items c.take_off.new.stack.items c.match-number.term
    c.loop-occurrence.invariant c.in_ok-args.ensures.left made)

pub returns : goal.returns
returns g c =
    let end = YieldsList-end (YieldsList-from_rev_slice c.args.occurrences.now cc) c.loop-occurrence.yielded _ c.loop-occurrence.yielded_by _ _ c.in-None.is c.next.ensures.steps in
    from_end (g.N.Numbering.number c.args.variables.now) c.args.sig.now c.loop-occurrence.yielded c.args.occurrences.now c.loop-occurrence.stack.items c.reverse.new.self.items c.from_vec.result
    c.from_vec.ensures c.reverse.ensures.items c.loop-occurrence.invariant end.0
