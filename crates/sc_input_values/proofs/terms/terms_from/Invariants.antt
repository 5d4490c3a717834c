use Rattle.std.proofs.Common.{◌≡◌, reverse, map}
use Rattle.sc_input_rules.specs.Numbering.{terms_of}
use Rattle.sc_input_values.proofs.terms.terms_from.Given as goal

abbrev pub invariant-loop-occurrence : goal.invariant-loop-occurrence
invariant-loop-occurrence g l = reverse l.stack.items ≡ terms_of (g.N.Numbering.number l.variables) l.sig (reverse (map (λ o. o.now) l.yielded))
