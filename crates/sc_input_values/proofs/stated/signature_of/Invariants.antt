use Rattle.std.proofs.Common.{◌≡◌, [], ◌∷◌, take, flat_map}
use Rattle.sc_term.specs.Symbol.{same_symbol, equality}
use Rattle.sc_input_values.specs.Once.{with_each}
use Rattle.sc_input_values.proofs.ListingLaws.{item_symbols}
use Rattle.sc_input_values.proofs.stated.signature_of.Given as goal

abbrev pub invariant-loop-item : goal.invariant-loop-item
invariant-loop-item l = l.sig ≡ with_each same_symbol (equality ∷ []) (flat_map item_symbols (take l.item-index l.items))
