use Rattle.std.proofs.Common.{sym}
use Rattle.sc_term.proofs.SymbolLaws.{found, absent}
use Rattle.sc_term.proofs.signature.Signature.number_of.Goals as goal

pub returns-in-Some-clause-found : goal.returns-in-Some-clause-found
returns-in-Some-clause-found c = rw (← c.self.view_is) (found _ _ _ (sym c.in-Some.ensures.index))

pub returns-in-None-clause-none : goal.returns-in-None-clause-none
returns-in-None-clause-none c = rw (← c.self.view_is) (λ i. absent _ _ i (sym c.in-None.ensures.found))
