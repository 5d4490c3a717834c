use Rattle.sc_term.proofs.SymbolLaws.{known_stays}
use Rattle.sc_term.proofs.signature.Signature.add_named.Goals as goal

pub returns-in-Some-clause-list : goal.returns-in-Some-clause-list
returns-in-Some-clause-list c = known_stays c.args.self.now _ c.in-Some.id.0 c.in-Some.ensures.found
