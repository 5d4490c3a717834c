-- A finder may go to another thread: its press may (`sc_shelf`), and a problem may be shared. `crossing` is the set of
-- these for `search`, to be listed before the sets of std and of terms, as that of `sc_shelf` is. A finder borrows its
-- problem for a lifetime, so a type that holds one has a law over that lifetime too, made of `finder_send` in the same way.
use denote.Ref.{NamedLft}
use denote.Param.Send.{IsSend, IsSync, sendable}
use Rattle.std.proofs.Crossing.{crosses}
use Rattle.sc_term.proofs.Term.TheLaws.TheKnot as terms
use Rattle.sc_shelf.proofs.Crossing.{press_send}
use Rattle.sc_input_rules.specs.contracts.problem.Problem as Problem
use Rattle.sc_worker.specs.contracts.choosing.Chooser as Chooser
use Rattle.sc_worker.specs.contracts.finder.Finder as Finder

pub problem_sync : IsSync Problem.the_row
problem_sync = search (crosses, terms.crosses, sendable) depth 60 fits 20000

pub chooser_send : (a : NamedLft) → IsSend (Chooser.the_row a)
chooser_send a = search (problem_sync, crosses, terms.crosses, sendable) depth 60 fits 20000

pub finder_send : (a : NamedLft) → IsSend (Finder.the_row a)
finder_send a = search (chooser_send, press_send, crosses, sendable) depth 60 fits 20000

pub ruleset crossing = (finder_send, chooser_send, problem_sync)
