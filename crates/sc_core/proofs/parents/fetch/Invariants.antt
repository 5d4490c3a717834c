use Rattle.std.proofs.Common.{take}
use Rattle.sc_core_rules.specs.Book.{numbered_clauses}
use Rattle.sc_core.specs.Parents.{AreParents}
use Rattle.sc_core.proofs.parents.fetch.Given as goal

abbrev pub invariant-loop-n : goal.invariant-loop-n
invariant-loop-n l = AreParents (numbered_clauses l.book.problem l.book.book) (take l.n-index l.numbers) l.parents
