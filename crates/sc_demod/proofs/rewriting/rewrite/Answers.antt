use Rattle.std.proofs.Common.{subst, List, IfOk}
use Rattle.sc_term.specs.declared.Numbered.{Numbered}
use Rattle.sc_demod.specs.Standing.{KeepsChecking}
use Rattle.sc_demod.proofs.rewriting.rewrite.Goals as goal

pub returns-clause-checks : goal.returns-clause-checks
returns-clause-checks c = subst (λ (ds : List Numbered). IfOk c.rewrite_by.result (λ after. KeepsChecking ds c.args.made.lines after.lines)) c.as_slice.ensures.value c.rewrite_by.ensures.checks
