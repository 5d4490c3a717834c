use Rattle.std.proofs.Common.{subst}
use Rattle.sc_interp.specs.Marks.{IsMark}
use Rattle.sc_interp.specs.Versions.{ClaimedStructure}
use Rattle.sc_core.proofs.choosing.with_row.Goals as goal

pub returns : goal.returns
returns c = record {
  guides = c.name.ensures.guide;
  given = λ i. record { number = c.args.n; clause = c.in_ok-copy.ensures i };
  marked = subst (λ (v : ClaimedStructure). IsMark v.tables c.args.clause.now c.in_ok-truth.truth) c.version.ensures.value c.in_ok-truth.ensures;
  row = λ i. record { turn = c.args.turn; number = c.args.n; cause = c.args.cause; name = c.name.ensures.value i; truth = c.in_ok-truth.truth; lengths = c.in_ok-lengths.ensures i };
}
