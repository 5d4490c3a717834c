use Rattle.std.proofs.Common.{◌∙◌, sym, true≢false}
use Rattle.sc_interp.proofs.ClaimLaws.{first_found, all_passed}
use Rattle.sc_interp.proofs.claims.first_false.Goals as goal

pub returns-then-not-is_satisfied-clause-first : goal.returns-then-not-is_satisfied-clause-first
returns-then-not-is_satisfied-clause-first c =
    first_found (record { size = c.args.size; tables = c.args.tables.now }) c.args.claims.now c.loop-at.at c.index-claims-at.result c.loop-at-test.true
    c.loop-at.invariant (λ all. true≢false (sym (c.is_satisfied.ensures.1 all) ∙ c.if-not-is_satisfied.true))

pub returns-clause-none : goal.returns-clause-none
returns-clause-none c =
    all_passed (record { size = c.args.size; tables = c.args.tables.now }) c.args.claims.now c.loop-at.at c.loop-at-test.false c.loop-at.invariant
