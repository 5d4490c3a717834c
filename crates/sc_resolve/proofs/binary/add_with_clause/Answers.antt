use Rattle.std.proofs.Common.{length, arith}
use Rattle.std.proofs.lemmas.Option.{slice_get_read}
use Rattle.sc_core_rules.specs.Resolution.{binary_numbers}
use Rattle.sc_resolve.specs.Binary.{IsWithClause}
use Rattle.sc_resolve.proofs.Extending.{goes_on, stops}
use Rattle.sc_resolve.proofs.BinaryLaws.{clauses_rise, with_literal}
use Rattle.sc_resolve.proofs.binary.add_with_clause.Goals as goal

pub returns-then-len-limit : goal.returns-then-len-limit
returns-then-len-limit c =
    stops binary_numbers c.args.limit (IsWithClause c.args.partner c.args.literals.now c.args.others.now) (clauses_rise c.args.partner c.args.literals.now c.args.others.now)
    c.loop-at.at (length c.args.literals.now) c.args.sites.now c.loop-at.sites c.loop-at.invariant (omega arith) (omega arith)

pub loop-at-preserved : goal.loop-at-preserved
loop-at-preserved c =
    let there = slice_get_read c.args.literals.now (length c.args.literals.now) c.loop-at.at c.index-literals-at.result (λ i. length c.args.literals.now) c.loop-at-test.true c.index-literals-at.is in
    goes_on binary_numbers c.args.limit (IsWithClause c.args.partner c.args.literals.now c.args.others.now) (clauses_rise c.args.partner c.args.literals.now c.args.others.now)
    c.loop-at.at c.args.sites.now c.loop-at.sites c.add_with_literal.new.sites c.loop-at.invariant
    (with_literal c.args.limit c.args.partner c.args.literals.now c.args.others.now c.loop-at.at c.index-literals-at.result there c.loop-at.sites c.add_with_literal.new.sites c.in_ok-add_with_literal.ensures)
