use Rattle.std.proofs.Common.{length, arith}
use Rattle.std.proofs.lemmas.Option.{slice_get_read}
use Rattle.sc_resolve.proofs.Extending.{goes_on, stops}
use Rattle.sc_para.specs.Spots.{pair_numbers}
use Rattle.sc_para.specs.Pairs.{IsWithLiteral}
use Rattle.sc_para.proofs.PairSites.{literals_rise, at_literal}
use Rattle.sc_para.proofs.pairs.add_with_sources.Goals as goal

pub returns-then-len-limit : goal.returns-then-len-limit
returns-then-len-limit c =
    stops pair_numbers c.args.limit (IsWithLiteral c.args.spot c.args.sources.now c.args.literals.now) (literals_rise c.args.spot c.args.sources.now c.args.literals.now)
    c.loop-at.at (length c.args.sources.now) c.args.sites.now c.loop-at.sites c.loop-at.invariant (omega arith) (omega arith)

pub loop-at-preserved : goal.loop-at-preserved
loop-at-preserved c =
    let there = slice_get_read c.args.sources.now (length c.args.sources.now) c.loop-at.at c.index-sources-at.result (λ i. length c.args.sources.now) c.loop-at-test.true c.index-sources-at.is in
    goes_on pair_numbers c.args.limit (IsWithLiteral c.args.spot c.args.sources.now c.args.literals.now) (literals_rise c.args.spot c.args.sources.now c.args.literals.now)
    c.loop-at.at c.args.sites.now c.loop-at.sites c.add_with_source.new.sites c.loop-at.invariant
    (at_literal c.args.limit c.args.spot c.args.sources.now c.args.literals.now c.loop-at.at c.index-sources-at.result there c.loop-at.sites c.add_with_source.new.sites c.in_ok-add_with_source.ensures)
