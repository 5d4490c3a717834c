use Rattle.std.proofs.Common.{sym, subst, ◌+◌, List, ◌<◌, length}
use Rattle.std.specs.Prelude.{IsSomeAnd}
use Rattle.sc_term.specs.declared.Line.{Line}
use Rattle.sc_steps.specs.Derivation.{last_clause}
use Rattle.sc_core_rules.specs.Order.{goes, ends}
use Rattle.sc_core_rules.specs.Simplification.{MergesOnce}
use Rattle.sc_keep.proofs.MergeLaws.{last_length, still_short, falls, merge_found, merge_ends}
use Rattle.sc_keep.proofs.merge.merge_all.Goals as goal

pub loop-line-smaller : goal.loop-line-smaller
loop-line-smaller c =
    let lines = c.loop-line.lines in
    let line = c.in-Some.line in
    let one = merge_found c.as_slice.result.now lines c.in_ok-line.field-0 line c.as_slice.ensures c.in-Some.is c.in_ok-line.ensures in
    subst (λ (ls : List Line). last_length ls < last_length lines) (sym c.in_ok-push.ensures.ok) (falls lines 4294967296 c.loop-line.invariant.short line one)

pub loop-line-preserved : goal.loop-line-preserved
loop-line-preserved c =
    let lines = c.loop-line.lines in
    let line = c.in-Some.line in
    let one = merge_found c.as_slice.result.now lines c.in_ok-line.field-0 line c.as_slice.ensures c.in-Some.is c.in_ok-line.ensures in
    let grown = sym c.in_ok-push.ensures.ok in
    record {
      short = subst (λ (ls : List Line). IsSomeAnd (last_clause ls) (λ c. length ls + length c.literals < 4294967296)) grown (still_short lines 4294967296 c.loop-line.invariant.short line one);
      leads = λ after h. c.loop-line.invariant.leads after (goes (subst (MergesOnce lines) grown one) h);
    }

pub returns-clause-merges : goal.returns-clause-merges
returns-clause-merges c = c.loop-line.invariant.leads c.loop-line.lines
    (ends (merge_ends c.as_slice.result.now c.loop-line.lines c.in_ok-line.field-0 c.as_slice.ensures c.in_default.is c.in_ok-line.ensures))

pub returns-clause-short : goal.returns-clause-short
returns-clause-short c = c.loop-line.invariant.short
