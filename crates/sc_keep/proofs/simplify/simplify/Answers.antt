use Rattle.std.proofs.Common.{◌++◌}
use Rattle.sc_keep.proofs.SimplifySteps.{checks_with_demods, still_checks}
use Rattle.sc_keep.proofs.simplify.simplify.Goals as goal

pub rewrite-requires : goal.rewrite-requires
rewrite-requires c =
    let live = c.args.live.usable.now ++ c.args.live.sos.now ++ c.args.live.passive.now in
    checks_with_demods live c.args.demods.now c.args.made.lines c.requires.checks

pub cut-requires-clause-checks : goal.cut-requires-clause-checks
cut-requires-clause-checks c =
    let live = c.args.live.usable.now ++ c.args.live.sos.now ++ c.args.live.passive.now in
    still_checks live c.args.demods.now c.args.made.lines c.in_ok-rewritten.rewritten.lines c.in_ok-turned.turned.lines c.in_ok-rewritten.ensures.checks c.in_ok-turned.ensures.checks c.requires.checks

pub returns : goal.returns
returns c = record {
  rewritten = c.in_ok-rewritten.rewritten.lines;
  oriented = c.in_ok-turned.turned.lines;
  cut = c.in_ok-shorter.shorter.lines;
  merged = c.in_ok-after.ensures.0;
  rewrites = c.in_ok-rewritten.ensures.rewrites;
  orients = c.in_ok-turned.ensures.orients;
  cuts = c.in_ok-shorter.ensures;
  merges = c.in_ok-after.ensures.1;
  canonical_last = c.in_ok-after.ensures.2;
}
