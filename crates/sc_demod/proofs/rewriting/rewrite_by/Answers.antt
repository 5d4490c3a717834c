use Rattle.std.proofs.Common.{◌≡◌, sym, subst, ℕ, suc, ◌+◌, ◌-◌, List, MatchOption, arith}
use Rattle.sc_term.specs.declared.Line.{Line}
use Rattle.sc_core_rules.specs.Order.{ExhaustsWithin, limit, ends, goes}
use Rattle.sc_core_rules.specs.Rewriting.{RewritesOnce}
use Rattle.sc_demod.specs.Rewriting.{IsRewritten}
use Rattle.sc_demod.proofs.PartLaws.{agrees_with}
use Rattle.sc_demod.proofs.RewriteSteps.{rewrite_checks}
use Rattle.sc_demod.proofs.rewriting.rewrite_by.Goals as goal

pub rewrite_once-requires-clause-agrees : goal.rewrite_once-requires-clause-agrees
rewrite_once-requires-clause-agrees c = λ d listed.
    let over = c.requires.checks in
    agrees_with c.args.demods.now c.loop-turn.lines d (over.0, over.1, c.loop-turn.invariant.checks over.0 over.1 over.2) listed

pub returns-in-None-clause-rewrites : goal.returns-in-None-clause-rewrites
returns-in-None-clause-rewrites c =
    let lines = c.loop-turn.lines in
    let told = subst (λ o. MatchOption o ((c.rewrite_once.new.lines ≡ lines) × ((after : List Line) → ¬ RewritesOnce c.args.demods.now lines after))
    (λ next. IsRewritten c.args.demods.now lines c.rewrite_once.new.lines next)) c.in-None.is c.in_ok-next.ensures in
    let left : c.args.limit - c.loop-turn._turn ≡ suc (c.args.limit - (c.loop-turn._turn + 1)) = omega arith in
    c.loop-turn.invariant.chain c.rewrite_once.new.lines
    (subst (λ (n : ℕ). ExhaustsWithin (RewritesOnce c.args.demods.now) n lines c.rewrite_once.new.lines) (sym left)
    (subst (λ (z : List Line). ExhaustsWithin (RewritesOnce c.args.demods.now) (suc (c.args.limit - (c.loop-turn._turn + 1))) lines z) (sym told.0) (ends told.1)))

pub loop-turn-preserved : goal.loop-turn-preserved
loop-turn-preserved c =
    let lines = c.loop-turn.lines in
    let demods = c.args.demods.now in
    let told = subst (λ o. MatchOption o ((c.rewrite_once.new.lines ≡ lines) × ((after : List Line) → ¬ RewritesOnce c.args.demods.now lines after))
    (λ next. IsRewritten c.args.demods.now lines c.rewrite_once.new.lines next)) c.in-Some.is c.in_ok-next.ensures in
    let left : c.args.limit - c.loop-turn._turn ≡ suc (c.args.limit - (c.loop-turn._turn + 1)) = omega arith in
    record {
      ends = told.ends;
      within = told.within;
      checks = λ clauses stand steps. rewrite_checks clauses demods stand lines c.rewrite_once.new.lines told.once (c.loop-turn.invariant.checks clauses stand steps);
      chain = λ z more. c.loop-turn.invariant.chain z (subst (λ (n : ℕ). ExhaustsWithin (RewritesOnce c.args.demods.now) n lines z) (sym left) (goes told.once more));
    }

pub returns-clause-rewrites : goal.returns-clause-rewrites
returns-clause-rewrites c =
    let lines = c.loop-turn.lines in
    let none : c.args.limit - c.loop-turn._turn ≡ 0 = omega arith in
    c.loop-turn.invariant.chain lines (subst (λ (n : ℕ). ExhaustsWithin (RewritesOnce c.args.demods.now) n lines lines) (sym none) limit)
