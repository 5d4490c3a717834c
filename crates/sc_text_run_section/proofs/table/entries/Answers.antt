use Rattle.std.proofs.Common.{◌≡◌, ◌∙◌, sym, refl, suc, ◌+◌, ◌-◌, length, arith, rules, subst, ap, List}
use Rattle.sc_input_scan.specs.Told.{Fails}
use Rattle.sc_input_rules.specs.declared.token.Token.{Token}
use Rattle.sc_interp.specs.Structure.{values_below}
use Rattle.sc_text_run_rules.specs.VersionGrammar.{an_entry}
use Rattle.sc_text_run_section.proofs.Counting.{counted_on, counted_fail}
use Rattle.sc_text_run_section.proofs.EntriesInTurn.{more_long, more_below}
use Rattle.sc_text_run_section.proofs.table.entries.Goals as goal

pub loop-read-preserved : goal.loop-read-preserved
loop-read-preserved c =
    let most = length c.args.tokens.now in
    let i = c.loop-read.read in
    let more : most - i ≡ suc (most - (i + 1)) = omega (arith, c.loop-read-test.true) in
    let still : c.args.count - i ≡ suc (c.args.count - (i + 1)) = omega (arith, c.loop-read.invariant.within, c.if-read-count.false) in
    record {
      all =
          rw c.new-rest-in-loop-read.ensures (counted_on (λ k. an_entry c.args.role c.args.size) most i c.args.count i (i + 1) c.loop-read.front c.push.new.self c.in_ok-entry.entry c.loop-read.rest c.in_ok-entry.after.now
          more still refl c.in_ok-push.ensures.ok (ap (λ (rest : List Token). an_entry c.args.role c.args.size rest) (sym c.tokens-left.ensures) ∙ c.in_ok-entry.ensures.value) ∙ c.loop-read.invariant.all);
      many = more_long c.loop-read.front c.push.new.self c.in_ok-entry.entry i c.in_ok-push.ensures.ok c.loop-read.invariant.many;
      below = more_below c.loop-read.front c.push.new.self c.in_ok-entry.entry (values_below c.args.role c.args.size) c.in_ok-push.ensures.ok c.loop-read.invariant.below c.in_ok-entry.ensures.below;
      within = omega (arith, c.loop-read.invariant.within, c.if-read-count.false);
    }

pub returns-in_err-entry-clause-value : goal.returns-in_err-entry-clause-value
returns-in_err-entry-clause-value c =
    let most = length c.args.tokens.now in
    let i = c.loop-read.read in
    let more : most - i ≡ suc (most - (i + 1)) = omega (arith, c.loop-read-test.true) in
    let still : c.args.count - i ≡ suc (c.args.count - (i + 1)) = omega (arith, c.loop-read.invariant.within, c.if-read-count.false) in
    counted_fail (λ k. an_entry c.args.role c.args.size) _ _ c.in_err-entry.field-0.0 most i c.args.count i c.loop-read.front c.loop-read.rest _
    more still (search rules) (subst (λ (rest : List Token). Fails c.in_err-entry.field-0.0 (an_entry c.args.role c.args.size rest)) c.tokens-left.ensures c.in_err-entry.ensures.value) c.loop-read.invariant.all
