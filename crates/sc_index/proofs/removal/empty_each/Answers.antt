use Rattle.std.proofs.Common.{◌≡◌, ◌∙◌, ◌+◌, suc, length, subst, arith}
use Rattle.sc_index.specs.declared.entries.Entry.{Entry}
use Rattle.sc_index.specs.Entries.{AreEmptied}
use Rattle.sc_index.proofs.RemovalLaws.{emptied_more}
use Rattle.sc_index.proofs.removal.empty_each.Goals as goal

pub loop-at-preserved : goal.loop-at-preserved
loop-at-preserved c =
    let this : Entry = record { literal = c.args.lit.now; number = c.args.number } in
    let old = c.args.slots.now in
    record {
      long = c.empty_at.ensures.long ∙ c.loop-at.invariant.long;
      emptied = subst (λ n. AreEmptied this n old c.empty_at.new.slots) (let e : suc c.loop-at.at ≡ c.loop-at.at + 1 = omega arith in e)
          (emptied_more this c.loop-at.at old c.loop-at.slots c.empty_at.new.slots (omega (arith, c.loop-at-test.true, c.len-at-end.ensures)) c.loop-at.invariant.emptied c.empty_at.ensures.emptied);
    }

pub returns : goal.returns
returns c =
    let this : Entry = record { literal = c.args.lit.now; number = c.args.number } in
    subst (λ n. AreEmptied this n c.args.slots.now c.loop-at.slots) (omega (arith, c.loop-at-test.false, c.len-at-end.ensures, c.loop-at.auto.at-end)) c.loop-at.invariant.emptied
